-- Rewritings: the members of a closure, how many there may be, and what they promise of answers.
use Rattle.std.specs.Prelude.{◌≡◌, ◌↔◌, ◌+◌, ℕ, List, length, Bool, true, Contains}
use Rattle.std.specs.List.{AllByRecursion}
use Rattle.mast_terms.specs.declared.memory.Stop.{Stop}
use Rattle.mast_terms.specs.declared.memory.Stop.TheVariants.{Named, NoMemory}
use Rattle.mast_terms.specs.declared.term.Term.{Term}
use Rattle.mast_terms.specs.Vocabularies.{EachOnce, IsVocabulary}
use Rattle.mast_cq.specs.declared.query.Cq.{Cq}
use Rattle.mast_cq.specs.Meanings.{Fact}
use Rattle.mast_cq.specs.Sorts.{EachHasOneSort}
use Rattle.mast_tbox.specs.declared.axiom.Inclusion.{Inclusion}
use Rattle.mast_tbox.specs.Inclusions.{normal}
use Rattle.mast_tbox.specs.Numbers.{IsNumbered}
use Rattle.mast_tables.specs.Rows.{Row}
use Rattle.mast_canon.specs.declared.rows.RowId.{RowId}
use Rattle.mast_canon.specs.declared.spec.Spec.{Spec}
use Rattle.mast_canon.specs.CertainAnswers.{Certain, ThroughDown}
use Rattle.mast_canon.specs.SpecFacts.{FactsOf}
use Rattle.mast_canon.specs.Theories.{Theory, stated, theory_of}
use Rattle.mast_canon.specs.TheoryPremises.{FactsInRange, QueryInRange, IsStated}
use Rattle.mast_rewrite.specs.declared.rewriting.TooMany.{TooMany}
use Rattle.mast_rewrite.specs.Closures.{Closure}

-- the most members that a rewriting may have
abbrev pub most : ℕ
most = 200000

-- more than so many queries have the property: there is a list of one more, each once
pub record HasMoreThan (count : ℕ) (P : Cq → Type 0) : Type 0 where
  pub queries : List Cq
  pub many : length queries ≡ count + 1
  pub once : EachOnce queries
  pub have : AllByRecursion P queries

-- the refusal counts one member more than there may be, and the closure of the query has more than there may be
pub record IsTooMany (tbox : List Inclusion) (q : Cq) (refusal : TooMany) : Type 0 where
  pub counted : refusal.count ≡ most + 1
  pub more : HasMoreThan most (Closure tbox q)

-- a rewriting is refused for that cause alone; else memory is wanting
abbrev pub IsRefused : List Inclusion → Cq → Stop TooMany → Type 0
IsRefused tbox q (Named refusal) = IsTooMany tbox q refusal
IsRefused tbox q NoMemory = Unit {0}

-- some query with the property has the tuple in F through Down
pub record SomeHasThrough (theory : Theory) (F : Fact Term → Type 0) (P : Cq → Type 0) (tuple : List Term) : Type 0 where
  pub query : Cq
  pub has : P query
  pub through : ThroughDown theory F query tuple

-- the members of the closure of a query by a theory: by its normal inclusions
abbrev pub Members : Theory → Cq → Cq → Type 0
Members theory q = Closure (normal (stated theory)) q

-- rewriting is sound over F: each tuple that a member of the closure of a query has in F through Down is a certain answer of the query
abbrev pub RewritingIsSound : (Fact Term → Type 0) → Type 0
RewritingIsSound F = (theory : Theory) (q : Cq) (tuple : List Term) → IsStated theory → FactsInRange F → QueryInRange q
    → SomeHasThrough theory F (Members theory q) tuple → Certain theory F q tuple

-- rewriting is complete over F: each certain answer of a query is one that some member of its closure has in F through Down
abbrev pub RewritingIsComplete : (Fact Term → Type 0) → Type 0
RewritingIsComplete F = (theory : Theory) (q : Cq) (tuple : List Term) → IsNumbered theory.inclusions → EachHasOneSort q.atoms
    → Certain theory F q tuple → SomeHasThrough theory F (Members theory q) tuple

-- over the facts of a set X of rows of a specification a tuple is a certain answer of a query exactly where some member of its closure has
-- it through Down
abbrev pub IsRewritten : Spec → List (List Row) → (RowId → Type 0) → Cq → List Term → Type 0
IsRewritten spec tables X q tuple =
    Certain (theory_of spec) (FactsOf spec tables X) q tuple ↔ SomeHasThrough (theory_of spec) (FactsOf spec tables X) (Members (theory_of spec) q) tuple

-- so it is for a specification over the names of a vocabulary, and a query over names that documents may use, in which each argument has one sort
abbrev pub RewritesQueries : Spec → List (List Row) → (RowId → Type 0) → Type 0
RewritesQueries spec tables X =
    IsVocabulary spec.vocab → (q : Cq) (tuple : List Term) → QueryInRange q → EachHasOneSort q.atoms → IsRewritten spec tables X q tuple

-- a set of facts that a test gives
abbrev pub Given : (Fact Term → Bool) → Fact Term → Type 0
Given test f = test f ≡ true

-- the queries give certain answers alone: by each theory with these normal inclusions, over each set of facts that a test gives, a tuple
-- that one of them has through Down is a certain answer of q
abbrev pub GiveCertain : List Inclusion → Cq → List Cq → Type 0
GiveCertain tbox q queries = (theory : Theory) (facts : Fact Term → Bool) (tuple : List Term) → tbox ≡ normal (stated theory)
    → IsStated theory → FactsInRange (Given facts) → QueryInRange q
    → SomeHasThrough theory (Given facts) (Contains queries) tuple → Certain theory (Given facts) q tuple

-- the queries give all certain answers: each certain answer of q is one that some of them has through Down
abbrev pub GiveAllCertain : List Inclusion → Cq → List Cq → Type 0
GiveAllCertain tbox q queries = (theory : Theory) (facts : Fact Term → Bool) (tuple : List Term) → tbox ≡ normal (stated theory)
    → IsNumbered theory.inclusions → EachHasOneSort q.atoms
    → Certain theory (Given facts) q tuple → SomeHasThrough theory (Given facts) (Contains queries) tuple
