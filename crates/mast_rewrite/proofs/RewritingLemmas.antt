-- Rewriting is sound and complete for certain answers, and so are the members of a rewriting.
use Rattle.std.proofs.Common.{ℕ, List, [], ◌∷◌, map, Contains, sym, subst}
use Rattle.std.specs.List.{AllByRecursion}
use Rattle.mast_terms.specs.declared.term.Term.{Term}
use Rattle.mast_cq.specs.declared.atom.Atom.{Atom}
use Rattle.mast_cq.specs.declared.atom.Atom.TheVariants.{Class, Role, Attr}
use Rattle.mast_cq.specs.declared.query.Cq.{Cq}
use Rattle.mast_cq.specs.Meanings.{Fact, InClass, InRole, InAttr, Match, MetBy, HasTuple}
use Rattle.mast_cq.specs.NormalForms.{normal_form}
use Rattle.mast_cq.specs.Origins.{Named as AtomNamed}
use Rattle.mast_cq.specs.Sorts.{EachHasOneSort}
use Rattle.mast_cq.proofs.OriginLemmas.{normal_draws, draws_sorts}
use Rattle.mast_cq.proofs.SameTuplesLemmas.{normal_form_into, normal_form_out}
use Rattle.mast_cq.proofs.SettleLemmas.{normal_form_spread}
use Rattle.mast_tbox.specs.declared.axiom.Inclusion.{Inclusion}
use Rattle.mast_tbox.specs.Inclusions.{normal}
use Rattle.mast_tbox.specs.Names.{IsStatable, InRange}
use Rattle.mast_tbox.specs.Numbers.{IsNumbered}
use Rattle.mast_tbox.proofs.NumberLemmas.{no_end, one_normal_inclusion}
use Rattle.mast_tables.specs.Rows.{Row}
use Rattle.mast_canon.specs.declared.rows.RowId.{RowId}
use Rattle.mast_canon.specs.declared.spec.Spec.{Spec}
use Rattle.mast_canon.specs.CertainAnswers.{HoldsBy, Certain, ThroughDown, constant_in}
use Rattle.mast_canon.specs.Derivations.{Holds}
use Rattle.mast_canon.specs.Elements.{Named}
use Rattle.mast_canon.specs.SpecFacts.{FactsOf}
use Rattle.mast_canon.specs.Theories.{Theory, stated, theory_of, constant_of}
use Rattle.mast_canon.specs.TheoryPremises.{FactInRange, FactsInRange, QueryInRange, IsStated}
use Rattle.mast_canon.proofs.HoldsLemmas.{tuple_grows}
use Rattle.mast_canon.proofs.NormalFactLemmas.{normal_holds, normal_same}
use Rattle.mast_canon.proofs.SpecLemmas.{spec_stated, rows_in_range}
use Rattle.mast_rewrite.specs.Closures.{Closure}
use Rattle.mast_rewrite.specs.Rewritings.{SomeHasThrough, Members, RewritingIsSound, RewritingIsComplete, RewritesQueries, Given, GiveCertain, GiveAllCertain}
use Rattle.mast_rewrite.proofs.CompleteLemmas.{found}
use Rattle.mast_rewrite.proofs.SoundLemmas.{steps_add_none, through_has}

-- a fact that an atom is has the atom's name
fact_range : {X : Type 0} (constant s : ℕ → X) (g : Atom) (f : Fact X) → AtomNamed IsStatable g → Match constant s g f → FactInRange f
fact_range constant s (Class a x) (InClass b t) i m = subst InRange m.0 i
fact_range constant s (Class a x) (InRole b t u) i m = absurd m
fact_range constant s (Class a x) (InAttr b t u) i m = absurd m
fact_range constant s (Role a x y) (InClass b t) i m = absurd m
fact_range constant s (Role a x y) (InRole b t u) i m = subst InRange m.0 i
fact_range constant s (Role a x y) (InAttr b t u) i m = absurd m
fact_range constant s (Attr a x y) (InClass b t) i m = absurd m
fact_range constant s (Attr a x y) (InRole b t u) i m = absurd m
fact_range constant s (Attr a x y) (InAttr b t u) i m = subst InRange m.0 i

-- what holds of each by two premises
each_by_two : {X : Type 0} (P Q R : X → Type 0) → ((x : X) → P x → Q x → R x) → (xs : List X) → AllByRecursion P xs → AllByRecursion Q xs → AllByRecursion R xs
each_by_two P Q R k [] p q = tt
each_by_two P Q R k (x ∷ xs) p q = (k x p.0 q.0, each_by_two P Q R k xs p.1 q.1)

module _ (theory : Theory) (F : Fact Term → Type 0) where
  abbrev constant : ℕ → Term
  constant = constant_of theory.constants

  abbrev normals : List Inclusion
  normals = normal (stated theory)

  -- what a query over names in range has by the normal inclusions is a certain answer
  normal_certain : IsStated theory → FactsInRange F → (q : Cq) (tuple : List Term) → QueryInRange q
      → HasTuple (constant_in theory) (Holds normals F) q (map Named tuple) → Certain theory F q tuple
  normal_certain is_stated range q tuple known h = record {
    under = h.under;
    each = each_by_two (AtomNamed IsStatable) (MetBy (constant_in theory) (Holds normals F) h.under) (MetBy (constant_in theory) (HoldsBy theory F) h.under)
        (λ g i w. record {
          fact = w.fact;
          matches = w.matches;
          holds = (normal_same theory.inclusions F is_stated.numbered is_stated.inclusions range w.fact (fact_range (constant_in theory) h.under g w.fact i w.matches)).1 w.holds;
        }) q.atoms known h.each;
    answers = h.answers;
  }

  -- each tuple that a member of the closure of a query has in F through Down is a certain answer of the query
  pub rewriting_sound : IsStated theory → FactsInRange F → (q m : Cq) (tuple : List Term) → QueryInRange q → Members theory q m → ThroughDown theory F m tuple → Certain theory F q tuple
  rewriting_sound is_stated range q m tuple known member h =
      normal_certain is_stated range q tuple known
      (normal_form_out (constant_in theory) (Holds normals F) q (map Named tuple)
      (steps_add_none normals F (constant_in theory) (normal_form q) m (map Named tuple) member (through_has normals F constant m tuple h)))

  -- each certain answer of a query is one that some member of its closure has in F through Down
  pub rewriting_complete : IsNumbered theory.inclusions → (q : Cq) (tuple : List Term) → EachHasOneSort q.atoms → Certain theory F q tuple → SomeHasThrough theory F (Members theory q) tuple
  rewriting_complete numbered q tuple one h =
      let n = tuple_grows (HoldsBy theory F) (Holds normals F) (normal_holds (stated theory) F) (constant_in theory) q (map Named tuple) h in
      let w = found normals F constant (no_end (stated theory)) (λ i j k. one_normal_inclusion theory.inclusions i j k numbered) (normal_form q) tuple (normal_form_spread q)
      (draws_sorts (normal_form q).atoms q.atoms (normal_draws q) one) (normal_form_into (constant_in theory) (Holds normals F) q (map Named tuple) n) in
      record { query = w.member; has = w.reached; through = w.has }

-- rewriting is sound over all facts
pub is_sound : (F : Fact Term → Type 0) → RewritingIsSound F
is_sound F theory q tuple is_stated range known w = rewriting_sound theory F is_stated range q w.query tuple known w.has w.through

-- and complete
pub is_complete : (F : Fact Term → Type 0) → RewritingIsComplete F
is_complete F theory q tuple numbered one h = rewriting_complete theory F numbered q tuple one h

-- over the facts of any rows of a specification the closure of a query has exactly the certain answers
pub spec_rewriting : (spec : Spec) (tables : List (List Row)) (X : RowId → Type 0) → RewritesQueries spec tables X
spec_rewriting spec tables X v q tuple known one = (
  rewriting_complete (theory_of spec) (FactsOf spec tables X) spec.tbox.numbered q tuple one,
  λ w. rewriting_sound (theory_of spec) (FactsOf spec tables X) (spec_stated spec v) (rows_in_range spec tables X v) q w.query tuple known w.has w.through,
)

module _ (tbox : List Inclusion) (q : Cq) (queries : List Cq) where
  -- queries that are members of the closure give certain answers alone
  pub give_certain : ((m : Cq) → Contains queries m → Closure tbox q m) → GiveCertain tbox q queries
  give_certain are theory facts tuple e is_stated range known w =
      rewriting_sound theory (Given facts) is_stated range q w.query tuple known (subst (λ t. Closure t q w.query) e (are w.query w.has)) w.through

  -- and all of its members give all of them
  pub give_all : ((m : Cq) → Closure tbox q m → Contains queries m) → GiveAllCertain tbox q queries
  give_all all theory facts tuple e numbered one h =
      let w = rewriting_complete theory (Given facts) numbered q tuple one h in
      record { query = w.query; has = all w.query (subst (λ t. Closure t q w.query) (sym e) w.has); through = w.through }
