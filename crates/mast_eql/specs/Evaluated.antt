-- The rows of a query over lists of rows.
use Rattle.std.specs.Prelude.{◌≡◌, ◌↔◌, ℕ, List, [], ◌∷◌, ◌++◌, length, map, get_or}
use Rattle.std.specs.List.{AllByRecursion, flat_map}
use Rattle.std.specs.List.Sorted.{IsStrictlySortedBy}
use Rattle.mast_terms.specs.Orders.{tuple_order}
use Rattle.mast_terms.specs.declared.term.Term.{Term}
use Rattle.mast_cq.specs.Queries.{In}
use Rattle.mast_sparsql.specs.WellFormed.{table_width}
use Rattle.mast_sparsql.specs.declared.query.Body.{Body}
use Rattle.mast_sparsql.specs.declared.query.Body.TheFolds.{fold-Body}
use Rattle.mast_sparsql.specs.declared.query.Body.TheOpen.{Body-F, Condition-F}
use Rattle.mast_sparsql.specs.declared.query.Query.{Query}
use Rattle.mast_sparsql.specs.declared.query.Side.{Side}
use Rattle.mast_sparsql.specs.declared.query.Side.TheVariants as side
use Rattle.mast_eql.specs.Formulas.{formula_of}
use Rattle.mast_eql.specs.Satisfaction.{Sat}

-- the term of a side
abbrev pub side_terms : Side → List Term
side_terms (side.Column c) = []
side_terms (side.Term t) = t ∷ []

-- the terms of a level of a body
abbrev pub body_terms : Body-F (List Term) (List Term) → List Term
body_terms (Body-F.Select items entries condition) = condition
body_terms (Body-F.Union a b) = a ++ b
body_terms (Body-F.Except a b) = a ++ b
body_terms (Body-F.Intersect a b) = a ++ b

-- the terms of a level of a condition
abbrev pub condition_terms : Condition-F (List Term) (List Term) → List Term
condition_terms Condition-F.Always = []
condition_terms (Condition-F.Equal left right) = side_terms left ++ side_terms right
condition_terms (Condition-F.Differ left right) = side_terms left ++ side_terms right
condition_terms (Condition-F.Not a) = a
condition_terms (Condition-F.And a b) = a ++ b
condition_terms (Condition-F.Or a b) = a ++ b
condition_terms (Condition-F.Exists body) = body

-- the terms that a body names
abbrev pub terms_of : Body → List Term
terms_of = fold-Body (List Term) (List Term) body_terms condition_terms

-- the terms of lists of rows
abbrev pub terms_in : List (List (List Term)) → List Term
terms_in lists = flat_map (λ rows. flat_map (λ row. row) rows) lists

-- a row is in the list of a table
abbrev pub IsListed : List (List (List Term)) → ℕ → List Term → Type 0
IsListed lists table row = In row (get_or lists table [])

-- the term is one of the lists or of the body
abbrev pub IsTermOf : List (List (List Term)) → Body → Term → Type 0
IsTermOf lists body t = In t (terms_in lists ++ terms_of body)

-- the tuple satisfies the formula of the body, where K is membership in the lists
abbrev pub Satisfies : List (List (List Term)) → Body → List Term → Type 0
Satisfies lists body tuple = Sat (IsTermOf lists body) (IsListed lists) (formula_of body) [] tuple

-- the same, where `some` ranges over all terms
abbrev pub SatisfiesAnywhere : List (List (List Term)) → Body → List Term → Type 0
SatisfiesAnywhere lists body tuple = Sat (λ t. Unit {0}) (IsListed lists) (formula_of body) [] tuple

-- the lists of each table have the same rows
abbrev pub HaveSameRows : List (List (List Term)) → List (List (List Term)) → Type 0
HaveSameRows lists others = (table : ℕ) (row : List Term) → IsListed lists table row ↔ IsListed others table row

-- one list for each table, of its width
pub record AreLists (q : Query) (lists : List (List (List Term))) : Type 0 where
  pub tables : length lists ≡ length q.tables
  pub widths : (table : ℕ) →
      AllByRecursion (λ row. length row ≡ get_or (map table_width q.tables) table 0) (get_or lists table [])

-- exactly the tuples that satisfy the query's formula, sorted, each once
pub record AreRows (lists : List (List (List Term))) (q : Query) (rows : List (List Term)) : Type 0 where
  pub exact : (tuple : List Term) → In tuple rows ↔ Satisfies lists q.body tuple
  pub sorted : IsStrictlySortedBy tuple_order rows
