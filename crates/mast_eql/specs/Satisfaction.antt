-- When values satisfy a formula, and the answers of a query.
use Rattle.std.specs.Prelude.{◌≡◌, ℕ, ◌⊎◌, List, [], ◌∷◌, map, slice_get, get_or, Option, Some}
use Rattle.std.specs.List.{AllByRecursion}
use Rattle.mast_terms.specs.declared.term.Term.{Term}
use Rattle.mast_sparsql.specs.declared.query.ColumnRef.{ColumnRef}
use Rattle.mast_sparsql.specs.declared.query.Side.{Side}
use Rattle.mast_sparsql.specs.declared.query.Side.TheVariants as side
use Rattle.mast_eql.specs.Formulas.{Formula, Always, Known, Equals, Items, Not, And, Or, SomeColumns, SomeAnswer}

-- the value of a column, where it is there: of each FROM, the innermost first, the row of each entry is given
abbrev pub column_in : List (List (List Term)) → ColumnRef → Option Term
column_in froms c = slice_get (get_or (get_or froms c.scope []) c.entry []) c.column

-- the value of a side
abbrev pub side_in : List (List (List Term)) → Side → Option Term
side_in froms (side.Column c) = column_in froms c
side_in froms (side.Term t) = Some t

-- each row is one that its table has
abbrev pub AreKnown : (ℕ → List Term → Type 0) → List ℕ → List (List Term) → Type 0
AreKnown K [] [] = Unit {0}
AreKnown K [] (row ∷ rows) = ⊥
AreKnown K (table ∷ tables) [] = ⊥
AreKnown K (table ∷ tables) (row ∷ rows) = K table row × AreKnown K tables rows

-- first-order truth: `some` ranges over the terms with D, and K says which rows a table has; the bound variables have the
-- values of the rows of `froms`, and the free ones those of `answer`
abbrev pub Sat : (Term → Type 0) → (ℕ → List Term → Type 0) → Formula → List (List (List Term)) → List Term → Type 0
Sat D K Always froms answer = Unit {0}
Sat D K (Known tables) froms answer = AreKnown K tables (get_or froms 0 [])
Sat D K (Equals left right) froms answer = side_in froms left ≡ side_in froms right
Sat D K (Items items) froms answer = map (column_in froms) items ≡ map Some answer
Sat D K (Not a) froms answer = Sat D K a froms answer → ⊥
Sat D K (And a b) froms answer = Sat D K a froms answer × Sat D K b froms answer
Sat D K (Or a b) froms answer = Sat D K a froms answer ⊎ Sat D K b froms answer
Sat D K (SomeColumns a) froms answer =
    (rows : List (List Term)) × AllByRecursion (AllByRecursion D) rows × Sat D K a (rows ∷ froms) answer
Sat D K (SomeAnswer a) froms answer = (other : List Term) × AllByRecursion D other × Sat D K a froms other
