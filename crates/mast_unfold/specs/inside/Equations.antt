-- Equations of columns and constants, and what solves them.
use Rattle.std.specs.Prelude.{◌≡◌, List, [], ◌∷◌, ◌++◌, Bool, true, false, ◌&&◌, if◌then◌else◌}
use Rattle.std.specs.List.{AllByRecursion}
use Rattle.mast_terms.specs.declared.value.Kind.{Kind}
use Rattle.mast_terms.specs.declared.value.Value.{Value}
use Rattle.mast_terms.specs.contracts.value.KindPartialEq.TheImpl as kind_eq
use Rattle.mast_terms.specs.Vocabularies.{same_value}
use Rattle.mast_tables.specs.Whole.{value_kind}
use Rattle.mast_unfold.specs.declared.columns.Place.{Place}
use Rattle.mast_unfold.specs.contracts.columns.PlacePartialEq.TheImpl as place_eq
use Rattle.mast_unfold.specs.declared.equations.Side.{Side}
use Rattle.mast_unfold.specs.declared.equations.Side.TheVariants as side
use Rattle.mast_unfold.specs.declared.equations.Equation.{Equation}
use Rattle.mast_unfold.specs.declared.groups.Groups.{Groups}
use Rattle.mast_unfold.specs.inside.Lookups.{found}

-- what a side stands for: the value of a column, a constant, or nothing
pub data Cell : Type 0 where
  column : Place → Cell
  constant : Value → Cell
  nothing : Cell

-- what a side stands for
abbrev pub seen : Side → Cell
seen (side.Column place) = column place
seen (side.Constant value) = constant value.now
seen side.Nothing = nothing

-- what both sides of an equation stand for
abbrev pub both : Equation → Cell × Cell
both e = (seen e.left, seen e.right)

-- whether two kinds are one
abbrev pub same_kind : Kind → Kind → Bool
same_kind = kind_eq.ghosts.eq

-- whether two places are one
abbrev pub same_place : Place → Place → Bool
same_place = place_eq.ghosts.eq

-- whether a column may have the value of a cell
abbrev pub column_may_be : Place → Cell → Bool
column_may_be place (column other) = same_kind place.kind other.kind
column_may_be place (constant value) = same_kind place.kind (value_kind value)
column_may_be place nothing = false

-- whether a constant may be the value of a cell
abbrev pub constant_may_be : Value → Cell → Bool
constant_may_be value (column place) = same_kind (value_kind value) place.kind
constant_may_be value (constant other) = same_value value other
constant_may_be value nothing = false

-- whether an equation may hold by itself
abbrev pub may_hold : Cell × Cell → Bool
may_hold (column place, right) = column_may_be place right
may_hold (constant value, right) = constant_may_be value right
may_hold (nothing, right) = false

-- whether each may
abbrev pub may_all_hold : List (Cell × Cell) → Bool
may_all_hold [] = true
may_all_hold (e ∷ es) = may_hold e && may_all_hold es

-- the cell has the value, where the columns have values
abbrev pub HasValue : (Place → Value) → Cell → Value → Type 0
HasValue f (column place) value = f place ≡ value
HasValue f (constant other) value = other ≡ value
HasValue f nothing value = ⊥

-- both sides have one value
pub record IsEqual (f : Place → Value) (e : Cell × Cell) : Type 0 where
  pub value : Value
  pub left : HasValue f e.0 value
  pub right : HasValue f e.1 value

-- some values of the columns, each of its column's kind, make all equations hold
pub record HasSolution (es : List (Cell × Cell)) : Type 0 where
  pub values : Place → Value
  pub kinds : (place : Place) → value_kind (values place) ≡ place.kind
  pub holds : AllByRecursion (IsEqual values) es

-- the second ones of the pairs whose first is a place
abbrev pub seconds : Place → List (Place × Place) → List Place
seconds place [] = []
seconds place (p ∷ ps) = if same_place p.0 place then p.1 ∷ seconds place ps else seconds place ps

-- the columns that an equation makes equal, each to the other
abbrev pub links_of : Cell × Cell → List (Place × Place)
links_of (column p, column q) = (p, q) ∷ (q, p) ∷ []
links_of (column p, constant value) = []
links_of (column p, nothing) = []
links_of (constant value, right) = []
links_of (nothing, right) = []

-- those of all equations
abbrev pub all_links : List (Cell × Cell) → List (Place × Place)
all_links [] = []
all_links (e ∷ es) = links_of e ++ all_links es

-- the pairs were added
abbrev pub AreLinked : Groups Place Place → List (Place × Place) → Groups Place Place → Type 0
AreLinked old pairs new = (place : Place) → found same_place new place ≡ found same_place old place ++ seconds place pairs

-- the groups are those of the pairs
abbrev pub AreLinks : List (Place × Place) → Groups Place Place → Type 0
AreLinks pairs links = (place : Place) → found same_place links place ≡ seconds place pairs

-- the value that an equation with a constant gives to a column
abbrev pub seeds_of : Cell × Cell → List (Place × Value)
seeds_of (column p, column q) = []
seeds_of (column p, constant value) = (p, value) ∷ []
seeds_of (column p, nothing) = []
seeds_of (constant value, column p) = (p, value) ∷ []
seeds_of (constant value, constant other) = []
seeds_of (constant value, nothing) = []
seeds_of (nothing, right) = []

-- those of all equations
abbrev pub all_seeds : List (Cell × Cell) → List (Place × Value)
all_seeds [] = []
all_seeds (e ∷ es) = seeds_of e ++ all_seeds es
