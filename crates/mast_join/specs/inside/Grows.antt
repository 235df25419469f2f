-- What the steps of a join need and give.
use Rattle.std.specs.Prelude.{◌≡◌, ℕ, ◌+◌, ◌<◌, Bool, true, List, [], length, get_or, set, Some}
use Rattle.std.specs.List.{AllByRecursion}
use Rattle.mast_terms.specs.declared.value.Value.{Value}
use Rattle.mast_cq.specs.Queries.{In}
use Rattle.mast_tables.specs.Rows.{IsPlace, cell_at}
use Rattle.mast_join.specs.Chosen.{ChoiceList}
use Rattle.mast_join.specs.declared.index.Index.{Index}
use Rattle.mast_join.specs.declared.join.Join.{Join}
use Rattle.mast_join.specs.declared.numbers.Numbers.{Numbers}
use Rattle.mast_join.specs.declared.order.Link.{Link}
use Rattle.mast_join.specs.inside.Joins.{IsJoin, sources, only}
use Rattle.mast_join.specs.inside.Lookups.{AreNumbers, IsIndex}
use Rattle.mast_join.specs.inside.Partial.{ArePartial, AreGrown, AreReady, AreRows, open_count, pass_all}

-- choices without a row for the entry, and rows that it may have
pub record CanGrow (j : Join) (entry : ℕ) (rows : List ℕ) (choices : ChoiceList) : Type 0 where
  pub join : IsJoin j
  pub there : entry < length j.places.items
  pub are_rows : AreRows (sources j) entry rows
  pub ready : AreReady (sources j) entry choices.list

-- the choices with each of the rows of which no comparison is false
pub record HasGrown (j : Join) (entry : ℕ) (rows : List ℕ) (choices result : ChoiceList) : Type 0 where
  pub width : result.width ≡ length j.places.items
  pub grown : AreGrown (sources j) j.tests.items entry rows choices.list result.list

-- the choice has a row for the other entry of the link, whose cell is there
abbrev pub HasOther : Join → Link → List ℕ → Type 0
HasOther j link choice = IsPlace (get_or (sources j) link.other []) (get_or choice link.other 0) (link.other_column + 1)

-- the row of the entry and that of the other have one value in the columns of the link
pub record HaveOneValue (j : Join) (entry : ℕ) (link : Link) (row next : ℕ) : Type 0 where
  pub value : Value
  pub own : cell_at (get_or (sources j) entry []) row (link.column + 1) ≡ Some value
  pub other : cell_at (get_or (sources j) link.other []) next (link.other_column + 1) ≡ Some value

-- with a row at the entry no comparison of a choice is false only where the link holds
abbrev pub NeedsLink : Join → ℕ → Link → List ℕ → List ℕ → Type 0
NeedsLink j entry link rows choice = (row : ℕ) → In row rows → pass_all (sources j) (set choice entry row) j.tests.items ≡ true
    → HaveOneValue j entry link row (get_or choice link.other 0)

-- the link leads from bound entries to the entry
pub record IsLinked (j : Join) (entry : ℕ) (link : Link) (rows : List ℕ) (choices : List (List ℕ)) : Type 0 where
  pub other_there : link.other < length j.places.items
  pub others : AllByRecursion (HasOther j link) choices
  pub needs : AllByRecursion (NeedsLink j entry link rows) choices

-- the index and the numbers are those of the link
pub record IsLookup (j : Join) (entry : ℕ) (link : Link) (index : Index) (numbers : Numbers) : Type 0 where
  pub index_is : IsIndex index
  pub numbers_are : AreNumbers numbers
  pub to : numbers.to.now ≡ index.table.now
  pub own : index.table.now ≡ get_or (sources j) entry []
  pub column : index.column ≡ link.column + 1
  pub from : numbers.from.now ≡ get_or (sources j) link.other []
  pub other_column : numbers.column ≡ link.other_column + 1

-- exactly the partial choices over the bound entries
pub record ArePartialOf (j : Join) (bound : List Bool) (choices : ChoiceList) : Type 0 where
  pub width : choices.width ≡ length j.places.items
  pub partial : ArePartial (sources j) j.places.items (only j) j.tests.items bound choices.list

-- exactly the partial choices in which each entry is bound
pub record AreWhole (j : Join) (choices : ChoiceList) : Type 0 where
  pub bound : List Bool
  pub none_open : open_count bound ≡ 0
  pub partial : ArePartial (sources j) j.places.items (only j) j.tests.items bound choices.list
