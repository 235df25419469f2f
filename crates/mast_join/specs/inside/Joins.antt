-- Joins: a source query over tables, as the code holds it.
use Rattle.std.specs.Prelude.{◌≡◌, ◌⊎◌, ℕ, ◌<◌, Bool, true, false, List, length, get_or, replicate, Option}
use Rattle.std.specs.List.{All}
use Rattle.std.specs.Option.{option_copied}
use Rattle.mast_sql.specs.declared.query.Compare.TheVariants as sign
use Rattle.mast_cq.specs.Queries.{In}
use Rattle.mast_tables.specs.Rows.{Row}
use Rattle.mast_canon.specs.declared.rows.RowId.{RowId}
use Rattle.mast_join.specs.declared.comparisons.Side.{Side}
use Rattle.mast_join.specs.declared.comparisons.Side.TheVariants as side
use Rattle.mast_join.specs.declared.comparisons.Test.{Test}
use Rattle.mast_join.specs.declared.join.Join.{Join}
use Rattle.mast_join.specs.declared.order.Link.{Link}
use Rattle.mast_join.specs.inside.Plans.{sources_of}
use Rattle.mast_join.specs.inside.Partial.{IsTestOver}

-- the tables of the entries
abbrev pub sources : Join → List (List Row)
sources j = sources_of j.tables.now j.places.items

-- the rows that may be chosen, where they are given
abbrev pub only : Join → Option (List RowId)
only j = option_copied j.only

-- the choice that has no row yet
abbrev pub nothing : Join → List ℕ
nothing j = replicate (length j.places.items) 0

-- the tables of the entries are there, and so are the cells of the comparisons
pub record IsJoin (j : Join) : Type 0 where
  pub places : All (λ place. place < length j.tables.now) j.places.items
  pub tests : All (IsTestOver (sources j)) j.tests.items

-- the choice has a place for the entry of the side
abbrev pub EntryThere : List ℕ → Side → Type 0
EntryThere choice (side.Cell entry column) = entry < length choice
EntryThere choice (side.Constant value) = Unit {0}
EntryThere choice side.Nothing = Unit {0}

-- the comparison is an equality of this column of the entry with a bound entry's
pub record IsLinkOf (t : Test) (bound : List Bool) (entry : ℕ) (link : Link) : Type 0 where
  pub op : t.op ≡ sign.Equal
  pub sides : ((t.left ≡ side.Cell entry link.column) × (t.right ≡ side.Cell link.other link.other_column))
      ⊎ ((t.left ≡ side.Cell link.other link.other_column) × (t.right ≡ side.Cell entry link.column))
  pub bound_other : get_or bound link.other false ≡ true

-- one of the comparisons is
pub record IsLink (j : Join) (bound : List Bool) (entry : ℕ) (link : Link) : Type 0 where
  pub test : Test
  pub among : In test j.tests.items
  pub of : IsLinkOf test bound entry link
