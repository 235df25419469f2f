-- The order of rows, and what a hasher is fed of one.
use Rattle.std.specs.Prelude.{◌<◌, ◌^◌}
use Rattle.std.specs.Ordering.{nat_cmp, ordering_then}
use Rattle.std.specs.declared.cmp.Ordering.{Ordering}
use Rattle.mast_canon.specs.declared.rows.RowId.{RowId}

-- by the table, and then by the row's number
abbrev pub row_order : RowId → RowId → Ordering
row_order a b = ordering_then (nat_cmp a.table b.table) (nat_cmp a.number b.number)

-- two numbers of 32 bits
abbrev pub FitsRow : RowId → Type 0
FitsRow row = (row.table < 2 ^ 32) × (row.number < 2 ^ 32)
