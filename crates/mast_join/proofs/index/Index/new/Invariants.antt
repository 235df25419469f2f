use Rattle.std.proofs.Common.{◌≡◌, ◌+◌, length}
use Rattle.mast_join.specs.inside.Chains.{IsIndexed}
use Rattle.mast_join.specs.inside.Lookups.{keys_of}
use Rattle.mast_join.proofs.index.Index.new.Given as goal

-- the rows so far are found by their keys
abbrev pub invariant-loop-row : goal.invariant-loop-row
invariant-loop-row l = record {
  size : length l.heads.items ≡ length l.rows + 1;
  indexed : IsIndexed (keys_of l.table l.column (length l.rows + 1) l.rows) l.row-index l.heads.items l.nexts.items;
}
