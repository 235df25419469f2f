-- Rows so far are tried: those of them that are left are needed.
use Rattle.std.proofs.Common.{take}
use Rattle.mast_canon.specs.ConflictLaws.{IsAmong}
use Rattle.mast_shrink.specs.inside.Removal.{AreBroken, AreNeeded}
use Rattle.mast_shrink.proofs.conflict.without_each.Given as goal

abbrev pub invariant-loop-row : goal.invariant-loop-row
invariant-loop-row g l = record {
  broken : AreBroken l.checking l.tables.list l.rows l.broken;
  needed : AreNeeded l.checking l.tables.list (IsAmong (take l.row-index l.rows)) l.broken;
}
