-- What is kept so far, and what is left of the others, make the others.
use Rattle.std.proofs.Common.{◌≡◌, ◌++◌, drop}
use Rattle.mast_shrink.specs.inside.Removal.{others}
use Rattle.mast_shrink.proofs.rows.without.Given as goal

abbrev pub invariant-loop-other : goal.invariant-loop-other
invariant-loop-other l = l.rest.items ++ others l.row (drop l.other-index l.rows) ≡ others l.row l.rows
