use Rattle.std.proofs.Common.{take}
use Rattle.mast_join.specs.inside.Keeping.{IsKept, IsStoreMore, extended}
use Rattle.mast_join.specs.inside.Namings.{AddsConstants}
use Rattle.mast_join.proofs.conjunction.add_constants.Given as goal

-- the patterns so far
abbrev pub invariant-loop-number : goal.invariant-loop-number
invariant-loop-number l = IsKept l.base l.store × IsStoreMore l.fn.store l.store × AddsConstants (extended l.base l.store) l.first (take l.number l.answer) l.fn.patterns.items l.patterns.items
