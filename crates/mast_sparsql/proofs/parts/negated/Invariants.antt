use Rattle.std.proofs.Common.{◌≡◌}
use Rattle.mast_sparsql.specs.Held.{part_of}
use Rattle.mast_sparsql.specs.inside.Parts.{nots}
use Rattle.mast_sparsql.proofs.parts.negated.Given as goal

abbrev pub invariant-loop : goal.invariant-loop
invariant-loop l = part_of l.whole ≡ nots l.counter (part_of l.fn.part)
