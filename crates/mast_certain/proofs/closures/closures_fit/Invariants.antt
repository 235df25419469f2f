use Rattle.std.proofs.Common.{take}
use Rattle.mast_certain.specs.LargeClosures.{NoneIsTooLarge}
use Rattle.mast_certain.proofs.closures.closures_fit.Given as goal

abbrev pub invariant-loop-number : goal.invariant-loop-number
invariant-loop-number l = record {
  none : NoneIsTooLarge l.spec (take l.number l.blocks);
}
