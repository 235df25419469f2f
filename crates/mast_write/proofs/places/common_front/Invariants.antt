-- So far both are the same.
use Rattle.std.proofs.Common.{◌≡◌, take}
use Rattle.mast_write.proofs.places.common_front.Given as goal

abbrev pub invariant-loop-at : goal.invariant-loop-at
invariant-loop-at l = take l.at l.front ≡ take l.at l.line
