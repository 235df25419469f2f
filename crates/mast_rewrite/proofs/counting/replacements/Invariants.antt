use Rattle.std.proofs.Common.{take}
use Rattle.mast_rewrite.specs.inside.Leaders.{AreWays}
use Rattle.mast_rewrite.proofs.counting.replacements.Given as goal

abbrev pub invariant-loop-met : goal.invariant-loop-met
invariant-loop-met l = AreWays l.g l.h (take l.met-index l.all) l.ways.items
