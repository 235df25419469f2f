use Rattle.std.proofs.Common.{length}
use Rattle.mast_violate.proofs.paths.+moves.Given as goal

abbrev pub decreases-moves : goal.decreases-moves
decreases-moves l = length l.path.now
