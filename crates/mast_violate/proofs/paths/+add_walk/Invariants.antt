use Rattle.std.proofs.Common.{length}
use Rattle.mast_violate.proofs.paths.+add_walk.Given as goal

abbrev pub decreases-add_walk : goal.decreases-add_walk
decreases-add_walk l = length l.path.now
