-- Each call has one item fewer.
use Rattle.std.proofs.Common.{length}
use Rattle.mast_constr.proofs.reader.Reader.+paths.Given as goal

abbrev pub decreases-paths : goal.decreases-paths
decreases-paths l = length l.items.now
