-- Each call has one item fewer.
use Rattle.std.proofs.Common.{length}
use Rattle.mast_constr.proofs.reader.Reader.+atoms.Given as goal

abbrev pub decreases-atoms : goal.decreases-atoms
decreases-atoms l = length l.items.now
