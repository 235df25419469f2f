-- Each call has one item fewer.
use Rattle.std.proofs.Common.{length}
use Rattle.mast_constr.proofs.reader.Reader.+steps.Given as goal

abbrev pub decreases-steps : goal.decreases-steps
decreases-steps l = length l.items.now
