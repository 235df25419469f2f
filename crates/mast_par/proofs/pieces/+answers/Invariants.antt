use Rattle.std.proofs.Common.{◌+◌, ◌*◌}
use Rattle.mast_par.proofs.pieces.+answers.Given as goal

abbrev pub decreases-answers_from : goal.decreases-answers_from
decreases-answers_from g l = 2 * l.workers

abbrev pub decreases-front : goal.decreases-front
decreases-front g l = 2 * l.few + 1

abbrev pub decreases-back : goal.decreases-back
decreases-back g l = 2 * l.more + 1
