-- Steps of the parser.
use Rattle.mast_tree.proofs.LookLemmas.{close_step, open_step}

pub ruleset steps = (close_step, open_step)
