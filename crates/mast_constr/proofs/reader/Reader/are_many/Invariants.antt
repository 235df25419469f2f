-- The steps so far and those of the paths to come are all.
use Rattle.std.proofs.Common.{◌≡◌, ◌+◌, ◌<◌, drop}
use Rattle.mast_constr.specs.Paths.{all_steps}
use Rattle.mast_constr.specs.inside.Rules.{page_in}
use Rattle.mast_constr.proofs.reader.Reader.are_many.Given as goal

abbrev pub invariant-loop-path : goal.invariant-loop-path
invariant-loop-path l = (l.steps + all_steps (page_in l.self) (drop l.path-index l.paths) ≡ all_steps (page_in l.self) l.paths) × (l.steps < 12)
