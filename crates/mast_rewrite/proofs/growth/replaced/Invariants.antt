use Rattle.std.proofs.Common.{◌≡◌, ◌++◌, map, drop}
use Rattle.mast_cq.specs.Unification.{replace_arg}
use Rattle.mast_cq.specs.Meetings.{replacement_of}
use Rattle.mast_rewrite.proofs.growth.replaced.Given as goal

abbrev pub invariant-loop-arg : goal.invariant-loop-arg
invariant-loop-arg l = l.replaced.items ++ map (replace_arg (replacement_of l.by)) (drop l.arg-index l.args) ≡ map (replace_arg (replacement_of l.by)) l.args
