use Rattle.std.proofs.Common.{◌≡◌, ◌++◌, drop}
use Rattle.mast_cq.proofs.normal_form.copied.Given as goal

abbrev pub invariant-loop-arg : goal.invariant-loop-arg
invariant-loop-arg l = l.copy.items ++ drop l.arg-index l.args ≡ l.args
