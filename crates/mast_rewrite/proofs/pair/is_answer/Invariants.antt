use Rattle.std.proofs.Common.{◌≡◌, drop}
use Rattle.mast_cq.specs.Queries.{has_var as has_var_of}
use Rattle.mast_rewrite.proofs.pair.is_answer.Given as goal

abbrev pub invariant-loop-arg : goal.invariant-loop-arg
invariant-loop-arg l = has_var_of (drop l.arg-index l.answer) l.var ≡ has_var_of l.answer l.var
