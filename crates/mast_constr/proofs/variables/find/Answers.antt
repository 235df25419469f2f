-- A variable of the name stands here.
use Rattle.std.proofs.Common.{rules, arith}
use Rattle.mast_constr.proofs.ShownLemmas.{found_here}
use Rattle.mast_constr.proofs.variables.find.Goals as goal

pub returns-then-eq : goal.returns-then-eq
returns-then-eq c = found_here c.args.known.now c.loop-number.number _ c.args.name.now (omega arith) (search rules) c.loop-number.invariant
