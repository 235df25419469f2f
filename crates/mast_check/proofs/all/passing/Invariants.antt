-- What is told of the rows that are left is told of all of them.
use Rattle.std.proofs.Common.{drop}
use Rattle.mast_check.proofs.AllLemmas.{TellsOthers}
use Rattle.mast_check.proofs.all.passing.Given as goal

abbrev pub invariant-loop-number : goal.invariant-loop-number
invariant-loop-number l = TellsOthers l.extensions l.width l.violation l.rows.list (drop l.number l.rows.list) l.list
