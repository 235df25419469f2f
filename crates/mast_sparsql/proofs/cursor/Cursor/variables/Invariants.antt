use Rattle.mast_sparsql.specs.Trees as tree
use Rattle.mast_sparsql.specs.inside.Cursors.{ReadsMany}
use Rattle.mast_sparsql.proofs.cursor.Cursor.variables.Given as goal

abbrev pub invariant-loop : goal.invariant-loop
invariant-loop l = ReadsMany l.fn.self l.self tree.variable_written l.variables
