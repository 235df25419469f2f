use Rattle.mast_sparsql.specs.inside.Cursors.{Reads}
use Rattle.mast_sparsql.specs.inside.Parts.{nots_written}
use Rattle.mast_sparsql.proofs.cursor.Cursor.nots.Given as goal

abbrev pub invariant-loop : goal.invariant-loop
invariant-loop l = Reads l.fn.self l.self (nots_written l.count)
