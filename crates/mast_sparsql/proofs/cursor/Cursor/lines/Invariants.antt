use Rattle.std.specs.List.{flat_map}
use Rattle.mast_sparsql.specs.Trees as tree
use Rattle.mast_sparsql.specs.inside.Cursors.{Reads}
use Rattle.mast_sparsql.proofs.cursor.Cursor.lines.Given as goal

abbrev pub invariant-loop : goal.invariant-loop
invariant-loop l = Reads l.fn.self l.self (flat_map tree.line_written l.lines)
