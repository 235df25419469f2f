use Rattle.csv.specs.Records.{fields_of}
use Rattle.mast_tables.proofs.ReadingLemmas.{Begun}
use Rattle.mast_tables.proofs.table_file.read_cells.Given as goal

abbrev pub invariant-loop-i : goal.invariant-loop-i
invariant-loop-i l = Begun l.columns (fields_of l.line) l.i l.fn.cells l.cells
