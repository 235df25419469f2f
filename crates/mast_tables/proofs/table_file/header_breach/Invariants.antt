use Rattle.csv.specs.Records.{fields_of}
use Rattle.mast_tables.specs.Breach.{header_of}
use Rattle.mast_tables.proofs.HeaderLemmas.{Agrees}
use Rattle.mast_tables.proofs.table_file.header_breach.Given as goal

abbrev pub invariant-loop-i : goal.invariant-loop-i
invariant-loop-i l = Agrees (header_of l.columns) (fields_of l.header) l.i
