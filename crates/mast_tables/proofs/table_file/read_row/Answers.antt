use Rattle.csv.specs.Records.{fields_of}
use Rattle.std.proofs.Common.{arith}
use Rattle.mast_tables.proofs.ReadingLemmas.{tells_row}
use Rattle.mast_tables.proofs.table_file.read_row.Goals as goal

pub returns : goal.returns
returns c = tells_row c.args.columns.now c.args.most c.args.number (fields_of c.args.line.now) _ _ _ (omega arith) (omega arith) c.read_cells.ensures
