use Rattle.std.proofs.Common.{◌≡◌, ◌-◌, ◌*◌, length}
use Rattle.std.specs.Prelude.{IfSome}
use Rattle.csv.specs.Reading.{source_of, records_from, default_config, reader_state}
use Rattle.mast_tables.specs.inside.Cells.{AreCells, cells_in, width_in}
use Rattle.mast_tables.specs.inside.Reading.{IsPlain, LeavesRoom}
use Rattle.mast_tables.proofs.RecordsLemmas.{Passes}
use Rattle.mast_tables.proofs.table_file.read_rows.Given as goal

abbrev pub invariant-loop-row : goal.invariant-loop-row
invariant-loop-row g l = record {
  plain : IsPlain l.reader;
  cells : AreCells l.cells;
  wide : width_in l.cells ≡ length l.columns;
  size : length (cells_in l.cells) ≡ l.row * length l.columns;
  room : LeavesRoom (length (cells_in l.cells)) (source_of g.R.Read.remaining l.reader) (reader_state l.reader);
  told : IfSome (source_of g.R.Read.remaining l.fn.reader) (λ bytes. Passes l.columns l.most l.row (l.turns - l.row) (source_of g.R.Read.remaining l.reader) (reader_state l.reader) l.cells (records_from default_config l.turns (reader_state l.fn.reader) bytes));
}
