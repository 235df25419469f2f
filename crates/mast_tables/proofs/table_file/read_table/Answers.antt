use Rattle.csv.specs.Reading.{source_of, reader_state}
use Rattle.csv.specs.Records.{fields_of}
use Rattle.mast_tables.proofs.RecordsLemmas.{file_empty, file_header, file_rows}
use Rattle.mast_tables.proofs.RoomLemmas.{leaves_more, leaves_none}
use Rattle.mast_tables.proofs.table_file.read_table.Goals as goal

pub returns-then-not-branch : goal.returns-then-not-branch
returns-then-not-branch g c =
    let rem = g.R.Read.remaining in
    file_empty (source_of rem c.args.reader.now) (source_of rem c.next.new.reader) (reader_state c.args.reader.now) (reader_state c.next.new.reader)
    c.args.columns.now c.args.most c.args.turns (fields_of c.next.new.line) (rw c.if-not-branch.true at c.in_ok-next.ensures.read)

pub read_rows-requires-clause-room : goal.read_rows-requires-clause-room
read_rows-requires-clause-room g c =
    let rem = g.R.Read.remaining in
    leaves_none (source_of rem c.next.new.reader) (reader_state c.next.new.reader) _
    (leaves_more (source_of rem c.args.reader.now) (source_of rem c.next.new.reader) (reader_state c.args.reader.now) (reader_state c.next.new.reader) 0 (fields_of c.next.new.line) (rw c.if-not-branch.false at c.in_ok-next.ensures.read) c.requires.room)

pub returns-in-Some : goal.returns-in-Some
returns-in-Some g c =
    let rem = g.R.Read.remaining in
    file_header (source_of rem c.args.reader.now) (source_of rem c.next.new.reader) (reader_state c.args.reader.now) (reader_state c.next.new.reader)
    c.args.columns.now c.args.most c.args.turns c.in-Some.column (fields_of c.next.new.line) (rw c.if-not-branch.false at c.in_ok-next.ensures.read) c.in-Some.ensures.differs

pub returns : goal.returns
returns g c =
    let rem = g.R.Read.remaining in
    file_rows (source_of rem c.args.reader.now) (source_of rem c.next.new.reader) (reader_state c.args.reader.now) (reader_state c.next.new.reader)
    c.args.columns.now c.args.most c.args.turns (fields_of c.next.new.line) c.read_rows.result (rw c.if-not-branch.false at c.in_ok-next.ensures.read) c.in-None.ensures.same c.read_rows.ensures
