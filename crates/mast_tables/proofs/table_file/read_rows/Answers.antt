use Rattle.std.proofs.Common.{◌+◌, ◌-◌, ◌∙◌, length, arith}
use Rattle.std.proofs.lemmas.Option.{IfSome_then}
use Rattle.csv.specs.Reading.{source_of, reader_state}
use Rattle.csv.specs.Records.{fields_of}
use Rattle.mast_tables.proofs.RecordsLemmas.{passes_end, passes_stopped, answered, passes_more, passes_out, size_more}
use Rattle.mast_tables.proofs.RoomLemmas.{leaves_more, leaves_row, leaves_within}
use Rattle.mast_tables.specs.inside.Cells.{cells_in}
use Rattle.mast_tables.proofs.table_file.read_rows.Goals as goal

pub read_row-requires-clause-room : goal.read_row-requires-clause-room
read_row-requires-clause-room g c =
    let loop = c.loop-row in
    let rem = g.R.Read.remaining in
    let h = rw c.if-not-branch.false at c.in_ok-next.ensures.read in
    leaves_within (source_of rem c.next.new.reader) (reader_state c.next.new.reader) _
    (leaves_more (source_of rem loop.reader) (source_of rem c.next.new.reader) (reader_state loop.reader) (reader_state c.next.new.reader) (length (cells_in loop.cells)) (fields_of c.next.new.line) h loop.invariant.room)

pub returns-then-not-branch : goal.returns-then-not-branch
returns-then-not-branch g c =
    let loop = c.loop-row in
    let rem = g.R.Read.remaining in
    let h = rw c.if-not-branch.true at c.in_ok-next.ensures.read in
    rw loop.invariant.wide (IfSome_then (source_of rem c.args.reader.now) loop.invariant.told (λ bytes l.
    passes_end (source_of rem loop.reader) (source_of rem c.next.new.reader) (reader_state loop.reader) (reader_state c.next.new.reader)
    c.args.columns.now c.args.most loop.row (c.args.turns - loop.row) (c.args.turns - loop.row - 1) (fields_of c.next.new.line) loop.cells _ (omega arith) h l))

pub returns-in_err-read_row : goal.returns-in_err-read_row
returns-in_err-read_row g c =
    let loop = c.loop-row in
    let rem = g.R.Read.remaining in
    let h = rw c.if-not-branch.false at c.in_ok-next.ensures.read in
    IfSome_then (source_of rem c.args.reader.now) loop.invariant.told (λ bytes l.
    answered c.args.columns.now c.args.most _ c.from_residual-in_err-read_row.result c.in_err-read_row.field-0.0 c.from_residual-in_err-read_row.ensures.1
    (passes_stopped (source_of rem loop.reader) (source_of rem c.next.new.reader) (reader_state loop.reader) (reader_state c.next.new.reader)
    c.args.columns.now c.args.most loop.row (c.args.turns - loop.row) (c.args.turns - loop.row - 1) (fields_of c.next.new.line) loop.cells loop.cells c.read_row.new.cells _ c.in_err-read_row.field-0.0 (omega arith) h c.in_err-read_row.ensures l))

pub loop-row-preserved : goal.loop-row-preserved
loop-row-preserved g c =
    let loop = c.loop-row in
    let rem = g.R.Read.remaining in
    let columns = c.args.columns.now in
    let fields = fields_of c.next.new.line in
    let h = rw c.if-not-branch.false at c.in_ok-next.ensures.read in
    let r = c.in_ok-read_row.ensures in
    record {
      plain = c.in_ok-next.ensures.plain;
      cells = r.3.cells;
      wide = r.3.wide ∙ loop.invariant.wide;
      size = size_more columns fields loop.cells c.read_row.new.cells loop.row r.0 r.2 r.3.added loop.invariant.size;
      room = leaves_row (source_of rem loop.reader) (source_of rem c.next.new.reader) (reader_state loop.reader) (reader_state c.next.new.reader)
          columns fields r.0 loop.cells c.read_row.new.cells h r.2 r.3.added loop.invariant.room;
      told = IfSome_then (source_of rem c.args.reader.now) loop.invariant.told (λ bytes l.
          passes_more (source_of rem loop.reader) (source_of rem c.next.new.reader) (reader_state loop.reader) (reader_state c.next.new.reader)
          columns c.args.most loop.row (c.args.turns - loop.row) (c.args.turns - (loop.row + 1)) fields loop.cells c.read_row.new.cells _ (omega arith) h r loop.invariant.size l);
    }

pub returns : goal.returns
returns g c =
    let loop = c.loop-row in
    let rem = g.R.Read.remaining in
    rw loop.invariant.wide (IfSome_then (source_of rem c.args.reader.now) loop.invariant.told (λ bytes l.
    passes_out (source_of rem loop.reader) (reader_state loop.reader) c.args.columns.now c.args.most loop.row (c.args.turns - loop.row) c.args.turns loop.cells _ (omega arith) (omega arith) l))
