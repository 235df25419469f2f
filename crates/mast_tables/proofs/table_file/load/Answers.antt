use Rattle.csv.specs.Reading.{reader_state}
use Rattle.mast_tables.proofs.RoomLemmas.{leaves_all}
use Rattle.mast_tables.proofs.table_file.load.Goals as goal

pub read_table-requires-clause-room : goal.read_table-requires-clause-room
read_table-requires-clause-room c =
    rw c.from_reader-reader.ensures.source (leaves_all c.args.bytes.now (reader_state c.from_reader-reader.result) c.requires.small)
