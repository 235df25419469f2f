-- The steps of the loop.
use Rattle.std.proofs.Common.{length, ap, arith}
use Rattle.mast_tables.specs.Records.{records_of}
use Rattle.mast_tables.proofs.RecordsLemmas.{is_place}
use Rattle.mast_tables_tests.proofs.tests.looked_up_in.Goals as goal

pub cell-requires : goal.cell-requires
cell-requires c =
    is_place c.args.decl.now.columns 3 (records_of c.args.bytes.now) c.in-Ok.table c.args.row c.args.column c.in-Ok.ensures (omega arith) (omega arith) (omega arith) (omega (arith, ap length c.as_slice-width.ensures))

pub number-requires : goal.number-requires
number-requires c =
    is_place c.args.decl.now.columns 3 (records_of c.args.bytes.now) c.in-Ok.table c.args.row c.args.column c.in-Ok.ensures (omega arith) (omega arith) (omega arith) (omega (arith, ap length c.as_slice-width.ensures))
