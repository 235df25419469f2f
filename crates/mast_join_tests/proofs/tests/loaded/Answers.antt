-- The rows of a file are rows of its declaration.
use Rattle.std.proofs.Common.{ap, arith, length}
use Rattle.mast_tables.specs.Records.{records_of}
use Rattle.mast_canon.proofs.FittingLemmas.{table_fits}
use Rattle.mast_join_tests.proofs.tests.loaded.Goals as goal

pub returns-in-Ok : goal.returns-in-Ok
returns-in-Ok c = record {
  fit = table_fits c.args.decl.now 1000 (records_of c.as_bytes.result.now) c.in-Ok.table c.in-Ok.ensures;
  few = omega (arith, c.if-as_slice-gt3.false, ap length c.as_slice.ensures);
}
