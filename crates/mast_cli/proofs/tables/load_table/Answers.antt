-- The breach is that of the bytes' records.
use Rattle.std.proofs.Common.{ap}
use Rattle.mast_tables.specs.Breach.{HasRows, HasBreach}
use Rattle.mast_tables.specs.Records.{records_of}
use Rattle.mast_write.specs.declared.refusals.Refusal.TheVariants as refusal
use Rattle.mast_cli.specs.inside.Loading.{RecordsEvent}
use Rattle.mast_cli.proofs.TellingLemmas.{ends_bytes, refusal_of}
use Rattle.mast_cli.proofs.tables.load_table.Goals as goal

pub returns-in_ok-table-in-Err-Named-clause-told : goal.returns-in_ok-table-in-Err-Named-clause-told
returns-in_ok-table-in-Err-Named-clause-told c =
    let decl = c.args.decl.now in
    let records = records_of c.args.bytes.now in
    let most = c.args.rows.now in
    let name = c.in_ok-table-in-Err-Named.table in
    let stopped = c.in-Err-Named in
    let breach = refusal_of (HasRows decl.columns most records) (HasBreach decl.columns most records) stopped.field-0 stopped.breach stopped.field-0-is stopped.ensures in
    ends_bytes (HasRows decl.columns most records) (RecordsEvent most decl c.args.bytes.now) (refusal.Table name stopped.breach) c.ended_at.result
    (stopped.breach, breach, ap (λ n. refusal.Table n stopped.breach) c.in_ok-table-in-Err-Named.ensures.equal) c.ended_at.ensures
