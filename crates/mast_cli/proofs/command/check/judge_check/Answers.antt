-- What the stages tell is what the command tells.
use Rattle.std.proofs.Common.{◌∙◌}
use Rattle.mast_cli.specs.stage.Restrictions.{files_of}
use Rattle.mast_cli.proofs.CheckLemmas.{check_cause, check_told, limited_end, tables_counted, tables_end}
use Rattle.mast_cli.proofs.FactsLemmas.{no_fault}
use Rattle.mast_cli.proofs.command.check.judge_check.Goals as goal

pub returns-in-Ended-clause-told : goal.returns-in-Ended-clause-told
returns-in-Ended-clause-told g c =
    limited_end c.files_have_one_answer.ensures.some (files_of c.args.ontology.now c.args.constraints.now c.args.mappings.now) (g.F.Files.contents c.args.files.now) (g.F.Files.reading c.judge_limited.new.files)
    c.in_ok-spec.field-0 c.in-Ended.judged c.in-Ended.is c.in_ok-spec.ensures.told

pub returns-in-Ended-2-clause-told : goal.returns-in-Ended-2-clause-told
returns-in-Ended-2-clause-told g c =
    tables_end c.files_have_one_answer.ensures.some (files_of c.args.ontology.now c.args.constraints.now c.args.mappings.now) (g.F.Files.contents c.args.files.now) (g.F.Files.contents c.judge_limited.new.files)
    (g.F.Files.reading c.judge_limited.new.files) (g.F.Files.reading c.judge_tables.new.files) c.in_ok-spec.field-0 c.in-Read.spec c.as_slice.result.now c.in_ok-list.field-0 c.in-Ended-2.judged
    c.judge_limited.ensures.kept c.as_slice.ensures c.in-Read.is c.in-Ended-2.is c.in_ok-spec.ensures.told c.in_ok-list.ensures.told

pub returns-clause-told : goal.returns-clause-told
returns-clause-told g c =
    check_told c.files_have_one_answer.ensures.some (files_of c.args.ontology.now c.args.constraints.now c.args.mappings.now) (g.F.Files.contents c.args.files.now) (g.F.Files.contents c.judge_limited.new.files)
    (g.F.Files.reading c.judge_limited.new.files) (g.F.Files.reading c.judge_tables.new.files) c.in_ok-spec.field-0 c.in-Read.spec c.as_slice.result.now c.in_ok-list.field-0
    (record { list = c.in-Read-2.list }) c.check.result
    c.judge_limited.ensures.kept c.as_slice.ensures c.in-Read.is c.in-Read-2.is c.in_ok-spec.ensures.told c.in_ok-list.ensures.told c.check.ensures

pub returns-clause-kept : goal.returns-clause-kept
returns-clause-kept g c = c.judge_tables.ensures.kept ∙ c.judge_limited.ensures.kept

pub returns-clause-cause : goal.returns-clause-cause
returns-clause-cause g c =
    check_cause c.in-Read.spec (record { list = c.in-Read-2.list }) (g.F.Files.faults c.args.files.now) (g.F.Files.faults c.judge_tables.new.files) (g.F.Files.reading c.judge_tables.new.files) c.check.result
    (no_fault (g.F.Files.faults c.judge_limited.new.files) (g.F.Files.faults c.judge_tables.new.files) (g.F.Files.reading c.judge_tables.new.files) c.in_ok-list.field-0 c.in-Read-2.list c.in-Read-2.is c.in_ok-list.ensures.cause
    ∙ no_fault (g.F.Files.faults c.args.files.now) (g.F.Files.faults c.judge_limited.new.files) (g.F.Files.reading c.judge_limited.new.files) c.in_ok-spec.field-0 c.in-Read.spec c.in-Read.is c.in_ok-spec.ensures.cause)
    c.check.ensures

pub judge_tables-requires : goal.judge_tables-requires
judge_tables-requires g c = tables_counted c.in-Read.spec c.as_slice.result.now c.as_slice.ensures
