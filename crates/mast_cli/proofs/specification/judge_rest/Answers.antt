-- What the two documents tell is told of both.
use Rattle.mast_cli.proofs.SpecificationLemmas.{constraints_end, mappings_end, rest_fit, rest_read}
use Rattle.mast_cli.proofs.specification.judge_rest.Goals as goal

pub returns-in-Ended-clause-told : goal.returns-in-Ended-clause-told
returns-in-Ended-clause-told g c =
    constraints_end c.args.vocab c.len.ensures.lawful c.args.constraints.now c.args.mappings.now (g.F.Files.contents c.args.files.now) (g.F.Files.reading c.judge_constraints.new.files)
    c.in_ok-constraints.field-0 c.in-Ended.judged c.in-Ended.is c.in_ok-constraints.ensures.told

pub returns-in-Ended-2-clause-told : goal.returns-in-Ended-2-clause-told
returns-in-Ended-2-clause-told g c =
    mappings_end c.args.vocab c.len.ensures.lawful c.args.constraints.now c.args.mappings.now (g.F.Files.contents c.args.files.now) (g.F.Files.contents c.judge_constraints.new.files)
    (g.F.Files.reading c.judge_constraints.new.files) (g.F.Files.reading c.judge_mappings.new.files) c.in_ok-constraints.field-0 c.in-Read.constraints c.in_ok-vocab.vocab c.in_ok-mappings.field-0
    c.in-Ended-2.judged c.judge_constraints.ensures.kept c.in_ok-vocab.ensures c.in-Read.is c.in-Ended-2.is c.in_ok-constraints.ensures.told c.in_ok-mappings.ensures.told

pub returns-in-Read-2-clause-told : goal.returns-in-Read-2-clause-told
returns-in-Read-2-clause-told g c =
    rest_read c.args.vocab c.len.ensures.lawful c.args.constraints.now c.args.mappings.now (g.F.Files.contents c.args.files.now) (g.F.Files.contents c.judge_constraints.new.files)
    (g.F.Files.reading c.judge_constraints.new.files) (g.F.Files.reading c.judge_mappings.new.files) c.in_ok-constraints.field-0 c.in-Read.constraints c.in_ok-vocab.vocab c.in_ok-mappings.field-0
    c.in-Read-2.mappings c.judge_constraints.ensures.kept c.in_ok-vocab.ensures c.in-Read.is c.in-Read-2.is c.in_ok-constraints.ensures.told c.in_ok-mappings.ensures.told

pub returns-in-Read-2-clause-fit : goal.returns-in-Read-2-clause-fit
returns-in-Read-2-clause-fit g c =
    rest_fit c.args.vocab c.in_ok-vocab.vocab c.in_ok-constraints.field-0 c.in_ok-mappings.field-0 c.in-Read.constraints c.in-Read-2.mappings c.in_ok-vocab.ensures c.in-Read.is c.in-Read-2.is
    c.in_ok-constraints.ensures.fit c.in_ok-mappings.ensures.fit
