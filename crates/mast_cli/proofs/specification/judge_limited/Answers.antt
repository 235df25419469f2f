-- What the specification and its limits tell is told of both.
use Rattle.mast_cli.specs.stage.Restrictions.{files_of}
use Rattle.mast_cli.proofs.FactsLemmas.{no_fault}
use Rattle.mast_cli.proofs.SpecificationLemmas.{limited_told, limits_cause, limits_met, specification_ended}
use Rattle.mast_cli.proofs.specification.judge_limited.Goals as goal

pub returns-in-Read-clause-told : goal.returns-in-Read-clause-told
returns-in-Read-clause-told g c =
    limited_told (files_of c.args.ontology.now c.args.constraints.now c.args.mappings.now) (g.F.Files.contents c.args.files.now) (g.F.Files.reading c.judge_specification.new.files)
    c.in_ok-spec.field-0 c.in-Read.spec c.within_limits.result c.in-Read.is c.within_limits.ensures c.in_ok-spec.ensures.told

pub returns-in-Read-clause-limits : goal.returns-in-Read-clause-limits
returns-in-Read-clause-limits g c = limits_met c.in-Read.spec c.within_limits.result c.within_limits.ensures

pub returns-in-Ended-clause-told : goal.returns-in-Ended-clause-told
returns-in-Ended-clause-told g c =
    specification_ended (files_of c.args.ontology.now c.args.constraints.now c.args.mappings.now) (g.F.Files.contents c.args.files.now) (g.F.Files.reading c.judge_specification.new.files)
    c.in_ok-spec.field-0 c.in-Ended.judged c.in-Ended.is c.in_ok-spec.ensures.told

pub returns-in-Read-clause-cause : goal.returns-in-Read-clause-cause
returns-in-Read-clause-cause g c =
    let before = g.F.Files.faults c.args.files.now in
    let now = g.F.Files.faults c.judge_specification.new.files in
    let reading = g.F.Files.reading c.judge_specification.new.files in
    limits_cause c.in-Read.spec before now reading c.within_limits.result c.within_limits.ensures
    (no_fault before now reading c.in_ok-spec.field-0 c.in-Read.spec c.in-Read.is c.in_ok-spec.ensures.cause)
