-- What the documents and the restrictions tell is told of the specification.
use Rattle.mast_cli.specs.stage.Restrictions.{files_of}
use Rattle.mast_cli.specs.inside.Specifying.{documents_of}
use Rattle.mast_cli.proofs.FactsLemmas.{no_fault}
use Rattle.mast_cli.proofs.SpecificationLemmas.{documents_ended, restricted_cause, restricted_told}
use Rattle.mast_cli.proofs.specification.judge_specification.Goals as goal

pub returns-in-Read-clause-told : goal.returns-in-Read-clause-told
returns-in-Read-clause-told g c =
    restricted_told (files_of c.args.ontology.now c.args.constraints.now c.args.mappings.now) (g.F.Files.contents c.args.files.now) (g.F.Files.reading c.judge_documents.new.files)
    c.in_ok-read.field-0 c.in-Read.read c.restrict.result c.in-Read.is c.restrict.ensures c.in_ok-read.ensures.told

pub returns-in-Ended-clause-told : goal.returns-in-Ended-clause-told
returns-in-Ended-clause-told g c =
    documents_ended (files_of c.args.ontology.now c.args.constraints.now c.args.mappings.now) (g.F.Files.contents c.args.files.now) (g.F.Files.reading c.judge_documents.new.files)
    c.in_ok-read.field-0 c.in-Ended.judged c.in-Ended.is c.in_ok-read.ensures.told

pub returns-in-Read-clause-cause : goal.returns-in-Read-clause-cause
returns-in-Read-clause-cause g c =
    let before = g.F.Files.faults c.args.files.now in
    let now = g.F.Files.faults c.judge_documents.new.files in
    let reading = g.F.Files.reading c.judge_documents.new.files in
    restricted_cause (documents_of c.in-Read.read) before now reading c.restrict.result c.restrict.ensures
    (no_fault before now reading c.in_ok-read.field-0 c.in-Read.read c.in-Read.is c.in_ok-read.ensures.cause)
