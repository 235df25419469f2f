-- What the documents tell is told of all.
use Rattle.mast_cli.specs.stage.Restrictions.{files_of}
use Rattle.mast_cli.proofs.SpecificationLemmas.{are_one, documents_read, ontology_ends, rest_ends}
use Rattle.mast_cli.proofs.specification.judge_documents.Goals as goal

pub returns-in-Ended-clause-told : goal.returns-in-Ended-clause-told
returns-in-Ended-clause-told g c =
    ontology_ends (files_of c.args.ontology.now c.args.constraints.now c.args.mappings.now) (g.F.Files.contents c.args.files.now) (g.F.Files.reading c.judge_ontology.new.files)
    c.in_ok-ontology.field-0 c.in-Ended.judged c.in-Ended.is c.in_ok-ontology.ensures.told

pub returns-in-Ended-2-clause-told : goal.returns-in-Ended-2-clause-told
returns-in-Ended-2-clause-told g c =
    rest_ends (files_of c.args.ontology.now c.args.constraints.now c.args.mappings.now) (g.F.Files.contents c.args.files.now) (g.F.Files.contents c.judge_ontology.new.files)
    (g.F.Files.reading c.judge_ontology.new.files) (g.F.Files.reading c.judge_rest.new.files) c.in_ok-ontology.field-0 c.in-Read.ontology c.in_ok-vocab.vocab c.in_ok-rest.field-0
    c.in-Ended-2.judged c.judge_ontology.ensures.kept c.in_ok-vocab.ensures c.in-Read.is c.in-Ended-2.is c.in_ok-ontology.ensures.told c.in_ok-rest.ensures.told

pub returns-in-Read-2-clause-told : goal.returns-in-Read-2-clause-told
returns-in-Read-2-clause-told g c =
    documents_read (files_of c.args.ontology.now c.args.constraints.now c.args.mappings.now) (g.F.Files.contents c.args.files.now) (g.F.Files.contents c.judge_ontology.new.files)
    (g.F.Files.reading c.judge_ontology.new.files) (g.F.Files.reading c.judge_rest.new.files) c.in_ok-ontology.field-0
    (record { ontology = c.in-Read.ontology; constraints = c.in-Read-2.rest.0; mappings = c.in-Read-2.rest.1 }) c.in_ok-vocab.vocab c.in_ok-rest.field-0
    c.judge_ontology.ensures.kept c.in_ok-vocab.ensures c.in-Read.is c.in-Read-2.is c.in_ok-ontology.ensures.told c.in_ok-rest.ensures.told

pub returns-in-Read-2-clause-one : goal.returns-in-Read-2-clause-one
returns-in-Read-2-clause-one g c =
    are_one (record { ontology = c.in-Read.ontology; constraints = c.in-Read-2.rest.0; mappings = c.in-Read-2.rest.1 }) c.in_ok-vocab.vocab c.in_ok-ontology.field-0 c.in_ok-rest.field-0
    c.in_ok-vocab.ensures c.in-Read.is c.in-Read-2.is c.in_ok-ontology.ensures.names c.in_ok-rest.ensures.fit
