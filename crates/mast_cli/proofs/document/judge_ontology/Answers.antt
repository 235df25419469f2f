-- The bytes that were read are the file's content.
use Rattle.mast_tree.specs.declared.document.DocName.TheVariants as doc
use Rattle.mast_cli.proofs.StageLemmas.{BreaksOntology, IsOntology, axioms_end, axioms_told, content_of, document_told, document_unread, ontology_some}
use Rattle.mast_cli.proofs.document.judge_ontology.Goals as goal

pub returns-in-Read-clause-told : goal.returns-in-Read-clause-told
returns-in-Read-clause-told g c =
    let reading = g.F.Files.reading c.read_file.new.files in
    axioms_told _ c.args.file.now reading c.ontology_of.result
    (document_told IsOntology BreaksOntology doc.Ontology ontology_some _ c.args.file.now c.deref.result.now c.document_bytes.result reading c.in-Read.bytes c.ontology_of.result c.deref.ensures.value c.document_bytes.ensures.value
    (content_of _ c.args.file.now c.document_bytes.result _ reading c.in_ok-bytes.field-0 c.in-Read.bytes c.in-Read.is c.in_ok-bytes.ensures.told)
    c.ontology_of.ensures.told)

pub returns-in-Ended-clause-told : goal.returns-in-Ended-clause-told
returns-in-Ended-clause-told g c =
    let reading = g.F.Files.reading c.read_file.new.files in
    axioms_end _ c.args.file.now reading c.in-Ended.judged
    (document_unread IsOntology BreaksOntology doc.Ontology ontology_some _ c.args.file.now c.document_bytes.result reading c.in_ok-bytes.field-0 c.in-Ended.judged c.document_bytes.ensures.value c.in-Ended.is c.in_ok-bytes.ensures.told)
