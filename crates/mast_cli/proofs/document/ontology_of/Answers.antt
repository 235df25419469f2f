-- What the reader says of the tree is told of the bytes, and a new vocabulary names nothing.
use Rattle.std.proofs.Common.{subst}
use Rattle.mast_onto.specs.Known.{HasNames}
use Rattle.mast_onto.specs.Ontologies.{HasOntology, IsOntologyBreach}
use Rattle.mast_terms.specs.Answers.{Answers}
use Rattle.mast_tree.specs.declared.document.DocName.TheVariants as doc
use Rattle.mast_tree.specs.Seen.{seen}
use Rattle.mast_cli.proofs.StageLemmas.{BreaksOntology, IsOntology, is_document, value_kept, value_told}
use Rattle.mast_cli.proofs.document.ontology_of.Goals as goal

pub returns-clause-told : goal.returns-clause-told
returns-clause-told c =
    let document = seen c.in-Read-2.doc in
    let is = is_document IsOntology BreaksOntology doc.Ontology c.args.bytes.now c.in_ok-doc.field-0 c.in-Read-2.doc c.in-Read-2.is c.in_ok-doc.ensures in
    value_told IsOntology BreaksOntology doc.Ontology c.args.bytes.now document c.read_ontology-read.result c.value_of.result is
    (subst (λ old. Answers c.read_ontology-read.result (HasOntology document old) (IsOntologyBreach document old)) c.new.ensures c.read_ontology-read.ensures.exact) c.value_of.ensures

pub returns-clause-names : goal.returns-clause-names
returns-clause-names c =
    value_kept IsOntology BreaksOntology doc.Ontology HasNames c.read_ontology-read.result c.value_of.result c.read_ontology-read.ensures.names c.value_of.ensures
