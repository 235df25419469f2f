-- There are no more tokens than bytes; what the reader says of their tree is told of the bytes.
use Rattle.std.proofs.Common.{arith}
use Rattle.mast_constr.specs.Whole.{HasConstraints, IsConstraintsBreach}
use Rattle.mast_tree.specs.declared.document.DocName.TheVariants as doc
use Rattle.mast_tree.specs.Seen.{seen}
use Rattle.mast_cli.specs.inside.Readings.{AreFitConstraints}
use Rattle.mast_cli.proofs.StageLemmas.{is_document, value_kept, value_told}
use Rattle.mast_cli.proofs.TokensLemmas.{tokens_few}
use Rattle.mast_cli.proofs.document.constraints_of.Goals as goal

pub constraints_over-requires-clause-few : goal.constraints_over-requires-clause-few
constraints_over-requires-clause-few c =
    let is = is_document (λ document. HasConstraints document c.args.vocab) (λ document. IsConstraintsBreach document c.args.vocab) doc.Constraints c.args.bytes.now c.in_ok-doc.field-0 c.in-Read-2.doc c.in-Read-2.is c.in_ok-doc.ensures in
    let few = tokens_few c.args.bytes.now (seen c.in-Read-2.doc).tokens is.tokens in
    omega (few, c.requires, arith)

pub returns-clause-told : goal.returns-clause-told
returns-clause-told c =
    let is = is_document (λ document. HasConstraints document c.args.vocab) (λ document. IsConstraintsBreach document c.args.vocab) doc.Constraints c.args.bytes.now c.in_ok-doc.field-0 c.in-Read-2.doc c.in-Read-2.is c.in_ok-doc.ensures in
    value_told (λ document. HasConstraints document c.args.vocab) (λ document. IsConstraintsBreach document c.args.vocab) doc.Constraints c.args.bytes.now (seen c.in-Read-2.doc) c.constraints_over.result c.value_of.result is c.constraints_over.ensures.exact c.value_of.ensures

pub returns-clause-fit : goal.returns-clause-fit
returns-clause-fit c =
    value_kept (λ document. HasConstraints document c.args.vocab) (λ document. IsConstraintsBreach document c.args.vocab) doc.Constraints (AreFitConstraints c.args.vocab) c.constraints_over.result c.value_of.result c.constraints_over.ensures.fit c.value_of.ensures
