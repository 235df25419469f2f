-- What stops the reading of the attribute or of the type stops that of both.
use Rattle.std.specs.Prelude.{◌≡◌, Option, Ok}
use Rattle.mast_terms.specs.declared.value.Kind.{Kind}
use Rattle.mast_tree.proofs.JudgementLemmas.{right_parts}
use Rattle.mast_tree.specs.declared.shape.ShapeKind.TheVariants.{NotDlLite}
use Rattle.mast_expressions.specs.Given.{IsAttr}
use Rattle.mast_expressions.specs.Judged.{attr_judged}
use Rattle.mast_expressions.specs.Reads.{page}
use Rattle.mast_expressions.proofs.ReadLemmas.{handed, stops_first, stops_second}
use Rattle.mast_tree.specs.Judgements.{breach_judged}
use Rattle.mast_onto.specs.Axioms.{type_said, form_judged, IsAxiom}
use Rattle.mast_onto.specs.Nodes.{range}
use Rattle.mast_onto.specs.declared.statement.Axiom.{Axiom}
use Rattle.mast_onto.proofs.reader.Reader.range.Goals as goal

pub returns-in_err-attr : goal.returns-in_err-attr
returns-in_err-attr c =
    let page = page c.args.self.now.places in
    let form = range c.args.attr.now c.args.of_type.now in
    let Given : Axiom → Type 0 = IsAxiom page c.attr.new.vocab form in
    handed c.args.vocab.now c.attr.new.vocab (form_judged page form) Given c.from_residual.result c.in_err-attr.field-0.0 c.from_residual.ensures.1
    (stops_first c.args.vocab.now c.attr.new.vocab c.attr.new.vocab (attr_judged NotDlLite page c.args.attr.now) (breach_judged (type_said page c.args.of_type.now))
    (IsAttr c.attr.new.vocab page c.args.attr.now) Given c.in_err-attr.field-0.0 c.in_err-attr.ensures)

pub returns-in_err-kind : goal.returns-in_err-kind
returns-in_err-kind c =
    let page = page c.args.self.now.places in
    let form = range c.args.attr.now c.args.of_type.now in
    let Given : Axiom → Type 0 = IsAxiom page c.attr.new.vocab form in
    let Type_is : Option Kind → Type 0 = λ kind. type_said page c.args.of_type.now ≡ Ok kind in
    handed c.args.vocab.now c.attr.new.vocab (form_judged page form) Given c.from_residual-in_err-kind.result c.in_err-kind.field-0.0 c.from_residual-in_err-kind.ensures.1
    (stops_second c.args.vocab.now c.attr.new.vocab c.attr.new.vocab c.attr.new.vocab (attr_judged NotDlLite page c.args.attr.now) (breach_judged (type_said page c.args.of_type.now))
    Type_is Given c.in_err-kind.field-0.0 c.in_ok-attr.ensures.0 (c.in_err-kind.ensures c.attr.new.vocab))

pub returns : goal.returns
returns c =
    let page = page c.args.self.now.places in
    let second = c.in_ok-kind.ensures c.attr.new.vocab in (
      right_parts c.args.vocab.now c.attr.new.vocab c.attr.new.vocab (attr_judged NotDlLite page c.args.attr.now) (breach_judged (type_said page c.args.of_type.now)) c.in_ok-attr.ensures.0 second.0,
      (c.in_ok-attr.ensures.1, second.1),
    )
