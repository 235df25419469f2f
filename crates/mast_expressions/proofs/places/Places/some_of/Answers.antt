-- What stops the reading of a part stops that of both.
use Rattle.mast_tbox.specs.declared.expression.RoleExpr.{RoleExpr}
use Rattle.mast_tree.proofs.JudgementLemmas.{right_parts}
use Rattle.mast_tree.specs.declared.shape.ShapeKind.TheVariants.{NotDlLite}
use Rattle.mast_expressions.specs.Given.{IsRole}
use Rattle.mast_expressions.specs.Judged.{role_judged, is_iri_judged, some_parts}
use Rattle.mast_tree.specs.Pages.{Expands}
use Rattle.mast_expressions.specs.Iris.{owl_thing}
use Rattle.mast_expressions.specs.Reads.{page}
use Rattle.mast_expressions.proofs.ReadLemmas.{handed, stops_first, stops_second}
use Rattle.mast_expressions.proofs.places.Places.some_of.Goals as goal

pub returns-in_err-role : goal.returns-in_err-role
returns-in_err-role c =
    let page = page c.args.self.now in
    let Given : RoleExpr → Type 0 = λ r. IsRole c.role.new.vocab page c.args.role.now r × Expands page c.args.filler.now owl_thing in
    handed c.args.vocab.now c.role.new.vocab (some_parts page c.args.role.now c.args.filler.now) Given c.from_residual.result c.in_err-role.field-0.0 c.from_residual.ensures.1
    (stops_first c.args.vocab.now c.role.new.vocab c.role.new.vocab (role_judged NotDlLite page c.args.role.now) (is_iri_judged owl_thing NotDlLite page c.args.filler.now)
    (IsRole c.role.new.vocab page c.args.role.now) Given c.in_err-role.field-0.0 c.in_err-role.ensures)

pub returns-in_err-is_iri : goal.returns-in_err-is_iri
returns-in_err-is_iri c =
    let page = page c.args.self.now in
    let Given : RoleExpr → Type 0 = λ r. IsRole c.role.new.vocab page c.args.role.now r × Expands page c.args.filler.now owl_thing in
    handed c.args.vocab.now c.role.new.vocab (some_parts page c.args.role.now c.args.filler.now) Given c.from_residual-in_err-is_iri.result c.in_err-is_iri.field-0.0 c.from_residual-in_err-is_iri.ensures.1
    (stops_second c.args.vocab.now c.role.new.vocab c.role.new.vocab c.role.new.vocab (role_judged NotDlLite page c.args.role.now) (is_iri_judged owl_thing NotDlLite page c.args.filler.now)
    (λ u. Expands page c.args.filler.now owl_thing) Given c.in_err-is_iri.field-0.0 c.in_ok-role.ensures.0 (c.in_err-is_iri.ensures c.role.new.vocab))

pub returns : goal.returns
returns c =
    let page = page c.args.self.now in
    let second = c.in_ok-is_iri.ensures c.role.new.vocab in (
      right_parts c.args.vocab.now c.role.new.vocab c.role.new.vocab (role_judged NotDlLite page c.args.role.now) (is_iri_judged owl_thing NotDlLite page c.args.filler.now) c.in_ok-role.ensures.0 second.0,
      (c.in_ok-role.ensures.1, second.1),
    )
