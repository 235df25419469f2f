-- What stops the reading of a part stops that of both.
use Rattle.mast_tree.proofs.GrowingLemmas.{right_begins}
use Rattle.mast_tree.proofs.JudgementLemmas.{right_parts}
use Rattle.mast_tree.specs.declared.shape.ShapeKind.TheVariants.{NotDlLite}
use Rattle.mast_expressions.specs.Given.{IsRole, IsClassIn}
use Rattle.mast_expressions.specs.Judged.{role_judged, class_judged}
use Rattle.mast_expressions.specs.Reads.{page}
use Rattle.mast_expressions.proofs.GivenLemmas.{role_grows}
use Rattle.mast_expressions.proofs.ReadLemmas.{handed, stops_first, stops_second}
use Rattle.mast_onto.specs.Rights.{filled, part_judged, IsPart}
use Rattle.mast_onto.specs.declared.statement.Part.{Part}
use Rattle.mast_onto.proofs.reader.Reader.filled.Goals as goal

pub returns-in_err-role : goal.returns-in_err-role
returns-in_err-role c =
    let page = page c.args.self.now.places in
    let form = filled c.args.role.now c.args.filler.now in
    let Given : Part → Type 0 = IsPart page c.role.new.vocab form in
    handed c.args.vocab.now c.role.new.vocab (part_judged page form) Given c.from_residual.result c.in_err-role.field-0.0 c.from_residual.ensures.1
    (stops_first c.args.vocab.now c.role.new.vocab c.role.new.vocab (role_judged NotDlLite page c.args.role.now) (class_judged NotDlLite page c.args.filler.now)
    (IsRole c.role.new.vocab page c.args.role.now) Given c.in_err-role.field-0.0 c.in_err-role.ensures)

pub returns-in_err-end : goal.returns-in_err-end
returns-in_err-end c =
    let page = page c.args.self.now.places in
    let form = filled c.args.role.now c.args.filler.now in
    let Given : Part → Type 0 = IsPart page c.class.new.vocab form in
    handed c.args.vocab.now c.class.new.vocab (part_judged page form) Given c.from_residual-in_err-end.result c.in_err-end.field-0.0 c.from_residual-in_err-end.ensures.1
    (stops_second c.args.vocab.now c.role.new.vocab c.class.new.vocab c.class.new.vocab (role_judged NotDlLite page c.args.role.now) (class_judged NotDlLite page c.args.filler.now)
    (IsClassIn c.class.new.vocab page c.args.filler.now) Given c.in_err-end.field-0.0 c.in_ok-role.ensures.0 c.in_err-end.ensures)

pub returns : goal.returns
returns c =
    let page = page c.args.self.now.places in
    let first = c.in_ok-role.ensures in
    let second = c.in_ok-end.ensures in
    let J = role_judged NotDlLite page c.args.role.now in
    let K = class_judged NotDlLite page c.args.filler.now in (
      right_parts c.args.vocab.now c.role.new.vocab c.class.new.vocab J K first.0 second.0,
      (role_grows c.class.new.vocab c.role.new.vocab page c.args.role.now _ (right_begins c.role.new.vocab c.class.new.vocab K second.0) first.1, second.1),
    )
