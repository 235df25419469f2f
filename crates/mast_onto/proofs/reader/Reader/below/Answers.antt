-- What stops the reading of a side stops that of both.
use Rattle.mast_tbox.specs.Lists.{AreEach}
use Rattle.mast_tree.proofs.GrowingLemmas.{right_begins}
use Rattle.mast_tree.proofs.JudgementLemmas.{right_parts}
use Rattle.mast_expressions.specs.Reads.{page}
use Rattle.mast_expressions.proofs.ReadLemmas.{handed, stops_first, stops_second}
use Rattle.mast_onto.specs.Axioms.{member_judged, form_judged, IsSubject, IsAxiom}
use Rattle.mast_onto.specs.Nodes.{below}
use Rattle.mast_onto.specs.Rights.{right_forms, right_judged, IsPart}
use Rattle.mast_onto.specs.declared.statement.Axiom.{Axiom}
use Rattle.mast_onto.proofs.KeptLemmas.{subject_kept}
use Rattle.mast_onto.proofs.reader.Reader.below.Goals as goal

pub returns-in_err-sub : goal.returns-in_err-sub
returns-in_err-sub c =
    let page = page c.args.self.now.places in
    let form = below c.args.place c.args.turned c.args.sub.now c.args.sup.now in
    let Given : Axiom → Type 0 = IsAxiom page c.subject.new.vocab form in
    handed c.args.vocab.now c.subject.new.vocab (form_judged page form) Given c.from_residual.result c.in_err-sub.field-0.0 c.from_residual.ensures.1
    (stops_first c.args.vocab.now c.subject.new.vocab c.subject.new.vocab (member_judged page c.args.place c.args.sub.now) (right_judged page c.args.sup.now)
    (IsSubject page c.args.place c.args.turned c.subject.new.vocab c.args.sub.now) Given c.in_err-sub.field-0.0 c.in_err-sub.ensures)

pub returns-in_err-parts : goal.returns-in_err-parts
returns-in_err-parts c =
    let page = page c.args.self.now.places in
    let form = below c.args.place c.args.turned c.args.sub.now c.args.sup.now in
    let Given : Axiom → Type 0 = IsAxiom page c.right.new.vocab form in
    handed c.args.vocab.now c.right.new.vocab (form_judged page form) Given c.from_residual-in_err-parts.result c.in_err-parts.field-0.0 c.from_residual-in_err-parts.ensures.1
    (stops_second c.args.vocab.now c.subject.new.vocab c.right.new.vocab c.right.new.vocab (member_judged page c.args.place c.args.sub.now) (right_judged page c.args.sup.now)
    (AreEach (IsPart page c.right.new.vocab) (right_forms page c.args.sup.now)) Given c.in_err-parts.field-0.0 c.in_ok-sub.ensures.0 c.in_err-parts.ensures)

pub returns : goal.returns
returns c =
    let page = page c.args.self.now.places in
    let first = c.in_ok-sub.ensures in
    let second = c.in_ok-parts.ensures in
    let J = member_judged page c.args.place c.args.sub.now in
    let K = right_judged page c.args.sup.now in (
      right_parts c.args.vocab.now c.subject.new.vocab c.right.new.vocab J K first.0 second.0,
      (subject_kept page c.args.place c.args.turned c.right.new.vocab c.subject.new.vocab c.args.sub.now _ (right_begins c.subject.new.vocab c.right.new.vocab K second.0) first.1, second.1),
    )
