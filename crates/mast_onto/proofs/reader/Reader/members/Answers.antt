-- Each item that is read leads on, and what stops the reading of one stops that of all.
use Rattle.std.proofs.Common.{◌+◌, List, drop, refl, subst, sym}
use Rattle.std.specs.List.{flat_map}
use Rattle.std.proofs.lemmas.List.{drop_all}
use Rattle.mast_terms.proofs.PlaceLemmas.{drop-next}
use Rattle.mast_tbox.specs.Lists.{AreEach}
use Rattle.mast_expressions.specs.Reads.{page}
use Rattle.mast_expressions.proofs.ReadLemmas.{handed}
use Rattle.mast_onto.specs.Axioms.{member_judged, IsMember}
use Rattle.mast_onto.specs.inside.Reads.{Leads}
use Rattle.mast_onto.specs.declared.statement.Expression.{Expression}
use Rattle.mast_onto.proofs.KeptLemmas.{member_kept}
use Rattle.mast_onto.proofs.LeadLemmas.{leads_next, leads_stop, leads_end}
use Rattle.mast_onto.proofs.reader.Reader.members.Goals as goal

pub returns-in_err-member : goal.returns-in_err-member
returns-in_err-member c =
    let page = page c.args.self.now.places in
    let J = member_judged page c.args.place in
    let Is = IsMember page c.args.place in
    let l = c.loop-item in
    let next = drop-next c.args.items.now c.args.items.now l.item-index c.item-item.result refl c.loop-item-test.true c.item-item.is in
    let Given : List Expression → Type 0 = AreEach (Is c.member.new.vocab) c.args.items.now in
    handed c.args.vocab.now c.member.new.vocab (flat_map J c.args.items.now) Given c.from_residual.result c.in_err-member.field-0.0 c.from_residual.ensures.1
    (leads_stop J Is c.args.vocab.now l.vocab c.member.new.vocab c.member.new.vocab c.args.items.now (drop (l.item-index + 1) c.args.items.now) c.item-item.result l.members
    (Is c.member.new.vocab c.item-item.result) Given c.in_err-member.field-0.0
    (subst (λ xs. Leads J Is c.args.vocab.now c.args.items.now l.vocab xs l.members) next l.invariant) c.in_err-member.ensures)

pub loop-item-preserved : goal.loop-item-preserved
loop-item-preserved c =
    let page = page c.args.self.now.places in
    let J = member_judged page c.args.place in
    let Is = IsMember page c.args.place in
    let l = c.loop-item in
    let next = drop-next c.args.items.now c.args.items.now l.item-index c.item-item.result refl c.loop-item-test.true c.item-item.is in
    let rest = drop (l.item-index + 1) c.args.items.now in
    subst (λ done. Leads J Is c.args.vocab.now c.args.items.now c.member.new.vocab rest done) (sym c.in_ok-push.ensures.ok)
    (leads_next J Is c.args.vocab.now l.vocab c.member.new.vocab c.args.items.now rest c.item-item.result c.in_ok-member.member l.members (member_kept page c.args.place)
    (subst (λ xs. Leads J Is c.args.vocab.now c.args.items.now l.vocab xs l.members) next l.invariant) c.in_ok-member.ensures.0 c.in_ok-member.ensures.1)

pub returns : goal.returns
returns c =
    let page = page c.args.self.now.places in
    let J = member_judged page c.args.place in
    let Is = IsMember page c.args.place in
    let l = c.loop-item in
    leads_end J Is c.args.vocab.now l.vocab c.args.items.now l.members
    (subst (λ xs. Leads J Is c.args.vocab.now c.args.items.now l.vocab xs l.members) (drop_all l.item-index c.args.items.now c.loop-item-test.false) l.invariant)
