-- Each form that is read leads on, and what stops the reading of one stops that of all.
use Rattle.std.proofs.Common.{◌≡◌, ◌+◌, ◌∷◌, List, map, drop, refl, ap, subst, sym}
use Rattle.std.specs.List.{flat_map}
use Rattle.std.proofs.lemmas.List.{drop_all}
use Rattle.mast_terms.proofs.PlaceLemmas.{drop-next}
use Rattle.mast_tbox.specs.Lists.{AreEach}
use Rattle.mast_expressions.specs.Reads.{page}
use Rattle.mast_expressions.proofs.ReadLemmas.{handed}
use Rattle.mast_onto.specs.Rights.{part_judged, IsPart}
use Rattle.mast_onto.specs.inside.Reads.{Leads}
use Rattle.mast_onto.specs.inside.Shown.{shown_part}
use Rattle.mast_onto.specs.declared.statement.Part.{Part}
use Rattle.mast_onto.proofs.KeptLemmas.{part_kept}
use Rattle.mast_onto.proofs.LeadLemmas.{leads_next, leads_stop, leads_end}
use Rattle.mast_onto.proofs.reader.Reader.parts.Goals as goal

pub returns-in_err-part : goal.returns-in_err-part
returns-in_err-part c =
    let page = page c.args.self.now.places in
    let J = part_judged page in
    let Is = IsPart page in
    let l = c.loop-form in
    let all = map shown_part c.args.forms.now in
    let form = shown_part c.form-item.result in
    let rest = map shown_part (drop (l.form-index + 1) c.args.forms.now) in
    let next : map shown_part (drop l.form-index c.args.forms.now) ≡ form ∷ rest = ap (map shown_part) (drop-next c.args.forms.now c.args.forms.now l.form-index c.form-item.result refl c.loop-form-test.true c.form-item.is) in
    let Given : List Part → Type 0 = AreEach (Is c.part.new.vocab) all in
    handed c.args.vocab.now c.part.new.vocab (flat_map J all) Given c.from_residual.result c.in_err-part.field-0.0 c.from_residual.ensures.1
    (leads_stop J Is c.args.vocab.now l.vocab c.part.new.vocab c.part.new.vocab all rest form l.parts
    (Is c.part.new.vocab form) Given c.in_err-part.field-0.0
    (subst (λ xs. Leads J Is c.args.vocab.now all l.vocab xs l.parts) next l.invariant) c.in_err-part.ensures)

pub loop-form-preserved : goal.loop-form-preserved
loop-form-preserved c =
    let page = page c.args.self.now.places in
    let J = part_judged page in
    let Is = IsPart page in
    let l = c.loop-form in
    let all = map shown_part c.args.forms.now in
    let form = shown_part c.form-item.result in
    let rest = map shown_part (drop (l.form-index + 1) c.args.forms.now) in
    let next : map shown_part (drop l.form-index c.args.forms.now) ≡ form ∷ rest = ap (map shown_part) (drop-next c.args.forms.now c.args.forms.now l.form-index c.form-item.result refl c.loop-form-test.true c.form-item.is) in
    subst (λ done. Leads J Is c.args.vocab.now all c.part.new.vocab rest done) (sym c.in_ok-push.ensures.ok)
    (leads_next J Is c.args.vocab.now l.vocab c.part.new.vocab all rest form c.in_ok-part.part l.parts (part_kept page)
    (subst (λ xs. Leads J Is c.args.vocab.now all l.vocab xs l.parts) next l.invariant) c.in_ok-part.ensures.0 c.in_ok-part.ensures.1)

pub returns : goal.returns
returns c =
    let page = page c.args.self.now.places in
    let J = part_judged page in
    let Is = IsPart page in
    let l = c.loop-form in
    let all = map shown_part c.args.forms.now in
    leads_end J Is c.args.vocab.now l.vocab all l.parts
    (subst (λ xs. Leads J Is c.args.vocab.now all l.vocab (map shown_part xs) l.parts) (drop_all l.form-index c.args.forms.now c.loop-form-test.false) l.invariant)
