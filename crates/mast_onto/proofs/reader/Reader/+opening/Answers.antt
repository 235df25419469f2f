-- Each item is opened as the definition opens it.
use Rattle.std.proofs.Common.{refl, sym, ap, subst, ◌∙◌, ◌+◌, ◌++◌, List, map, drop, Some, None}
use Rattle.std.specs.Prelude.{OnOk}
use Rattle.std.specs.List.{flat_map}
use Rattle.mast_terms.proofs.PlaceLemmas.{drop-next}
use Rattle.mast_expressions.specs.Reads.{page}
use Rattle.mast_onto.specs.Rights.{PartForm, both_forms, right_forms}
use Rattle.mast_onto.specs.inside.Shown.{shown_part, Extends}
use Rattle.mast_onto.proofs.OpeningLemmas.{node_opens, leaf_stays, goes_on}
use Rattle.mast_onto.proofs.reader.Reader.+opening.Goals as goal

pub open-returns-in-None : goal.open-returns-in-None
open-returns-in-None t c =
    let page = page c.args.self.now.places in
    let same = node_opens page c.args.item.now c.in-Node.token c.in-Node.items None c.in-Node.is (sym c.intersection.ensures ∙ c.in-None.is) in
    subst (λ (parts : List PartForm). OnOk c.add_part.result (Extends c.args.forms.now.items parts c.add_part.new.forms.items)) same c.add_part.ensures

pub open-returns-in-Some : goal.open-returns-in-Some
open-returns-in-Some t c =
    let page = page c.args.self.now.places in
    let same = node_opens page c.args.item.now c.in-Node.token c.in-Node.items (Some c.in-Some.line)
    c.in-Node.is (sym c.intersection.ensures ∙ c.in-Some.is) in
    let lent = ap (both_forms (right_forms page) c.in-Some.line) (c.as_slice.ensures ∙ c.get.ensures) in
    subst (λ (parts : List PartForm). OnOk c.open_both.result (Extends c.args.forms.now.items parts c.open_both.new.forms.items)) (lent ∙ same) c.open_both.ensures

pub open-returns-in_default : goal.open-returns-in_default
open-returns-in_default t c =
    let page = page c.args.self.now.places in
    let same = leaf_stays page c.args.item.now c.in_default.not-Node in
    subst (λ (parts : List PartForm). OnOk c.add_part-in_default.result (Extends c.args.forms.now.items parts c.add_part-in_default.new.forms.items))
    same c.add_part-in_default.ensures

pub open_each-loop-item-preserved : goal.open_each-loop-item-preserved
open_each-loop-item-preserved t c =
    let l = c.loop-item in
    let items = c.args.items.now in
    let forms = right_forms (page c.args.self.now.places) in
    let next = drop-next items items l.item-index c.item-item.result refl c.loop-item-test.true c.item-item.is in
    goes_on forms (map shown_part l.forms.items) (map shown_part c.open.new.forms.items)
    (map shown_part c.args.forms.now.items ++ flat_map forms items) c.item-item.result (drop l.item-index items) (drop (l.item-index + 1) items)
    c.in_ok-open.ensures next l.invariant
