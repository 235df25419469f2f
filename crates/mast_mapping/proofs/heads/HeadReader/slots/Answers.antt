use Rattle.std.proofs.Common.{refl, sym, ap, ◌∙◌, ◌+◌, drop}
use Rattle.mast_terms.proofs.PlaceLemmas.{drop-next}
use Rattle.mast_mapping.specs.Heads.{with_slot, slots_of}
use Rattle.mast_mapping.specs.inside.Readers.{scope}
use Rattle.mast_mapping.proofs.StopLemmas.{stopped}
use Rattle.mast_mapping.proofs.heads.HeadReader.slots.Goals as goal

pub returns-in_err-slot : goal.returns-in_err-slot
returns-in_err-slot c = λ dates are.
    let s = scope dates c.args.self.now in
    let l = c.loop-item in
    let rest = drop (l.item-index + 1) c.args.items.now in
    let next = drop-next c.args.items.now c.args.items.now l.item-index c.item-item.result refl c.loop-item-test.true c.item-item.is in
    stopped _ _ _ _ c.from_residual.result c.in_err-slot.field-0.0 c.from_residual.ensures.1
    (λ b e. sym (l.invariant dates are) ∙ (ap (λ x. slots_of s l.slots x) next ∙ ap (λ r. with_slot l.slots r (λ more. slots_of s more rest)) e))
    (c.in_err-slot.ensures dates are)
