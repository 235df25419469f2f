use Rattle.std.proofs.Common.{ap₂, ◌∙◌}
use Rattle.mast_cq.specs.Queries.{viewed}
use Rattle.mast_cq.proofs.SettleLemmas.{norm_told}
use Rattle.mast_cq.proofs.normal_form.norm.Goals as goal

pub returns : goal.returns
returns c = ap₂ (λ a b. record { answer = a; atoms = b }) (c.from_vec.ensures ∙ c.in_ok-answer.ensures)
    (c.from_vec-2.ensures ∙ (c.in_ok-settle.ensures ∙ norm_told (viewed c.args.query) c.order_into.new.into.items c.in_ok-order_into.ensures))
