use Rattle.mast_join.proofs.HitLemmas.{made_hit}
use Rattle.mast_join.proofs.hit.hit_of.Goals as goal

pub returns : goal.returns
returns c =
    made_hit c.args.extensions.now c.args.width c.args.row.now c.split_at.result.0.now c.split_at.result.1.now c.in_ok-terms.terms c.in_ok-joined.field-0.items c.in_order-rows.result.items c.from_vec.result
    c.split_at.ensures.front c.split_at.ensures.back c.in_ok-terms.ensures c.in_ok-joined.ensures c.in_order-rows.ensures.ordered c.in_order-rows.ensures.same c.from_vec.ensures
