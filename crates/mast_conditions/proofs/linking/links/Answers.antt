use Rattle.mast_conditions.proofs.LinkLemmas.{tied_next, tied_none}
use Rattle.mast_conditions.proofs.linking.links.Goals as goal

pub loop-equality-init : goal.loop-equality-init
loop-equality-init c = tied_none c.args.equalities.now c.args.span c.args.columns.now.items c.args.places.now.items c.requires.columns c.requires.places

pub loop-equality-preserved : goal.loop-equality-preserved
loop-equality-preserved c =
    let l = c.loop-equality in
    tied_next c.args.equalities.now c.args.span l.columns.items l.places.items c.add_link.new.columns.items c.add_link.new.places.items l.equality-index (record { left = 0; right = 0 })
    c.loop-equality-test.true l.invariant c.in_ok-add_link.ensures
