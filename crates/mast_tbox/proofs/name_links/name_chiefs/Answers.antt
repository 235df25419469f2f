use Rattle.std.proofs.Common.{inl, inr, Contains, subst}
use Rattle.std.proofs.lemmas.List.{drop_all}
use Rattle.mast_tbox.specs.inside.Linking.{noted_for}
use Rattle.mast_tbox.proofs.MemberLemmas.{none}
use Rattle.mast_tbox.proofs.LinkLemmas.{settled_none, links_both_ways, sides_next, chiefs_tell}
use Rattle.mast_tbox.proofs.name_links.name_chiefs.Goals as goal

pub loop-inclusion-init : goal.loop-inclusion-init
loop-inclusion-init c = record {
  settled = settled_none c.in_ok-links.links (noted_for c.new-chiefs.result) c.new-chiefs.ensures;
  sides = λ i s. inl s;
}

pub settle-requires-clause-both_ways : goal.settle-requires-clause-both_ways
settle-requires-clause-both_ways c = links_both_ways c.args.inclusions.now c.in_ok-links.links c.in_ok-links.ensures

pub loop-inclusion-preserved : goal.loop-inclusion-preserved
loop-inclusion-preserved c = record {
  settled = c.in_ok-settle.ensures.settled;
  sides = sides_next c.args.inclusions.now c.in_ok-links.links (noted_for c.loop-inclusion.chiefs) (noted_for c.settle.new.chiefs) c.left_name.result c.loop-inclusion.inclusion-index _ c.loop-inclusion-test.true c.left_name.ensures
      c.in_ok-settle.ensures c.loop-inclusion.invariant.sides;
}

pub returns : goal.returns
returns c =
    chiefs_tell c.args.inclusions.now c.in_ok-links.links c.in_ok-links.ensures (noted_for c.loop-inclusion.chiefs) c.loop-inclusion.invariant.settled
    (λ i s. elim (c.loop-inclusion.invariant.sides i s) [
      | inl e ↦ absurd (none i (subst (λ v. Contains v i) (drop_all c.loop-inclusion.inclusion-index c.args.inclusions.now c.loop-inclusion-test.false) e))
      | inr w ↦ w
    ])
