use Rattle.std.proofs.Common.{◌++◌, ap, subst, sym, arith}
use Rattle.mast_tbox.specs.Inclusions.{normal}
use Rattle.mast_tbox.specs.Lists.{items}
use Rattle.mast_tbox.specs.Numbers.{numbers}
use Rattle.mast_tbox.specs.inside.Bounds.{AllBelow}
use Rattle.mast_tbox.proofs.NumberLemmas.{numbers_below, below_at}
use Rattle.mast_tbox.proofs.normal_inclusions.replaced.Goals as goal

pub loop-line-init : goal.loop-line-init
loop-line-init c = record {
  made = ap (λ w. w ++ normal (items c.as_slice-lines.result.now)) c.in_ok-inclusions.ensures.items;
  small = subst (λ w. AllBelow 1000000 (numbers w)) (sym c.as_slice-lines.ensures) (numbers_below c.args.tbox.now.inclusions 1000000 c.args.tbox.now.numbered (let h = c.args.tbox.now.bounded in omega arith));
}

pub replace_into-requires : goal.replace_into-requires
replace_into-requires c = below_at 1000000 c.as_slice-lines.result.now c.loop-line.line-index _ c.loop-line-test.true c.loop-line.invariant.small
