use Rattle.std.proofs.Common.{Contains, subst, arith}
use Rattle.mast_tbox.proofs.MemberLemmas.{none}
use Rattle.mast_rewrite.proofs.SweepLemmas.{swept_begin, swept_next, swept_end}
use Rattle.mast_rewrite.proofs.leaders.unled.Goals as goal

pub loop-atom-init : goal.loop-atom-init
loop-atom-init c = record {
  swept = swept_begin c.args.normal.now c.args.atoms.now c.new-below.result.keys c.new-unled.result.items c.new-below.ensures.empty c.new-unled.ensures.items;
  closed = λ g h i s. absurd (none g (subst (λ v. Contains v g) c.new-below.ensures.empty i));
}

pub loop-atom-preserved : goal.loop-atom-preserved
loop-atom-preserved c = record {
  swept = swept_next c.args.normal.now c.args.atoms.now c.loop-atom.atom-index _ c.loop-atom.below.keys c.sweep_over.new.below.keys c.loop-atom.unled.items c.sweep_over.new.unled.items (omega arith)
      c.in_ok-sweep_over.ensures.swept c.loop-atom.invariant.swept;
  closed = c.in_ok-sweep_over.ensures.closed;
}

pub returns : goal.returns
returns c = swept_end c.args.normal.now c.args.atoms.now c.loop-atom.atom-index c.loop-atom.below.keys c.loop-atom.unled.items (omega arith) c.loop-atom.invariant.swept
