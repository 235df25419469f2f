use Rattle.std.proofs.Common.{arith, subst, sym, Contains, ◌↔◌, ◌⊎◌, take, ◌+◌, List}
use Rattle.mast_cq.specs.declared.unifier.Met.{Met}
use Rattle.mast_rewrite.specs.inside.Leaders.{WithWay}
use Rattle.mast_rewrite.proofs.WayLemmas.{push_begin, push_next, push_all_end}
use Rattle.mast_rewrite.proofs.counting.push_all.Goals as goal

pub loop-atom-init : goal.loop-atom-init
loop-atom-init c = push_begin c.args.way c.args.atoms.now c.args.counting.now.items

pub loop-atom-preserved : goal.loop-atom-preserved
loop-atom-preserved c =
    subst (λ (v : List Met). (met : Met) → Contains v met ↔ (Contains c.args.counting.now.items met ⊎ WithWay c.args.way (take (c.loop-atom.atom-index + 1) c.args.atoms.now) met)) (sym c.in_ok-push.ensures.items)
    (push_next c.args.way c.args.atoms.now c.args.counting.now.items c.loop-atom.counting.items c.loop-atom.atom-index _ (omega arith) c.loop-atom.invariant)

pub returns : goal.returns
returns c = push_all_end c.args.way c.args.atoms.now c.args.counting.now.items c.loop-atom.counting.items c.loop-atom.atom-index (omega arith) c.loop-atom.invariant
