use Rattle.std.proofs.Common.{◌⊎◌, ◌↔◌, take, Contains}
use Rattle.mast_cq.specs.declared.unifier.Met.{Met}
use Rattle.mast_rewrite.specs.inside.Leaders.{WithWay}
use Rattle.mast_rewrite.proofs.counting.push_all.Given as goal

abbrev pub invariant-loop-atom : goal.invariant-loop-atom
invariant-loop-atom l = (met : Met) → Contains l.counting.items met ↔ (Contains l.fn.counting.items met ⊎ WithWay l.way (take l.atom-index l.atoms) met)
