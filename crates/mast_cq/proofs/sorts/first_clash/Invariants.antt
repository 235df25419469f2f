use Rattle.std.proofs.Common.{◌≡◌, drop}
use Rattle.mast_cq.specs.inside.SortTests.{clashes, first_in}
use Rattle.mast_cq.proofs.sorts.first_clash.Given as goal

abbrev pub invariant-loop-atom : goal.invariant-loop-atom
invariant-loop-atom l = first_in (clashes l.atoms) (drop l.atom-index l.atoms) ≡ first_in (clashes l.atoms) l.atoms
