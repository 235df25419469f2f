use Rattle.std.proofs.Common.{◌≡◌, ◌++◌, map, drop}
use Rattle.mast_cq.specs.Unification.{replace}
use Rattle.mast_cq.specs.Meetings.{replacement_of}
use Rattle.mast_cq.proofs.unifier.replaced_atoms.Given as goal

abbrev pub invariant-loop-atom : goal.invariant-loop-atom
invariant-loop-atom l = l.replaced.items ++ map (replace (replacement_of l.by)) (drop l.atom-index l.atoms) ≡ map (replace (replacement_of l.by)) l.atoms
