use Rattle.std.proofs.Common.{◌≡◌, ◌∷◌, ◌++◌, map, drop}
use Rattle.mast_cq.specs.Meetings.{replacement_of}
use Rattle.mast_cq.specs.Unification.{replace}
use Rattle.mast_rewrite.specs.inside.Growing.{outside}
use Rattle.mast_rewrite.proofs.growth.merged.Given as goal

abbrev pub invariant-loop-at : goal.invariant-loop-at
invariant-loop-at l = l.merged.items ++ map (replace (replacement_of l.met.replacement)) (outside l.first l.second l.at (drop l.at l.atoms))
    ≡ l.met.atom ∷ map (replace (replacement_of l.met.replacement)) (outside l.first l.second 0 l.atoms)
