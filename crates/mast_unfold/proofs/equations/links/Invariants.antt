use Rattle.std.proofs.Common.{◌≡◌, ◌++◌, drop, map}
use Rattle.mast_unfold.specs.declared.columns.Place.{Place}
use Rattle.mast_unfold.specs.inside.Equations.{both, same_place, seconds, all_links}
use Rattle.mast_unfold.specs.inside.Lookups.{found}
use Rattle.mast_unfold.proofs.equations.links.Given as goal

-- what is added and what is left are the whole
abbrev pub invariant-loop-equation : goal.invariant-loop-equation
invariant-loop-equation l = (place : Place) → found same_place l.links place ++ seconds place (all_links (map both (drop l.equation-index l.equations))) ≡ seconds place (all_links (map both l.equations))
