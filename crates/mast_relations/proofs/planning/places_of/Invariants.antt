use Rattle.std.proofs.Common.{◌≡◌, length, take}
use Rattle.mast_relations.specs.Plans.{AreBelow, picked}
use Rattle.mast_relations.proofs.planning.places_of.Given as goal

-- the places so far
abbrev pub invariant-loop-variable : goal.invariant-loop-variable
invariant-loop-variable l = record {
  below : AreBelow (length l.bound) l.places.items;
  picks : picked l.bound l.places.items ≡ take l.variable-index l.variables;
}
