use Rattle.std.proofs.Common.{◌≤◌, length, take}
use Rattle.std.specs.List.{AllZip}
use Rattle.mast_join.specs.inside.Namings.{IsFrontOf, most_names}
use Rattle.mast_join.specs.inside.Values.{IsFront}
use Rattle.mast_join.proofs.naming.fronts.Given as goal

-- the places of the variables of the atoms so far
abbrev pub invariant-loop-atom : goal.invariant-loop-atom
invariant-loop-atom l = (length l.vars.keys ≤ most_names) × IsFront l.fn.vars.keys l.vars.keys × AllZip (IsFrontOf l.vars.keys) (take l.atom-index l.atoms) l.fronts.items
