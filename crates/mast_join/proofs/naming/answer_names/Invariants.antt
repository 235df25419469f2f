use Rattle.std.proofs.Common.{◌≤◌, length, take}
use Rattle.std.specs.List.{AllZip}
use Rattle.mast_join.specs.inside.Namings.{IsNamed, most_names}
use Rattle.mast_join.specs.inside.Values.{IsFront}
use Rattle.mast_join.proofs.naming.answer_names.Given as goal

-- the places of the arguments so far
abbrev pub invariant-loop-arg : goal.invariant-loop-arg
invariant-loop-arg l = (length l.vars.keys ≤ most_names) × IsFront l.fn.vars.keys l.vars.keys × AllZip (IsNamed l.vars.keys) (take l.arg-index l.answer) l.names.items
