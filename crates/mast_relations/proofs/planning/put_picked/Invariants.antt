use Rattle.std.proofs.Common.{◌≡◌, ◌++◌, take}
use Rattle.mast_relations.specs.Plans.{picked}
use Rattle.mast_relations.proofs.planning.put_picked.Given as goal

-- what was picked so far
abbrev pub invariant-loop-place : goal.invariant-loop-place
invariant-loop-place l = l.all.items ≡ l.fn.all.items ++ picked l.elements (take l.place-index l.places)
