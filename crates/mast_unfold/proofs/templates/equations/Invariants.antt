use Rattle.std.proofs.Common.{◌≡◌, ◌++◌, drop, map}
use Rattle.mast_unfold.specs.inside.Equations.{both}
use Rattle.mast_unfold.specs.inside.Lookups.{place_named}
use Rattle.mast_unfold.specs.inside.Slots.{equated}
use Rattle.mast_unfold.proofs.templates.equations.Given as goal

-- what is put and what is left are the whole
abbrev pub invariant-loop-i : goal.invariant-loop-i
invariant-loop-i l = map both l.list.items ++ equated (place_named l.outputs) (drop l.i l.from) (drop l.i l.to) ≡ equated (place_named l.outputs) l.from l.to
