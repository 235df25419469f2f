use Rattle.std.proofs.Common.{◌≡◌, drop}
use Rattle.mast_tbox.specs.inside.Chosen.{chief_of}
use Rattle.mast_tbox.specs.inside.Judging.{all_narrowed, marking, marked}
use Rattle.mast_tbox.proofs.restriction.specialised.Given as goal

abbrev pub invariant-loop-line : goal.invariant-loop-line
invariant-loop-line l = marking (chief_of l.chiefs) l.set (all_narrowed (chief_of l.chiefs) (drop l.line-index l.lines)) ≡ marked (chief_of l.chiefs) (all_narrowed (chief_of l.chiefs) l.lines)
