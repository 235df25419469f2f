use Rattle.std.proofs.Common.{◌≡◌, drop}
use Rattle.mast_tbox.specs.Lists.{items}
use Rattle.mast_tbox.specs.inside.Chosen.{chief_of}
use Rattle.mast_tbox.specs.inside.Judging.{marking, marked}
use Rattle.mast_tbox.proofs.restriction.by_axioms.Given as goal

abbrev pub invariant-loop-line : goal.invariant-loop-line
invariant-loop-line l = marking (chief_of l.chiefs) l.set (items (drop l.line-index l.lines)) ≡ marked (chief_of l.chiefs) (items l.lines)
