use Rattle.std.proofs.Common.{◌≡◌, drop}
use Rattle.mast_tbox.specs.inside.Chosen.{chief_of}
use Rattle.mast_tbox.specs.inside.Judging.{narrows, first_line}
use Rattle.mast_tbox.proofs.restriction.first_axiom.Given as goal

abbrev pub invariant-loop-line : goal.invariant-loop-line
invariant-loop-line l = first_line (narrows (chief_of l.chiefs) l.functional) (drop l.line-index l.lines) ≡ first_line (narrows (chief_of l.chiefs) l.functional) l.lines
