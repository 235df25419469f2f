use Rattle.std.proofs.Common.{◌≡◌, drop, false}
use Rattle.mast_tbox.specs.Restrictions.{anchors}
use Rattle.mast_tbox.specs.inside.Chosen.{chief_of}
use Rattle.mast_tbox.specs.inside.Judging.{is_like, judged}
use Rattle.mast_tbox.proofs.restriction.judge.Given as goal

abbrev pub invariant-loop-path : goal.invariant-loop-path
invariant-loop-path l = judged (is_like (chief_of l.chiefs) l.special) l.local (anchors (drop l.path-index l.paths)) ≡ judged (is_like (chief_of l.chiefs) l.special) false (anchors l.paths)
