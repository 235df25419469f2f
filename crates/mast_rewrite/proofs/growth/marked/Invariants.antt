use Rattle.std.proofs.Common.{◌≡◌, ◌++◌, map, drop}
use Rattle.mast_rewrite.specs.inside.Marks.{marked_of}
use Rattle.mast_rewrite.proofs.growth.marked.Given as goal

abbrev pub invariant-loop-atom : goal.invariant-loop-atom
invariant-loop-atom l = l.marked.items ++ map (marked_of l.query.answer.now) (drop l.atom-index l.query.atoms.now) ≡ map (marked_of l.query.answer.now) l.query.atoms.now
