use Rattle.mast_tbox.specs.Expressions.{same_basic}
use Rattle.mast_tbox.specs.inside.Groups.{found}
use Rattle.mast_tbox.proofs.WorkLemmas.{Worked}
use Rattle.mast_tbox.proofs.name_links.reached.Given as goal

abbrev pub invariant-loop-done : goal.invariant-loop-done
invariant-loop-done l = Worked (λ n. found same_basic l.links n) l.fn.start l.set.keys l.done
