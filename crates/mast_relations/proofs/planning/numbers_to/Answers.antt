use Rattle.std.proofs.Common.{◌+◌, sym, subst}
use Rattle.mast_relations.specs.inside.Planning.{AreNumbersTo}
use Rattle.mast_relations.proofs.PlanningLemmas.{numbers_more}
use Rattle.mast_relations.proofs.planning.numbers_to.Goals as goal

pub loop-number-preserved : goal.loop-number-preserved
loop-number-preserved c =
    let l = c.loop-number in
    subst (AreNumbersTo (l.number + 1)) (sym c.in_ok-push.ensures.items) (numbers_more l.number l.numbers.items l.invariant)
