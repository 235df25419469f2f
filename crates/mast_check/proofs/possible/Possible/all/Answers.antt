use Rattle.mast_check.proofs.PossibleLemmas.{one_impossible}
use Rattle.mast_check.proofs.possible.Possible.all.Goals as goal

pub returns-then-not-branch-clause-told : goal.returns-then-not-branch-clause-told
returns-then-not-branch-clause-told c =
    one_impossible c.args.extensions.now.over c.loop-atom.extensions.over c.loop-atom.invariant.same.over c.args.atoms.now c.loop-atom.atom-index _ c.without_arguments.result c.in_ok-is.field-0 c.loop-atom-test.true
    c.without_arguments.ensures c.if-not-branch.true c.in_ok-is.ensures.told
