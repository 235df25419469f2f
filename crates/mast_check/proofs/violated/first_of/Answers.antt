use Rattle.mast_check.proofs.PossibleLemmas.{impossible_told}
use Rattle.mast_check.proofs.violated.first_of.Goals as goal

pub returns-then-not-branch-clause-found : goal.returns-then-not-branch-clause-found
returns-then-not-branch-clause-found g c =
    impossible_told c.args.spec.now c.len.ensures.lawful c.args.extensions.now.over c.requires.over c.args.violation.now c.requires.stands c.as_slice.result.now c.in_ok-are.field-0 c.as_slice.ensures c.if-not-branch.true
    c.in_ok-are.ensures.told
