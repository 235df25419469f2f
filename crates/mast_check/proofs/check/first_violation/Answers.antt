use Rattle.std.proofs.Common.{subst}
use Rattle.std.specs.Option.{IfSome, option_copied}
use Rattle.mast_check.specs.Checks.{IsOfFirst, TellsModel}
use Rattle.mast_check.proofs.FirstLemmas.{exact_model}
use Rattle.mast_check.proofs.check.first_violation.Goals as goal

pub returns-clause-exact : goal.returns-clause-exact
returns-clause-exact g c =
    let tables = c.args.tables.now.list in
    let only = option_copied c.args.only in
    let found = c.in_ok-found.found in
    exact_model c.args.spec.now c.len.ensures.lawful tables only found (subst (λ s. TellsModel s tables only found) c.in_ok-checking.ensures c.in_ok-found.ensures.found)
    (subst (λ s. IfSome found (IsOfFirst s tables only)) c.in_ok-checking.ensures c.in_ok-found.ensures.first)
