use Rattle.std.proofs.Common.{subst, ◌∙◌}
use Rattle.std.specs.Prelude.{IfOk}
use Rattle.mast_check.specs.Checks.{AreAllBreaches}
use Rattle.mast_check.proofs.AllLemmas.{all_breaches_told}
use Rattle.mast_check.proofs.checking.Checking.all_violations.Goals as goal

pub returns : goal.returns
returns g c =
    let tables = c.args.tables.now.list in
    let told = all_breaches_told c.self.inside.spec.now c.len.ensures.lawful tables c.new-extensions.result.over c.new-extensions.ensures.over c.as_slice.result.now (c.as_slice.ensures ∙ c.self.invariant.lists)
    c.all_of_all.result c.all_of_all.ensures in
    subst (λ s. IfOk c.all_of_all.result (AreAllBreaches s tables)) c.self.view_is told
