use Rattle.std.proofs.Common.{subst, ◌∙◌}
use Rattle.std.specs.Prelude.{IfOk}
use Rattle.std.specs.Option.{IfSome, option_copied}
use Rattle.mast_check.specs.Checks.{IsOfFirst, TellsModel}
use Rattle.mast_check.proofs.FirstLemmas.{first_told, model_told}
use Rattle.mast_check.proofs.checking.Checking.first_violation.Goals as goal

pub returns-clause-found : goal.returns-clause-found
returns-clause-found g c =
    let tables = c.args.tables.now.list in
    let only = option_copied c.args.only in
    let told = model_told c.self.inside.spec.now c.len.ensures.lawful tables only c.new-extensions.result.over c.new-extensions.ensures.over c.as_slice-list.result.now (c.as_slice-list.ensures ∙ c.self.invariant.lists)
    c.first_of_all.result c.first_of_all.ensures in
    subst (λ s. IfOk c.first_of_all.result (TellsModel s tables only)) c.self.view_is told

pub returns-clause-first : goal.returns-clause-first
returns-clause-first g c =
    let tables = c.args.tables.now.list in
    let only = option_copied c.args.only in
    let told = first_told c.self.inside.spec.now c.len.ensures.lawful tables only c.new-extensions.result.over c.new-extensions.ensures.over c.as_slice-list.result.now (c.as_slice-list.ensures ∙ c.self.invariant.lists)
    c.first_of_all.result c.first_of_all.ensures in
    subst (λ s. IfOk c.first_of_all.result (λ found. IfSome found (IsOfFirst s tables only))) c.self.view_is told
