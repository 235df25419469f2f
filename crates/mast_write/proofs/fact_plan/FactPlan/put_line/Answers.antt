-- The plan has the cells of the choice, and its line is that of the fact.
use Rattle.std.proofs.Common.{subst}
use Rattle.mast_write.specs.FactPlans.{Planned}
use Rattle.mast_write.specs.inside.Plans.{IsPlan}
use Rattle.mast_write.proofs.FactPlanLemmas.{planned_there, planned_added}
use Rattle.mast_write.proofs.fact_plan.FactPlan.put_line.Goals as goal

pub put_line-requires-clause-there : goal.put_line-requires-clause-there
put_line-requires-clause-there c =
    let line = c.self.inside.line in
    planned_there c.args.self.now line
    (subst (λ (p : Planned). ∥ IsPlan p.vocab p.tables p.mapping line ∥₁) c.self.view_is c.self.invariant)
    c.args.tables.now c.args.choice.now c.requires.fits c.requires.choice

pub returns-clause-lines : goal.returns-clause-lines
returns-clause-lines c =
    let line = c.self.inside.line in
    planned_added c.args.self.now line
    (subst (λ (p : Planned). ∥ IsPlan p.vocab p.tables p.mapping line ∥₁) c.self.view_is c.self.invariant)
    c.args.tables.now c.args.choice.now c.requires.fits c.requires.choice _ _ c.in_ok-put_line.ensures.lines
