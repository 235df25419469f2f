-- The first was put, and then the rest was read.
use Rattle.std.proofs.Common.{sym, subst}
use Rattle.std.specs.Prelude.{Ok, Err}
use Rattle.mast_expressions.proofs.ReadLemmas.{stops_first}
use Rattle.mast_tree.specs.Empty.{is_empty}
use Rattle.mast_constr.specs.Paths.{step_judged, steps_judged, IsStep}
use Rattle.mast_constr.specs.inside.Rules.{page_in, PutsStep, ReadsSteps}
use Rattle.mast_constr.proofs.GrowLemmas.{step_grows}
use Rattle.mast_constr.proofs.StepLemmas.{one_and_rest}
use Rattle.mast_constr.proofs.reader.Reader.+steps.Goals as goal

pub returns-in-Err : goal.returns-in-Err
returns-in-Err t c =
    let page = page_in c.args.self.now in
    subst (λ xs. ReadsSteps page xs c.args.vocab.now c.put_step.new.vocab c.args.steps.now c.put_step.new.steps (Err c.in-Err.stop)) (sym c.in-Some.ensures)
    (stops_first c.args.vocab.now c.put_step.new.vocab c.put_step.new.vocab (step_judged (is_empty c.in-Some.rest.now) page c.in-Some.item.now) (steps_judged page c.in-Some.rest.now) _ _ c.in-Err.stop (subst (λ last. PutsStep last page c.in-Some.item.now c.args.vocab.now c.put_step.new.vocab c.args.steps.now c.put_step.new.steps (Err c.in-Err.stop)) c.is_empty.ensures c.in-Err.ensures))

pub returns-in-Ok : goal.returns-in-Ok
returns-in-Ok t c =
    let page = page_in c.args.self.now in
    let put = (subst (λ last. PutsStep last page c.in-Some.item.now c.args.vocab.now c.put_step.new.vocab c.args.steps.now c.put_step.new.steps (Ok c.in-Ok.field-0)) c.is_empty.ensures c.in-Ok.ensures) in
    subst (λ xs. ReadsSteps page xs c.args.vocab.now c.steps.new.vocab c.args.steps.now c.steps.new.steps c.steps.result) (sym c.in-Some.ensures)
    (one_and_rest (λ lists. IsStep lists page) (λ late early b. step_grows late early page b) c.args.vocab.now c.put_step.new.vocab c.steps.new.vocab (step_judged (is_empty c.in-Some.rest.now) page c.in-Some.item.now) (steps_judged page c.in-Some.rest.now)
    c.in-Some.item.now c.in-Some.rest.now c.args.steps.now c.put_step.new.steps c.steps.new.steps c.steps.result put.0 put.1 c.steps.ensures)
