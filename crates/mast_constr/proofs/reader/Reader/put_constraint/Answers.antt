-- The constraint was put behind the others.
use Rattle.mast_constr.specs.Items.{constraint_judged}
use Rattle.mast_constr.specs.inside.Rules.{page_in}
use Rattle.mast_constr.proofs.StepLemmas.{all_stops}
use Rattle.mast_constr.proofs.reader.Reader.put_constraint.Goals as goal

pub returns-in_err-constraint : goal.returns-in_err-constraint
returns-in_err-constraint c = λ dates are.
    all_stops c.args.vocab.now c.constraint.new.vocab c.constraint.new.vocab (constraint_judged dates (page_in c.args.self.now) c.args.item.now) _ _
    c.from_residual.result c.in_err-constraint.field-0.0 c.from_residual.ensures.1 (c.in_err-constraint.ensures dates are)

pub returns : goal.returns
returns c = λ dates are.
    let read = c.in_ok-constraint.ensures dates are in
    (read.0, (record { line = c.line-line.result; item = c.in_ok-constraint.constraint }, c.in_ok-push.ensures.ok, (c.line-line.ensures, read.1)))
