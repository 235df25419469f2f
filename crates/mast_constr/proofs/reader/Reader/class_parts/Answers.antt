-- A class was read, and then an object.
use Rattle.std.proofs.Common.{refl}
use Rattle.mast_tree.specs.declared.shape.ShapeKind.TheVariants.{Shape}
use Rattle.mast_tree.proofs.JudgementLemmas.{right_parts}
use Rattle.mast_expressions.specs.Judged.{class_judged}
use Rattle.mast_constr.specs.Denials.{object_judged}
use Rattle.mast_constr.specs.inside.Rules.{page_in}
use Rattle.mast_constr.proofs.StepLemmas.{first_stops, second_stops}
use Rattle.mast_constr.proofs.reader.Reader.class_parts.Goals as goal

pub returns-in_err-name-clause-read : goal.returns-in_err-name-clause-read
returns-in_err-name-clause-read c = λ dates are.
    let page = page_in c.args.self.now in
    first_stops c.args.vocab.now c.class.new.vocab c.class.new.vocab (class_judged Shape page c.args.class.now) (object_judged page c.args.variables.now c.args.object.now) _ _
    c.from_residual.result c.in_err-name.field-0.0 c.from_residual.ensures.1 c.in_err-name.ensures

pub returns-in_err-arg-clause-read : goal.returns-in_err-arg-clause-read
returns-in_err-arg-clause-read c = λ dates are.
    let page = page_in c.args.self.now in
    let second = object_judged page c.args.variables.now c.args.object.now in
    second_stops c.args.vocab.now c.class.new.vocab c.class.new.vocab c.class.new.vocab (class_judged Shape page c.args.class.now) second second _ _
    c.from_residual-in_err-arg.result c.in_err-arg.field-0.0 c.from_residual-in_err-arg.ensures.1 c.in_ok-name.ensures.0 refl (c.in_err-arg.ensures.read c.class.new.vocab)

pub returns-clause-read : goal.returns-clause-read
returns-clause-read c = λ dates are.
    let page = page_in c.args.self.now in
    let rest = c.in_ok-arg.ensures.read c.class.new.vocab in (
      right_parts c.args.vocab.now c.class.new.vocab c.class.new.vocab (class_judged Shape page c.args.class.now) (object_judged page c.args.variables.now c.args.object.now) c.in_ok-name.ensures.0 rest.0,
      (rest.1.0, refl, (c.in_ok-name.ensures.1, rest.1.1)),
    )
