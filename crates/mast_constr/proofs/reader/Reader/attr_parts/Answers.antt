-- An attribute was read, and then an object and a value.
use Rattle.std.proofs.Common.{refl}
use Rattle.mast_terms.specs.declared.name.NameKind.TheVariants as kinds
use Rattle.mast_tree.specs.declared.shape.ShapeKind.TheVariants.{Shape}
use Rattle.mast_tree.proofs.GrowingLemmas.{right_begins}
use Rattle.mast_tree.proofs.JudgementLemmas.{right_parts}
use Rattle.mast_expressions.specs.Judged.{attr_judged}
use Rattle.mast_expressions.proofs.GivenLemmas.{named_grows}
use Rattle.mast_constr.specs.Denials.{filler_judged}
use Rattle.mast_constr.specs.inside.Rules.{page_in}
use Rattle.mast_constr.proofs.StepLemmas.{first_stops, second_stops}
use Rattle.mast_constr.proofs.reader.Reader.attr_parts.Goals as goal

pub returns-in_err-name-clause-read : goal.returns-in_err-name-clause-read
returns-in_err-name-clause-read c = λ dates are.
    let page = page_in c.args.self.now in
    first_stops c.args.vocab.now c.attr.new.vocab c.attr.new.vocab (attr_judged Shape page c.args.attr.now) (filler_judged dates page c.args.variables.now c.args.from.now c.args.value.now) _ _
    c.from_residual.result c.in_err-name.field-0.0 c.from_residual.ensures.1 c.in_err-name.ensures

pub returns-in_err-from-clause-read : goal.returns-in_err-from-clause-read
returns-in_err-from-clause-read c = λ dates are.
    let page = page_in c.args.self.now in
    let second = filler_judged dates page c.args.variables.now c.args.from.now c.args.value.now in
    second_stops c.args.vocab.now c.attr.new.vocab c.filler.new.vocab c.filler.new.vocab (attr_judged Shape page c.args.attr.now) second second _ _
    c.from_residual-in_err-from.result c.in_err-from.field-0.0 c.from_residual-in_err-from.ensures.1 c.in_ok-name.ensures.0 refl (c.in_err-from.ensures.read dates are)

pub returns-clause-read : goal.returns-clause-read
returns-clause-read c = λ dates are.
    let page = page_in c.args.self.now in
    let second = filler_judged dates page c.args.variables.now c.args.from.now c.args.value.now in
    let rest = c.in_ok-from.ensures.read dates are in (
      right_parts c.args.vocab.now c.attr.new.vocab c.filler.new.vocab (attr_judged Shape page c.args.attr.now) second c.in_ok-name.ensures.0 rest.0,
      (
        rest.1.0,
        refl,
        (
          named_grows c.filler.new.vocab c.attr.new.vocab kinds.Attr page c.args.attr.now c.in_ok-name.name (right_begins c.attr.new.vocab c.filler.new.vocab second rest.0) c.in_ok-name.ensures.1,
          rest.1.1,
          rest.1.2,
        ),
      ),
    )
