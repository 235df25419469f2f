-- An object was read, and then a value.
use Rattle.std.proofs.Common.{ap, ◌∙◌, ◌++◌}
use Rattle.mast_constr.specs.Denials.{object_judged, object_place, value_judged}
use Rattle.mast_constr.specs.inside.Rules.{page_in}
use Rattle.mast_constr.proofs.FirstPlaceLemmas.{value_behind}
use Rattle.mast_constr.proofs.StepLemmas.{first_stops, second_stops, filler_read}
use Rattle.mast_constr.proofs.reader.Reader.filler.Goals as goal

pub returns-in_err-from-clause-read : goal.returns-in_err-from-clause-read
returns-in_err-from-clause-read c = λ dates are.
    let page = page_in c.args.self.now in
    first_stops c.args.vocab.now c.args.vocab.now c.args.vocab.now (object_judged page c.args.variables.now c.args.from.now) (value_judged dates page (c.args.variables.now ++ object_place page c.args.from.now) c.args.value.now) _ _
    c.from_residual.result c.in_err-from.field-0.0 c.from_residual.ensures.1 (c.in_err-from.ensures.read c.args.vocab.now)

pub returns-in_err-value-clause-read : goal.returns-in_err-value-clause-read
returns-in_err-value-clause-read c = λ dates are.
    let page = page_in c.args.self.now in
    let first = c.in_ok-from.ensures.read c.args.vocab.now in
    second_stops c.args.vocab.now c.args.vocab.now c.value.new.vocab c.value.new.vocab (object_judged page c.args.variables.now c.args.from.now) (value_judged dates page (c.args.variables.now ++ object_place page c.args.from.now) c.args.value.now)
    (value_judged dates page c.argument.new.variables c.args.value.now) _ _ c.from_residual-in_err-value.result c.in_err-value.field-0.0 c.from_residual-in_err-value.ensures.1
    first.0 (ap (λ k. value_judged dates page k c.args.value.now) first.1.0 ∙ value_behind dates page c.args.variables.now c.args.from.now c.args.value.now) (c.in_err-value.ensures.read dates are)

pub returns-clause-read : goal.returns-clause-read
returns-clause-read c = λ dates are.
    filler_read dates (page_in c.args.self.now) c.args.variables.now c.argument.new.variables c.value.new.variables c.args.from.now c.args.value.now c.in_ok-from.from c.in_ok-value.value c.args.vocab.now c.value.new.vocab
    (c.in_ok-from.ensures.read c.args.vocab.now) (c.in_ok-value.ensures.read dates are)
