-- One object was read, and then another.
use Rattle.std.proofs.Common.{ap, ◌∙◌, ◌++◌}
use Rattle.mast_constr.specs.Denials.{object_judged, object_place}
use Rattle.mast_constr.specs.inside.Rules.{page_in}
use Rattle.mast_constr.proofs.FirstPlaceLemmas.{object_behind}
use Rattle.mast_constr.proofs.StepLemmas.{first_stops, second_stops, pair_read}
use Rattle.mast_constr.proofs.reader.Reader.pair.Goals as goal

pub returns-in_err-from-clause-read : goal.returns-in_err-from-clause-read
returns-in_err-from-clause-read c = λ lists.
    let page = page_in c.args.self.now in
    first_stops lists lists lists (object_judged page c.args.variables.now c.args.from.now) (object_judged page (c.args.variables.now ++ object_place page c.args.from.now) c.args.to.now) _ _
    c.from_residual.result c.in_err-from.field-0.0 c.from_residual.ensures.1 (c.in_err-from.ensures.read lists)

pub returns-in_err-to-clause-read : goal.returns-in_err-to-clause-read
returns-in_err-to-clause-read c = λ lists.
    let page = page_in c.args.self.now in
    let first = c.in_ok-from.ensures.read lists in
    second_stops lists lists lists lists (object_judged page c.args.variables.now c.args.from.now) (object_judged page (c.args.variables.now ++ object_place page c.args.from.now) c.args.to.now)
    (object_judged page c.argument.new.variables c.args.to.now) _ _ c.from_residual-in_err-to.result c.in_err-to.field-0.0 c.from_residual-in_err-to.ensures.1
    first.0 (ap (λ k. object_judged page k c.args.to.now) first.1.0 ∙ object_behind page c.args.variables.now c.args.from.now c.args.to.now) (c.in_err-to.ensures.read lists)

pub returns-clause-read : goal.returns-clause-read
returns-clause-read c = λ lists.
    pair_read (page_in c.args.self.now) c.args.variables.now c.argument.new.variables c.argument-2.new.variables c.args.from.now c.args.to.now c.in_ok-from.from c.in_ok-to.to lists
    (c.in_ok-from.ensures.read lists) (c.in_ok-to.ensures.read lists)
