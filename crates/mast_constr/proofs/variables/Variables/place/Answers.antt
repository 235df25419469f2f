-- A variable that stands is found, and a new one is put at the end.
use Rattle.std.proofs.Common.{rules, ◌≡◌, subst}
use Rattle.std.specs.Prelude.{None, Some}
use Rattle.mast_constr.specs.inside.Rules.{IsFound}
use Rattle.mast_constr.specs.inside.Shown.{shown_all}
use Rattle.mast_constr.proofs.ShownLemmas.{same_read, new_read}
use Rattle.mast_constr.proofs.variables.Variables.place.Goals as goal

pub returns-in_err-add-in-None-clause-room : goal.returns-in_err-add-in-None-clause-room
returns-in_err-add-in-None-clause-room c = search (rules, c.in_err-add-in-None.ensures.kept)

pub returns-in-Some-clause-read : goal.returns-in-Some-clause-read
returns-in-Some-clause-read c =
    let known : shown_all c.as_slice.result.now ≡ c.args.self.now = search rules in
    same_read c.args.sort c.in-Some.first c.args.self.now c.args.name.now c.in-Some.number c.args.line c.same_sort.result
    (subst (λ k. IsFound k c.args.name.now (Some (c.in-Some.number, c.in-Some.first))) known c.in-Some.ensures) c.same_sort.ensures

pub returns-in_ok-add-in-None-clause-read : goal.returns-in_ok-add-in-None-clause-read
returns-in_ok-add-in-None-clause-read c =
    let known : shown_all c.as_slice.result.now ≡ c.args.self.now = search rules in
    new_read c.args.sort c.args.self.now c.add.new.self c.args.name.now c.in_ok-add-in-None.field-0 c.args.line
    (subst (λ k. IsFound k c.args.name.now None) known c.in-None.ensures) c.in_ok-add-in-None.ensures.added c.in_ok-add-in-None.ensures.number
