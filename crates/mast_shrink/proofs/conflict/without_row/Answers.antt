-- The row is none of the rows, or it is needed, or it is none of the breach that was found of the others.
use Rattle.std.proofs.Common.{rules, ◌≡◌, ◌∙◌, false, ap, subst}
use Rattle.std.specs.Prelude.{Some}
use Rattle.mast_check.specs.Checks.{TellsModel}
use Rattle.mast_shrink.specs.inside.Removal.{others}
use Rattle.mast_shrink.proofs.RemovalLemmas.{left_as_is, left_fewer, left_needed, left_without, others_of}
use Rattle.mast_shrink.proofs.conflict.without_row.Goals as goal

pub returns-then-not-contains-clause-needed : goal.returns-then-not-contains-clause-needed
returns-then-not-contains-clause-needed g c =
    let none : c.contains.result ≡ false = search rules in
    left_as_is c.args.checking.now c.args.tables.now.list c.args.broken c.args.row c.contains.result c.as_slice.result.now c.as_slice.ensures c.contains.ensures.value none

pub first_violation-requires-clause-rows : goal.first_violation-requires-clause-rows
first_violation-requires-clause-rows g c κs within =
    others_of c.args.checking.now c.args.tables.now.list c.args.row c.args.broken.rows c.in_ok-rest.rest.items c.deref.result.now
    (c.in_ok-rest.ensures ∙ ap (others c.args.row) c.as_slice-2.ensures) c.deref.ensures.value c.requires.rows

pub returns-in-None-clause-needed : goal.returns-in-None-clause-needed
returns-in-None-clause-needed g c =
    left_needed c.args.checking.now c.args.tables.now.list c.args.broken c.args.row c.deref.result.now
    (c.deref.ensures.value ∙ c.in_ok-rest.ensures ∙ ap (others c.args.row) c.as_slice-2.ensures)
    (subst (TellsModel c.args.checking.now c.args.tables.now.list (Some c.deref.result.now)) c.in-None.is c.in_ok-first_violation.ensures.found)

pub returns-in-Some-clause-broken : goal.returns-in-Some-clause-broken
returns-in-Some-clause-broken g c =
    left_fewer c.args.checking.now c.args.tables.now.list c.args.broken c.args.row c.deref.result.now c.in-Some.found
    (c.deref.ensures.value ∙ c.in_ok-rest.ensures ∙ ap (others c.args.row) c.as_slice-2.ensures)
    (subst (TellsModel c.args.checking.now c.args.tables.now.list (Some c.deref.result.now)) c.in-Some.is c.in_ok-first_violation.ensures.found)

pub returns-in-Some-clause-needed : goal.returns-in-Some-clause-needed
returns-in-Some-clause-needed g c =
    left_without c.args.checking.now c.args.tables.now.list c.args.broken c.args.row c.deref.result.now c.in-Some.found
    (c.deref.ensures.value ∙ c.in_ok-rest.ensures ∙ ap (others c.args.row) c.as_slice-2.ensures)
    (subst (TellsModel c.args.checking.now c.args.tables.now.list (Some c.deref.result.now)) c.in-Some.is c.in_ok-first_violation.ensures.found)
