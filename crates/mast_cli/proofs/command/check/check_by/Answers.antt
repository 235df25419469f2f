-- A breach over all rows, or that there is none.
use Rattle.std.proofs.Common.{inr, refl, rules, subst, sym}
use Rattle.mast_canon.specs.Fitting.{Fits}
use Rattle.mast_cli.proofs.CheckLemmas.{conflict_told, found_breach, found_none}
use Rattle.mast_cli.proofs.command.check.check_by.Goals as goal

pub first_violation-requires-clause-fits : goal.first_violation-requires-clause-fits
first_violation-requires-clause-fits g c κs within = subst (λ s. Fits s.tables c.args.tables.now.list) (sym c.requires.same) c.requires.fits

pub conflict-requires-clause-rows : goal.conflict-requires-clause-rows
conflict-requires-clause-rows g c κs within =
    (found_breach c.args.spec.now c.args.checking.now c.args.tables.now.list _ c.in_ok-breach.field-0 c.in-Some.breach c.requires.same refl c.in-Some.is c.in_ok-breach.ensures.found).within

pub conflict-requires-clause-broken : goal.conflict-requires-clause-broken
conflict-requires-clause-broken g c κs within =
    (found_breach c.args.spec.now c.args.checking.now c.args.tables.now.list _ c.in_ok-breach.field-0 c.in-Some.breach c.requires.same refl c.in-Some.is c.in_ok-breach.ensures.found).broken

pub returns-in-Some : goal.returns-in-Some
returns-in-Some g c =
    conflict_told c.args.spec.now c.args.tables.now c.in-Some.breach c.conflict.result
    (found_breach c.args.spec.now c.args.checking.now c.args.tables.now.list _ c.in_ok-breach.field-0 c.in-Some.breach c.requires.same refl c.in-Some.is c.in_ok-breach.ensures.found)
    c.conflict.ensures

pub returns-in_ok-to_vec-in-None : goal.returns-in_ok-to_vec-in-None
returns-in_ok-to_vec-in-None g c =
    inr (found_none c.args.spec.now c.args.checking.now c.args.tables.now.list _ c.in_ok-breach.field-0 c.requires.same refl c.in-None.is c.in_ok-breach.ensures.found, refl, search rules)
