-- The rows of the conflict are rows of declared tables.
use Rattle.std.proofs.Common.{sym, subst}
use Rattle.std.specs.List.{AllByRecursion}
use Rattle.mast_canon.specs.Fitting.{Fits}
use Rattle.mast_check.specs.Checks.{IsBrokenBy}
use Rattle.mast_write.specs.ConflictLines.{IsOfTables as IsDeclared}
use Rattle.mast_cli.proofs.CheckLemmas.{conflict_printed, have_tables, of_tables}
use Rattle.mast_cli.proofs.command.check.conflict.Goals as goal

pub shrink_by-requires-clause-fits : goal.shrink_by-requires-clause-fits
shrink_by-requires-clause-fits g c κs within = subst (λ s. Fits s.tables c.args.tables.now.list) (sym c.requires.same) c.requires.fits

pub shrink_by-requires-clause-broken : goal.shrink_by-requires-clause-broken
shrink_by-requires-clause-broken g c κs within =
    subst (λ s. IsBrokenBy s c.args.tables.now.list c.args.breach.hit.rows c.args.breach.origin) (sym c.requires.same) c.requires.broken

pub conflict_text-requires : goal.conflict_text-requires
conflict_text-requires g c =
    subst (λ ds. AllByRecursion (IsDeclared ds) c.as_slice-2.result.now) (sym c.as_slice.ensures)
    (subst (AllByRecursion (IsDeclared c.args.spec.now.tables)) (sym c.as_slice-2.ensures)
    (have_tables c.args.spec.now.tables c.args.tables.now.list c.in_ok-found.found.rows c.requires.fits
    (of_tables c.args.spec.now c.args.tables.now.list c.args.breach.hit.rows c.in_ok-found.found.rows c.requires.rows c.in_ok-found.ensures.within)))

pub returns : goal.returns
returns g c =
    conflict_printed c.args.spec.now c.args.checking.now c.args.tables.now.list c.args.breach c.in_ok-found.found c.as_slice.result.now c.as_slice-2.result.now c.in_ok-conflict_text.field-0.items
    c.requires.same c.as_slice.ensures c.as_slice-2.ensures c.requires.rows c.in_ok-found.ensures.conflict c.in_ok-found.ensures.origin c.in_ok-found.ensures.within c.in_ok-conflict_text.ensures
