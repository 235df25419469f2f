-- The choices that meet the source query are choices of the plan, and their lines are those of the split mapping.
use Rattle.std.proofs.Common.{◌≡◌, List, None, subst, sym}
use Rattle.std.proofs.lemmas.Result.{on_ok_weaker}
use Rattle.std.specs.List.{AllByRecursion}
use Rattle.mast_canon.specs.Choices.{IsChoice}
use Rattle.mast_canon.specs.Fitting.{Fits}
use Rattle.mast_join.specs.Chosen.{AreChoices}
use Rattle.mast_tables.specs.declared.declaration.TableDecl.{TableDecl}
use Rattle.mast_write.specs.FactPlans.{Planned}
use Rattle.mast_cli.proofs.MapLemmas.{are_choices, choices_added}
use Rattle.mast_cli.proofs.command.facts.put_map.Goals as goal

pub put_choices-requires-clause-choices : goal.put_choices-requires-clause-choices
put_choices-requires-clause-choices c =
    let vocab = c.args.spec.now.vocab in
    let decls = c.args.spec.now.tables in
    let tables = c.args.tables.now.list in
    let map = c.args.map.now in
    let plan = c.in_ok-plan.plan in
    let choices = c.in_ok-chosen.chosen.list in
    subst (λ ts. AllByRecursion (IsChoice plan.tables ts plan.mapping.query) choices) (sym c.as_slice-3.ensures)
    (subst (λ (p : Planned). AllByRecursion (IsChoice p.tables tables p.mapping.query) choices) (sym c.in_ok-plan.ensures)
    (subst (λ (ds : List TableDecl). AllByRecursion (IsChoice ds tables map.query) choices) (sym c.as_slice.ensures)
    (are_choices vocab decls tables map choices
    (subst (λ ds. AreChoices ds tables map.query None choices) c.as_slice-2.ensures c.in_ok-chosen.ensures))))

pub put_choices-requires-clause-fits : goal.put_choices-requires-clause-fits
put_choices-requires-clause-fits c =
    let tables = c.args.tables.now.list in
    let plan = c.in_ok-plan.plan in
    subst (λ ts. Fits plan.tables ts) (sym c.as_slice-3.ensures)
    (subst (λ (p : Planned). Fits p.tables tables) (sym c.in_ok-plan.ensures)
    (subst (λ (ds : List TableDecl). Fits ds tables) (sym c.as_slice.ensures) c.requires.fits))

pub returns-clause-lines : goal.returns-clause-lines
returns-clause-lines c =
    let vocab = c.args.spec.now.vocab in
    let decls = c.args.spec.now.tables in
    let tables = c.args.tables.now.list in
    let map = c.args.map.now in
    let plan = c.in_ok-plan.plan in
    let choices = c.in_ok-chosen.chosen.list in
    let are = subst (λ ds. AreChoices ds tables map.query None choices) c.as_slice-2.ensures c.in_ok-chosen.ensures in
    let of : plan ≡ record { vocab = vocab; tables = decls; mapping = map } =
    subst (λ (ds : List TableDecl). plan ≡ record { vocab = vocab; tables = ds; mapping = map }) c.as_slice.ensures c.in_ok-plan.ensures in
    on_ok_weaker c.put_choices.result
    (choices_added vocab decls tables map choices are plan of _ c.as_slice-3.ensures _ _)
    c.put_choices.ensures.lines
