use Rattle.std.proofs.Common.{◌≡◌, List, length, ap, sym, subst, ◌∙◌}
use Rattle.std.specs.Option.{option_copied}
use Rattle.std.proofs.lemmas.Result.{IfOk-weaker}
use Rattle.mast_sql.specs.declared.query.Comparison.{Comparison}
use Rattle.mast_sql.specs.declared.query.FromEntry.{FromEntry}
use Rattle.mast_tables.specs.Rows.{Row}
use Rattle.mast_canon.specs.Fitting.{Fits}
use Rattle.mast_join.specs.Chosen.{AreChoices}
use Rattle.mast_join.specs.inside.Plans.{AreTests, are_below}
use Rattle.mast_join.proofs.EndLemmas.{is_join, no_choices, whole_choices}
use Rattle.mast_join.proofs.PlanLemmas.{places_of}
use Rattle.mast_join.proofs.plan.choices.Goals as goal

pub returns-then-not-are_below : goal.returns-then-not-are_below
returns-then-not-are_below c =
    let decls = c.args.decls.now in
    let lent = c.as_slice-tables.result.now in
    let places : c.deref.result.now ≡ places_of decls c.args.query.now.from = c.deref.ensures.value ∙ c.in_ok-places.ensures ∙ ap (places_of decls) c.as_slice-entries.ensures in
    no_choices decls c.args.tables.now.list c.args.query.now (option_copied c.args.only) c.new.result.list
    (ap (λ (t : List (List Row)). are_below (length t) (places_of decls c.args.query.now.from)) (sym c.as_slice-tables.ensures)
    ∙ ap (are_below (length lent)) (sym places) ∙ sym c.are_below.ensures ∙ c.if-not-are_below.true) c.new.ensures.none

pub choices-requires : goal.choices-requires
choices-requires c =
    let decls = c.args.decls.now in
    let lent = c.as_slice-tables.result.now in
    is_join _ decls c.as_slice-entries.result.now c.as_slice.result.now (subst (λ (t : List (List Row)). Fits decls t) (sym c.as_slice-tables.ensures) c.requires.fits) c.requires.few c.in_ok-places.ensures
    (ap (are_below (length lent)) (sym c.deref.ensures.value) ∙ sym c.are_below.ensures ∙ c.if-not-are_below.false) c.in_ok-tests.ensures

pub returns : goal.returns
returns c =
    let decls = c.args.decls.now in
    let query = c.args.query.now in
    let tests = c.in_ok-tests.field-0.items in
    let are : AreTests decls query.from query.conditions tests = subst (λ (k : List Comparison). AreTests decls query.from k tests) c.as_slice.ensures (subst (λ (k : List FromEntry). AreTests decls k c.as_slice.result.now tests) c.as_slice-entries.ensures c.in_ok-tests.ensures) in
    let places : c.in_ok-places.places.items ≡ places_of decls query.from = c.in_ok-places.ensures ∙ ap (places_of decls) c.as_slice-entries.ensures in
    IfOk-weaker c.choices.result _ _ (λ found w.
    subst (λ (t : List (List Row)). AreChoices decls t query (option_copied c.args.only) found.list) c.as_slice-tables.ensures
    (whole_choices (record { tables = c.as_slice-tables.result; places = c.in_ok-places.places; tests = c.in_ok-tests.field-0; only = c.args.only }) decls query found are places w)) c.choices.ensures
