use Rattle.std.proofs.Common.{◌≡◌, ◌↔◌, ◌∙◌, List, true, sym, ap, map, length}
use Rattle.std.proofs.lemmas.Result.{IfOk-weaker}
use Rattle.mast_mapping.specs.declared.map.Slot.{Slot}
use Rattle.mast_unfold.specs.declared.equations.Equation.{Equation}
use Rattle.mast_unfold.specs.inside.Lookups.{place_named}
use Rattle.mast_unfold.specs.inside.Slots.{equated, output_places, have_one_shape}
use Rattle.mast_unfold.specs.inside.Equations.{both, HasSolution}
use Rattle.mast_unfold.specs.Sources.{CanBeOne}
use Rattle.mast_unfold.proofs.SlotLemmas.{equated_same, apart, as_many, can_by}
use Rattle.mast_unfold.proofs.templates.can_be_one.Goals as goal

pub returns-then-not-have_one_shape : goal.returns-then-not-have_one_shape
returns-then-not-have_one_shape c =
    (λ e. absurd (cc), λ s. absurd (apart c.args.tables.now c.args.query.now c.args.from.now c.args.to.now (sym c.have_one_shape.ensures ∙ c.if-not-have_one_shape.true) s))

pub equations-requires : goal.equations-requires
equations-requires c =
    ap length c.as_slice.ensures ∙ (as_many c.args.tables.now c.args.query.now c.args.from.now c.args.to.now (sym c.have_one_shape.ensures ∙ c.if-not-have_one_shape.false) ∙ ap length (sym c.as_slice-2.ensures))

pub returns : goal.returns
returns c =
    let tables = c.args.tables.now in
    let query = c.args.query.now in
    let from = c.args.from.now in
    let to = c.args.to.now in
    let outputs = c.in_ok-outputs.outputs in
    let list = map both c.as_slice-3.result.now in
    let shape : have_one_shape from to ≡ true = sym c.have_one_shape.ensures ∙ c.if-not-have_one_shape.false in
    let are : list ≡ equated (output_places tables query) from.args to.args =
    ap (λ (es : List Equation). map both es) c.as_slice-3.ensures.value
    ∙ (c.in_ok-equations.ensures
    ∙ (ap (λ (slots : List Slot). equated (place_named outputs) slots c.as_slice-2.result.now) c.as_slice.ensures
    ∙ (ap (λ (slots : List Slot). equated (place_named outputs) from.args slots) c.as_slice-2.ensures
    ∙ equated_same (place_named outputs) (output_places tables query) c.in_ok-outputs.ensures from.args to.args))) in
    IfOk-weaker c.are_solvable.result (λ ok. (ok ≡ true) ↔ HasSolution list) (λ ok. (ok ≡ true) ↔ CanBeOne tables query from to) (λ ok k. can_by tables query from to shape list are ok k) c.are_solvable.ensures
