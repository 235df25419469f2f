-- What a plan prints for a choice is the line of the fact that the split mapping gives.
use Rattle.std.proofs.Common.{◌≡◌, ◌++◌, ℕ, List, Option, ap, ◌∙◌}
use Rattle.std.proofs.Math.Logic.{∥∥₁_elim}
use Rattle.std.specs.Coded.{le_prop, codes}
use Rattle.std.specs.List.{AllByRecursion-prop}
use Rattle.std.specs.Option.{option_to_list}
use Rattle.mast_canon.specs.Choices.{IsChoice, chosen}
use Rattle.mast_canon.specs.Fitting.{Fits}
use Rattle.mast_tables.specs.Rows.{Row, IsPlace}
use Rattle.mast_write.specs.declared.line_plan.Cell.{Cell}
use Rattle.mast_write.specs.declared.line_plan.LinePlan.{LinePlan}
use Rattle.mast_write.specs.FactPlans.{Planned, chosen_line, chosen_lines}
use Rattle.mast_write.specs.inside.Plans.{AreThere, IsPlan, IsThere, cells_line, chosen_cell, plan_text}
use Rattle.mast_write.proofs.CellLemmas.{are_there, same_text}

place_prop : (rows : List Row) (row column : ℕ) → IsProp (IsPlace rows row column)
place_prop rows row column a b = λ i. record {
  row_from = le_prop a.row_from b.row_from i;
  row_to = le_prop a.row_to b.row_to i;
  column_from = le_prop a.column_from b.column_from i;
  column_to = le_prop a.column_to b.column_to i;
}

there_prop : (tables : List (List Row)) (choice : List ℕ) (cell : Cell) → IsProp (IsThere tables choice cell)
there_prop tables choice cell a b = λ i. record {
  entry = le_prop a.entry b.entry i;
  table = le_prop a.table b.table i;
  place = place_prop _ _ _ a.place b.place i;
}

text_set : (a b : Option (List ℕ)) → IsProp (a ≡ b)
text_set a b = hlevel codes

module _ (planned : Planned) (line : LinePlan) (is : ∥ IsPlan planned.vocab planned.tables planned.mapping line ∥₁) (tables : List (List Row)) (choice : List ℕ) (fits : Fits planned.tables tables)
    (is_choice : IsChoice planned.tables tables planned.mapping.query choice) where
  -- the tables and the choice have its cells
  pub planned_there : AreThere tables choice line.cells.items
  planned_there =
      ∥∥₁_elim is (AllByRecursion-prop (IsThere tables choice) (there_prop tables choice) line.cells.items)
      (λ h. are_there planned.tables tables planned.mapping.query.from choice fits is_choice line.cells.items h.places)

  same_line : plan_text (chosen_cell tables choice) line ≡ chosen_line planned tables choice
  same_line =
      ∥∥₁_elim is (text_set (plan_text (chosen_cell tables choice) line) (chosen_line planned tables choice))
      (λ h.
      same_text planned.tables tables planned.mapping.query.from choice fits is_choice line h.places
      ∙ h.text (chosen planned.tables tables planned.mapping.query.from choice))

  -- so where its line for the choice was added, that of the fact was
  pub planned_added : (old new : List (List ℕ)) → new ≡ old ++ cells_line tables choice line → new ≡ old ++ chosen_lines planned tables choice
  planned_added old new added = added ∙ ap (λ o. old ++ option_to_list o) same_line
