-- The tables of a run have one end.
use Rattle.std.proofs.Common.{◌≡◌, ◌⊎◌, ◌<◌, ◌≤◌, ◌-◌, inl, inr, ℕ, List, [], ◌∷◌, length, Option, Some, sym, ap, ◌∙◌, refl, arith}
use Rattle.std.proofs.lemmas.Bool.{cases_lt}
use Rattle.mast_files.specs.Outside.{Contents}
use Rattle.mast_tables.proofs.BreachLemmas.{file_fits}
use Rattle.mast_tables.proofs.OnceLemmas.{file_rows_once, file_breach_once}
use Rattle.mast_tables.specs.declared.declaration.Column.{Column}
use Rattle.mast_tables.specs.declared.declaration.RowBreach.{RowBreach}
use Rattle.mast_tables.specs.declared.declaration.TableDecl.{TableDecl}
use Rattle.mast_tables.specs.Breach.{HasRows, HasBreach}
use Rattle.mast_tables.specs.Laws.{HasAnswer}
use Rattle.mast_tables.specs.Records.{Record, records_of}
use Rattle.mast_tables.specs.Rows.{Row}
use Rattle.mast_write.specs.declared.refusals.Refusal.{Refusal}
use Rattle.mast_write.specs.declared.refusals.Refusal.TheVariants as refusal
use Rattle.mast_cli.specs.FirstEvent.{Trail, first_event}
use Rattle.mast_cli.specs.stage.Tables.{TableEvent, IsTable, TableStage, StagesFrom}
use Rattle.mast_cli.proofs.FirstEventLemmas.{HasOneEnd, one_reads, one_then, one_made}

-- each file has the rows of a table or a breach
abbrev pub FilesHaveAnswers : Type 0
FilesHaveAnswers = (columns : List Column) (most : ℕ) (records : List Record) → HasAnswer columns most records

module _ (bytes rows : ℕ) (table : TableDecl) (content : List ℕ) where
  short_either : length content ≤ bytes
      → ((loaded : List Row) × HasRows table.columns rows (records_of content) loaded) ⊎ ((breach : RowBreach) × HasBreach table.columns rows (records_of content) breach)
      → ((loaded : List Row) × IsTable bytes rows table content loaded) ⊎ ((event : Refusal) × TableEvent bytes rows table content event)
  short_either short (inl h) = inl (h.0, (short, h.1))
  short_either short (inr h) = inr (refusal.Table table.name h.0, inr (short, h.0, h.1, refl))

  table_either : FilesHaveAnswers → (bytes < length content) ⊎ (length content ≤ bytes)
      → ((loaded : List Row) × IsTable bytes rows table content loaded) ⊎ ((event : Refusal) × TableEvent bytes rows table content event)
  table_either any (inl long) = inr (refusal.TableBytes table.name, inl (long, refl))
  table_either any (inr short) = short_either short (any table.columns rows (records_of content))

  table_not_both : (loaded : List Row) (event : Refusal) → IsTable bytes rows table content loaded → TableEvent bytes rows table content event → ⊥
  table_not_both loaded event h (inl g) = let short = h.0 in let long = g.0 in absurd (omega (short, long, arith))
  table_not_both loaded event h (inr g) = file_fits table.columns rows (records_of content) loaded g.1 h.1 g.2

  one_table_event : (e f : Refusal) → TableEvent bytes rows table content e → TableEvent bytes rows table content f → e ≡ f
  one_table_event e f (inl h) (inl g) = h.1 ∙ sym g.1
  one_table_event e f (inl h) (inr g) = let long = h.0 in let short = g.0 in absurd (omega (short, long, arith))
  one_table_event e f (inr h) (inl g) = let short = h.0 in let long = g.0 in absurd (omega (short, long, arith))
  one_table_event e f (inr h) (inr g) =
      h.3 ∙ ap (λ b. refusal.Table table.name b) (file_breach_once table.columns rows (records_of content) h.1 g.1 h.2 g.2) ∙ sym g.3

-- the stage of a table has one end
pub one_table : FilesHaveAnswers → (contents : Contents) (bytes rows : ℕ) (table : TableDecl) → HasOneEnd (TableStage contents bytes rows table)
one_table any contents bytes rows table =
    let content = contents table.file in
    one_reads table.file (TableEvent bytes rows table content) (IsTable bytes rows table content)
    (table_either bytes rows table content any (cases_lt bytes (length content)))
    (table_not_both bytes rows table content)
    (λ x y h g. file_rows_once table.columns rows (records_of content) x y h.1 g.1)
    (one_table_event bytes rows table content)

no_tables_one : (s t : Trail) (x y : Option (List (List Row))) → (s ≡ []) × (x ≡ Some []) → (t ≡ []) × (y ≡ Some []) → (s ≡ t) × (x ≡ y)
no_tables_one s t x y h g = (h.0 ∙ sym g.0, h.1 ∙ sym g.1)

-- so have the stages of tables, however much is left of the limits
pub one_from : FilesHaveAnswers → (contents : Contents) (bytes rows : ℕ) (tables : List TableDecl) → HasOneEnd (StagesFrom contents bytes rows tables)
one_from any contents bytes rows [] = record {
  some = ([], Some [], (refl, refl));
  one = no_tables_one;
  quiet = λ s x h. ap first_event h.0;
  loud = λ s h. let e = h.1 in absurd (cc);
}
one_from any contents bytes rows (table ∷ tables) =
    one_made _ (λ both. both.0 ∷ both.1)
    (one_then (TableStage contents bytes rows table)
    (λ loaded. StagesFrom contents (bytes - length (contents table.file)) (rows - length loaded) tables)
    (one_table any contents bytes rows table)
    (λ s loaded h. one_from any contents (bytes - length (contents table.file)) (rows - length loaded) tables))
