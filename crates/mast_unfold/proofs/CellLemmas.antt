-- A head that gives a fact by cells, some of which may be missing, becomes what the fact is.
use Rattle.std.proofs.Common.{◌≡◌, ℕ, List, refl, ap, ◌∙◌}
use Rattle.std.specs.Prelude.{Option, Some, None, option_and_then}
use Rattle.std.specs.Option.{option_map}
use Rattle.std.proofs.lemmas.Option.{none-some}
use Rattle.mast_terms.specs.declared.term.Term.{Term}
use Rattle.mast_terms.specs.declared.value.Value.{Value}
use Rattle.mast_terms.proofs.OrderLemmas.{kind_equality_test}
use Rattle.mast_tables.specs.Whole.{value_kind}
use Rattle.mast_tables.specs.declared.declaration.TableDecl.{TableDecl}
use Rattle.mast_cq.specs.declared.atom.Atom.{Atom}
use Rattle.mast_cq.specs.Meanings.{Fact, Match}
use Rattle.mast_sql.specs.declared.query.SourceQuery.{SourceQuery}
use Rattle.mast_mapping.specs.Columns.{Meaning, meaning_of_output}
use Rattle.mast_mapping.specs.declared.split_map.SplitMap.{SplitMap}
use Rattle.mast_unfold.specs.HeadFacts.{OutputValues, fact_of_head}
use Rattle.mast_unfold.specs.Sources.{output_values, constant_term, Becomes}
use Rattle.mast_unfold.proofs.EquationLemmas.{of_kind, of_kind_is}
use Rattle.mast_unfold.proofs.FormLemmas.{chosen, picked, picked_kind}
use Rattle.mast_unfold.proofs.HeadLemmas.{fact_more}

-- the values of the outputs of a source query by cells
abbrev pub cell_values : List TableDecl → SourceQuery → (Meaning → Option Value) → OutputValues
cell_values tables query cell name = option_and_then cell (meaning_of_output tables query name)

-- the cells that outputs mean have their columns' kinds
abbrev pub CellsHaveKinds : List TableDecl → SourceQuery → (Meaning → Option Value) → Type 0
CellsHaveKinds tables query cell = (name : List ℕ) (m : Meaning) (v : Value) → meaning_of_output tables query name ≡ Some m → cell m ≡ Some v → value_kind v ≡ m.kind

-- a cell's value, or some value of the kind
abbrev filled : Option Value → Meaning → Value
filled None m = of_kind m.kind
filled (Some v) m = picked v m.kind

module _ (tables : List TableDecl) (query : SourceQuery) (cell : Meaning → Option Value) (kinds : CellsHaveKinds tables query cell) where
  filled_kind : (o : Option Value) (m : Meaning) → value_kind (filled o m) ≡ m.kind
  filled_kind None m = of_kind_is m.kind
  filled_kind (Some v) m = picked_kind v m.kind

  picked_same : (v : Value) (m : Meaning) → value_kind v ≡ m.kind → picked v m.kind ≡ v
  picked_same v m e = ap (λ b. chosen b v m.kind) ((kind_equality_test (value_kind v) m.kind).1 e)

  have_more : (name : List ℕ) (o : Option Meaning) → meaning_of_output tables query name ≡ o → (v : Value) → option_and_then cell o ≡ Some v → option_map (λ m. filled (cell m) m) o ≡ Some v
  have_more name None e v h = absurd (none-some v h)
  have_more name (Some m) e v h = ap (λ (c : Option Value). Some (filled c m)) h ∙ ap Some (picked_same v m (kinds name m v e h))

-- a map whose head gives a fact by cells of their columns' kinds becomes each atom that the fact is
pub cells_become : (tables : List TableDecl) (constants : List Value) (map : SplitMap) (cell : Meaning → Option Value) → CellsHaveKinds tables map.query cell → (fact : Fact Term) → fact_of_head (cell_values tables map.query cell) map.head ≡ Some fact
    → (atom : Atom) (under : ℕ → Term) → Match (constant_term constants) under atom fact → Becomes tables constants map atom
cells_become tables constants map cell kinds fact gives atom under matches = record {
  values = λ m. filled (cell m) m;
  kinds = λ m. filled_kind tables map.query cell kinds (cell m) m;
  fact = fact;
  gives = fact_more (cell_values tables map.query cell) (output_values tables map.query (λ m. filled (cell m) m)) (λ name v h. have_more tables map.query cell kinds name (meaning_of_output tables map.query name) refl v h) map.head fact gives;
  under = under;
  matches = matches;
}
