-- The extension of an atom is what its sources give.
use Rattle.std.proofs.Common.{◌≡◌, ℕ, suc, List, [], ◌∷◌, inl, inr, refl, sym, ap, ◌∙◌}
use Rattle.std.specs.Prelude.{Option, Some, None, option_and_then, slice_get}
use Rattle.std.specs.List.{AllByRecursion}
use Rattle.std.specs.Option.{option_map}
use Rattle.std.proofs.lemmas.Option.{none-some, same_Some}
use Rattle.mast_terms.specs.declared.term.Term.{Term}
use Rattle.mast_terms.specs.declared.term.Term.TheVariants as term
use Rattle.mast_terms.specs.declared.value.Value.{Value}
use Rattle.mast_cq.specs.declared.atom.Atom.{Atom}
use Rattle.mast_cq.specs.Meanings.{InClass, InRole, InAttr}
use Rattle.mast_cq.specs.Queries.{In}
use Rattle.mast_cq.proofs.ListLemmas.{each_in, in_each}
use Rattle.mast_sql.specs.declared.query.FromEntry.{FromEntry}
use Rattle.mast_sql.specs.declared.query.SelectItem.{SelectItem}
use Rattle.mast_sql.specs.declared.query.SourceQuery.{SourceQuery}
use Rattle.mast_tables.specs.declared.declaration.Column.{Column}
use Rattle.mast_tables.specs.declared.declaration.TableDecl.{TableDecl}
use Rattle.mast_tables.specs.Rows.{Row}
use Rattle.mast_tables.specs.Whole.{value_kind}
use Rattle.mast_mapping.specs.Columns.{Meaning, item_named, meaning_of_item, meaning_of_output}
use Rattle.mast_mapping.specs.declared.map.Head.{Head}
use Rattle.mast_mapping.specs.declared.map.Head.TheVariants.{Class, Role, Attr}
use Rattle.mast_mapping.specs.declared.map.Slot.{Slot}
use Rattle.mast_mapping.specs.declared.map.Slot.TheVariants.{Output, Constant}
use Rattle.mast_mapping.specs.declared.map.Template.{Template}
use Rattle.mast_canon.specs.declared.rows.RowId.{RowId}
use Rattle.mast_canon.specs.Choices.{IsChoice, cell_of, chosen}
use Rattle.mast_canon.specs.Facts.{HaveSameRows, IsOfTables, chosen_rows, fact_of, object_of, of_both, slot_value, slot_values}
use Rattle.mast_canon.specs.Fitting.{Fits, IsCellOf}
use Rattle.mast_canon.proofs.ChoiceLemmas.{cell_fits, meaning_is_of}
use Rattle.mast_canon.proofs.SupportLemmas.{chosen_lie}
use Rattle.mast_unfold.specs.HeadFacts.{OutputValues, fact_of_head, object_of_template, of_two, value_of_slot, values_of_slots}
use Rattle.mast_unfold.proofs.CellLemmas.{CellsHaveKinds, cell_values, cells_become}
use Rattle.mast_join.specs.Chosen.{IsWithin}
use Rattle.mast_join.specs.Extensions.{FitsOver, IsPairBySource, IsPairOf, Over, SourcesGivePairs, TakesPart}
use Rattle.mast_join.proofs.OnceLemmas.{in_of_get}

-- the two ways to take what is there of two are one
two_both : {A B C : Type 0} (f : A → B → C) (a : Option A) (b : Option B) → of_both f a b ≡ of_two f a b
two_both f None b = refl
two_both f (Some a) None = refl
two_both f (Some a) (Some b) = refl

-- the values of cells
abbrev pub cell_in : List Row → Meaning → Option Value
cell_in rows m = cell_of rows (Some m)

module _ (decls : List TableDecl) (query : SourceQuery) (rows : List Row) where
  abbrev outputs : OutputValues
  outputs = cell_values decls query (cell_in rows)

  output_is : (o : Option Meaning) → cell_of rows o ≡ option_and_then (cell_in rows) o
  output_is None = refl
  output_is (Some m) = refl

  slot_is : (s : Slot) → slot_value decls query rows s ≡ value_of_slot outputs s
  slot_is (Output name) = output_is (meaning_of_output decls query name)
  slot_is (Constant value) = refl

  slots_are : (ss : List Slot) → slot_values decls query rows ss ≡ values_of_slots outputs ss
  slots_are [] = refl
  slots_are (s ∷ ss) =
      ap (λ (o : Option Value). of_both (λ value values. value ∷ values) o (slot_values decls query rows ss)) (slot_is s)
      ∙ ap (λ (o : Option (List Value)). of_both (λ value values. value ∷ values) (value_of_slot outputs s) o) (slots_are ss)
      ∙ two_both (λ value values. value ∷ values) (value_of_slot outputs s) (values_of_slots outputs ss)

  object_is : (t : Template) → object_of decls query rows t ≡ object_of_template outputs t
  object_is t = ap (λ (o : Option (List Value)). option_map (λ values. term.Object (record { symbol = t.symbol; args = values })) o) (slots_are t.args)

  -- the fact of a head is that by its cells
  pub head_fact : (head : Head) → fact_of decls query rows head ≡ fact_of_head outputs head
  head_fact (Class name subject) = ap (λ (o : Option Term). option_map (λ t. InClass name t) o) (object_is subject)
  head_fact (Role name from to) =
      ap (λ (o : Option Term). of_both (λ t u. InRole name t u) o (object_of decls query rows to)) (object_is from)
      ∙ ap (λ (o : Option Term). of_both (λ t u. InRole name t u) (object_of_template outputs from) o) (object_is to)
      ∙ two_both (λ t u. InRole name t u) (object_of_template outputs from) (object_of_template outputs to)
  head_fact (Attr name from value) =
      ap (λ (o : Option Term). of_both (λ t v. InAttr name t (term.Value v)) o (slot_value decls query rows value)) (object_is from)
      ∙ ap (λ (o : Option Value). of_both (λ t v. InAttr name t (term.Value v)) (object_of_template outputs from) o) (slot_is value)
      ∙ two_both (λ t v. InAttr name t (term.Value v)) (object_of_template outputs from) (value_of_slot outputs value)

-- a cell's value has the kind of its column
kind_is : (column : Column) (o : Option Value) (v : Value) → IsCellOf column o → o ≡ Some v → value_kind v ≡ column.kind
kind_is column None v h e = absurd (none-some v e)
kind_is column (Some w) v h e = ap value_kind (sym (same_Some w v e)) ∙ h

module _ (decls : List TableDecl) (tables : List (List Row)) (query : SourceQuery) (choice : List ℕ) (is : IsChoice decls tables query choice) (fits : Fits decls tables) where
  item_kind : (o : Option SelectItem) (m : Meaning) (v : Value) → meaning_of_item decls query.from o ≡ Some m → cell_in (chosen decls tables query.from choice) m ≡ Some v → value_kind v ≡ m.kind
  item_kind None m v e c = absurd (none-some m e)
  item_kind (Some item) m v e c =
      let o = meaning_is_of decls query.from item.alias item.column m e in
      kind_is o.column (cell_in (chosen decls tables query.from choice) m) v (cell_fits decls tables query choice is m o fits) c ∙ sym o.kind

  -- the cells of a choice have their columns' kinds
  pub cells_have_kinds : CellsHaveKinds decls query (cell_in (chosen decls tables query.from choice))
  cells_have_kinds name m v e c = item_kind (item_named name query.items) m v e c

-- the number of an element
pub record HasNumber {X : Type 0} (x : X) (xs : List X) : Type 0 where
  pub number : ℕ
  pub is : slice_get xs number ≡ Some x

-- each element has one
pub has_number : {X : Type 0} (x : X) (xs : List X) → In x xs → HasNumber x xs
has_number x [] i = absurd i
has_number x (y ∷ ys) (inl e) = record { number = 0; is = ap Some (sym e) }
has_number x (y ∷ ys) (inr i) = let h = has_number x ys i in record { number = suc h.number; is = h.is }

module _ (decls : List TableDecl) (tables : List (List Row)) (entries : List FromEntry) (choice : List ℕ) (rows : List RowId) (are : HaveSameRows rows (chosen_rows decls entries choice)) where
  -- what holds of the chosen rows holds of the same rows, and back
  same_each : (P : RowId → Type 0) → AllByRecursion P (chosen_rows decls entries choice) → AllByRecursion P rows
  same_each P h = in_each P rows (λ row i. each_in P row (chosen_rows decls entries choice) h ((are row).0 i))

  each_same : (P : RowId → Type 0) → AllByRecursion P rows → AllByRecursion P (chosen_rows decls entries choice)
  each_same P h = in_each P (chosen_rows decls entries choice) (λ row i. each_in P row rows h ((are row).1 i))

  within_part : (only : Option (List RowId)) → AllByRecursion (IsOfTables tables) (chosen_rows decls entries choice) → IsWithin decls entries only choice → AllByRecursion (TakesPart tables only) rows
  within_part None lie w = same_each (IsOfTables tables) lie
  within_part (Some only) lie w = same_each (λ row. In row only) w

  part_within : (only : Option (List RowId)) → AllByRecursion (TakesPart tables only) rows → IsWithin decls entries only choice
  part_within None h = tt
  part_within (Some only) h = each_same (λ row. In row only) h

-- what a source gives is a pair
pub by_source : (over : Over) (under : ℕ → Term) (g : Atom) (rows : List RowId) → IsPairBySource over under g rows → IsPairOf over under g rows
by_source over under g rows p = record {
  member = p.source.member;
  below = p.is.below;
  fact = p.fact;
  matches = p.matches;
  supports = record {
    support = record {
      map = p.map;
      stands = in_of_get over.sources.maps p.source.map p.map p.stands;
      choice = p.choice;
      gives = record { meets = p.met.meets; gives = p.gives };
      are = p.are;
    };
    within = within_part over.sources.tables over.rows p.map.query.from p.choice rows p.are over.only (chosen_lie over.sources.tables over.rows p.map.query.from p.choice p.met.meets.is_choice) p.met.within;
  };
}

-- each pair is what a source gives
pub to_source : (over : Over) → FitsOver over → (under : ℕ → Term) (g : Atom) (rows : List RowId) → IsPairOf over under g rows → IsPairBySource over under g rows
to_source over fits under g rows p =
    let decls = over.sources.tables in
    let s = p.supports.support in
    let n = has_number s.map over.sources.maps s.stands in
    let choice = s.choice in
    let cells = chosen decls over.rows s.map.query.from choice in
    let meets = s.gives.meets in
    record {
      source = record { member = p.member; map = n.number };
      is = record {
        below = p.below;
        map = s.map;
        stands = n.is;
        becomes = cells_become decls over.sources.vocab.constants s.map (cell_in cells) (cells_have_kinds decls over.rows s.map.query choice meets.is_choice fits) p.fact
            (sym (head_fact decls s.map.query cells s.map.head) ∙ s.gives.gives) p.member under p.matches;
      };
      map = s.map;
      stands = n.is;
      choice = choice;
      met = record { meets = meets; within = part_within decls over.rows s.map.query.from choice rows s.are over.only p.supports.within };
      fact = p.fact;
      gives = s.gives.gives;
      matches = p.matches;
      are = s.are;
    }

-- the extension is exactly what the sources give
pub pairs : (over : Over) → FitsOver over → SourcesGivePairs over
pairs over fits under g rows = (to_source over fits under g rows, by_source over under g rows)
