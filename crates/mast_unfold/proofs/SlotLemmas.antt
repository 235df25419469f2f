-- What slots stand for, and when two templates have one object.
use Rattle.std.proofs.Common.{◌≡◌, ◌↔◌, ℕ, Bool, true, false, nat_eq, suc, List, [], ◌∷◌, length, refl, ap, sym, subst, ◌∙◌, arith}
use borrow.Author.Tests.{eqb-true, eq-eqb}
use Rattle.std.specs.Prelude.{Option, Some, None}
use Rattle.std.specs.Str.{bytes_eq}
use Rattle.std.proofs.lemmas.Bool.{and_parts, and_from}
use Rattle.mast_terms.proofs.OrderLemmas.{text_equality_test}
use Rattle.std.specs.List.{AllByRecursion}
use Rattle.std.specs.Option.{option_map}
use Rattle.std.proofs.lemmas.Option.{none-some, same_Some}
use Rattle.mast_terms.specs.declared.term.Term.{Term}
use Rattle.mast_terms.specs.declared.term.Term.TheVariants as term
use Rattle.mast_terms.specs.declared.value.Value.{Value}
use Rattle.mast_sql.specs.declared.query.SourceQuery.{SourceQuery}
use Rattle.mast_tables.specs.declared.declaration.TableDecl.{TableDecl}
use Rattle.mast_mapping.specs.declared.map.Slot.{Slot}
use Rattle.mast_mapping.specs.declared.map.Slot.TheVariants.{Output, Constant}
use Rattle.mast_mapping.specs.declared.map.Template.{Template}
use Rattle.mast_mapping.specs.Columns.{Meaning, meaning_of_output}
use Rattle.mast_unfold.specs.declared.columns.Place.{Place}
use Rattle.mast_unfold.specs.HeadFacts.{OutputValues, value_of_slot, values_of_slots}
use Rattle.mast_unfold.specs.Sources.{ColumnValues, output_values, CanBeOne}
use Rattle.mast_unfold.specs.inside.Equations.{Cell, HasValue, IsEqual, HasSolution}
use Rattle.mast_unfold.specs.inside.Lookups.{meant, place_of}
use Rattle.mast_unfold.specs.inside.Slots.{cell_at, cell_by, output_places, slot_cell, equated, have_one_shape}
use Rattle.mast_unfold.proofs.HeadLemmas.{both_there, of_both_there, map_there}

-- two equal functions from names to places make one cell of a slot
pub cell_same : (f g : List ℕ → Option Place) → ((name : List ℕ) → f name ≡ g name) → (slot : Slot) → cell_by f slot ≡ cell_by g slot
cell_same f g e (Output name) = ap cell_at (e name)
cell_same f g e (Constant v) = refl

-- and the same equations
pub equated_same : (f g : List ℕ → Option Place) → ((name : List ℕ) → f name ≡ g name) → (from to : List Slot) → equated f from to ≡ equated g from to
equated_same f g e [] to = refl
equated_same f g e (a ∷ from) [] = refl
equated_same f g e (a ∷ from) (b ∷ to) = pairs (cell_same f g e a) (cell_same f g e b) (equated_same f g e from to)
  where
    pairs : {p q r s : Cell} {xs ys : List (Cell × Cell)} → p ≡ q → r ≡ s → xs ≡ ys → (let t : List (Cell × Cell) = (p, r) ∷ xs in t) ≡ (q, s) ∷ ys
    pairs g h k = cc

module _ (tables : List TableDecl) (query : SourceQuery) (values : ColumnValues) (places : Place → Value) (same : (m : Meaning) → values m ≡ places (place_of m)) where
  outputs : OutputValues
  outputs = output_values tables query values

  meant_value : (m : Option Meaning) (v : Value) → option_map values m ≡ Some v → HasValue places (cell_at (option_map place_of m)) v
  meant_value None v h = absurd (none-some v h)
  meant_value (Some m) v h = sym (same m) ∙ same_Some (values m) v h

  value_meant : (m : Option Meaning) (v : Value) → HasValue places (cell_at (option_map place_of m)) v → option_map values m ≡ Some v
  value_meant None v h = absurd h
  value_meant (Some m) v h = ap Some (same m ∙ h)

  -- the value of a slot is that of its cell
  pub slot_value : (slot : Slot) (v : Value) → value_of_slot (output_values tables query values) slot ≡ Some v → HasValue places (slot_cell tables query slot) v
  slot_value (Output name) v h = meant_value (meaning_of_output tables query name) v h
  slot_value (Constant w) v h = same_Some w v h

  -- and the value of its cell is that of the slot
  pub cell_value : (slot : Slot) (v : Value) → HasValue places (slot_cell tables query slot) v → value_of_slot (output_values tables query values) slot ≡ Some v
  cell_value (Output name) v h = value_meant (meaning_of_output tables query name) v h
  cell_value (Constant w) v h = ap Some h

  equations : List Slot → List Slot → List (Cell × Cell)
  equations from to = equated (output_places tables query) from to

  abbrev slots_values : List Slot → Option (List Value)
  slots_values slots = values_of_slots (output_values tables query values) slots

  -- slots with equal values are as many, and their equations hold
  pub record AreEqual (from to : List Slot) : Type 0 where
    pub long : length from ≡ length to
    pub hold : AllByRecursion (IsEqual places) (equated (output_places tables query) from to)

  pub values_equal : (from to : List Slot) (vs : List Value) → values_of_slots (output_values tables query values) from ≡ Some vs → values_of_slots (output_values tables query values) to ≡ Some vs → AreEqual from to
  values_equal [] [] vs f g = record { long = refl; hold = tt }
  values_equal [] (b ∷ to) vs f g =
      let h = both_there (λ v ws. v ∷ ws) (value_of_slot (output_values tables query values) b) (values_of_slots (output_values tables query values) to) vs g in
      absurd (let no : ◌≡◌ {A = List Value} [] (h.first ∷ h.second) = same_Some [] vs f ∙ sym h.gives in cc)
  values_equal (a ∷ from) [] vs f g =
      let h = both_there (λ v ws. v ∷ ws) (value_of_slot (output_values tables query values) a) (values_of_slots (output_values tables query values) from) vs f in
      absurd (let no : ◌≡◌ {A = List Value} [] (h.first ∷ h.second) = same_Some [] vs g ∙ sym h.gives in cc)
  values_equal (a ∷ from) (b ∷ to) vs f g =
      let h = both_there (λ v ws. v ∷ ws) (value_of_slot (output_values tables query values) a) (values_of_slots (output_values tables query values) from) vs f in
      let k = both_there (λ v ws. v ∷ ws) (value_of_slot (output_values tables query values) b) (values_of_slots (output_values tables query values) to) vs g in
      let e : h.first ∷ h.second ≡ k.first ∷ k.second = h.gives ∙ sym k.gives in
      let first : k.first ≡ h.first = cc in
      let second : k.second ≡ h.second = cc in
      let rest = values_equal from to h.second h.has_second (k.has_second ∙ ap Some second) in
      record {
        long = ap suc rest.long;
        hold = (record { value = h.first; left = slot_value a h.first h.has_first; right = slot_value b h.first (k.has_first ∙ ap Some first) }, rest.hold);
      }

  -- the values of both lists
  pub record HaveOne (from to : List Slot) : Type 0 where
    pub one : List Value
    pub first : values_of_slots (output_values tables query values) from ≡ Some one
    pub second : values_of_slots (output_values tables query values) to ≡ Some one

  -- and where they are as many and their equations hold, the values are equal
  pub equal_values : (from to : List Slot) → length from ≡ length to → AllByRecursion (IsEqual places) (equated (output_places tables query) from to) → HaveOne from to
  equal_values [] [] l h = record { one = []; first = refl; second = refl }
  equal_values [] (b ∷ to) l h = absurd (omega (arith, l))
  equal_values (a ∷ from) [] l h = absurd (omega (arith, l))
  equal_values (a ∷ from) (b ∷ to) l h =
      let rest = equal_values from to (omega (arith, l)) h.1 in
      let e = h.0 in
      record {
        one = e.value ∷ rest.one;
        first = of_both_there (λ v ws. v ∷ ws) (value_of_slot (output_values tables query values) a) (values_of_slots (output_values tables query values) from) e.value rest.one (cell_value a e.value e.left) rest.first;
        second = of_both_there (λ v ws. v ∷ ws) (value_of_slot (output_values tables query values) b) (values_of_slots (output_values tables query values) to) e.value rest.one (cell_value b e.value e.right) rest.second;
      }

-- the symbol and the arguments of an object
abbrev symbol_of : Term → List ℕ
symbol_of (term.Value v) = []
symbol_of (term.Object o) = o.symbol

abbrev args_of : Term → List Value
args_of (term.Value v) = []
args_of (term.Object o) = o.args

-- the values of columns, by place
abbrev pub by_place : ColumnValues → Place → Value
by_place values p = values (meant p)

-- and by meaning
abbrev pub by_meaning : (Place → Value) → ColumnValues
by_meaning places m = places (place_of m)

module _ (tables : List TableDecl) (query : SourceQuery) (from to : Template) where
  -- what two templates have in common that can be one
  pub record AreLike : Type 0 where
    pub symbols : from.symbol ≡ to.symbol
    pub long : length from.args ≡ length to.args
    pub solution : HasSolution (equated (output_places tables query) from.args to.args)

  object_parts : (symbol other : List ℕ) (vs ws : List Value) (t : Term) → term.Object (record { symbol = symbol; args = vs }) ≡ t → term.Object (record { symbol = other; args = ws }) ≡ t → (symbol ≡ other) × (vs ≡ ws)
  object_parts symbol other vs ws t e g =
      let same : term.Object (record { symbol = symbol; args = vs }) ≡ term.Object (record { symbol = other; args = ws }) = e ∙ sym g in
      (ap symbol_of same, ap args_of same)

  -- two templates that can be one are alike
  pub one_like : CanBeOne tables query from to → AreLike
  one_like c =
      let a = map_there (λ vs. term.Object (record { symbol = from.symbol; args = vs })) (values_of_slots (output_values tables query c.values) from.args) c.object c.first in
      let b = map_there (λ vs. term.Object (record { symbol = to.symbol; args = vs })) (values_of_slots (output_values tables query c.values) to.args) c.object c.second in
      let parts = object_parts from.symbol to.symbol a.from b.from c.object a.gives b.gives in
      let e = values_equal tables query c.values (by_place c.values) (λ m. refl) from.args to.args a.from a.has (b.has ∙ ap Some (sym parts.1)) in
      record {
        symbols = parts.0;
        long = e.long;
        solution = record { values = by_place c.values; kinds = λ p. c.kinds (meant p); holds = e.hold };
      }

  -- and two that are alike can be one
  pub like_one : AreLike → CanBeOne tables query from to
  like_one l =
      let s = l.solution in
      let o = equal_values tables query (by_meaning s.values) s.values (λ m. refl) from.args to.args l.long s.holds in
      record {
        values = by_meaning s.values;
        kinds = λ m. s.kinds (place_of m);
        object = term.Object (record { symbol = from.symbol; args = o.one });
        first = ap (option_map (λ vs. term.Object (record { symbol = from.symbol; args = vs }))) o.first;
        second = ap (option_map (λ vs. term.Object (record { symbol = to.symbol; args = vs }))) o.second ∙ ap (λ (x : List ℕ). Some (term.Object (record { symbol = x; args = o.one }))) (sym l.symbols);
      }

  -- two templates of other shapes can't be one
  pub apart : have_one_shape from to ≡ false → CanBeOne tables query from to → ⊥
  apart h c =
      let l = one_like c in
      let yes : have_one_shape from to ≡ true = and_from (bytes_eq from.symbol to.symbol) (nat_eq (length from.args) (length to.args)) ((text_equality_test from.symbol to.symbol).1 l.symbols) (eq-eqb (length from.args) (length to.args) l.long) in
      let no : true ≡ false = sym yes ∙ h in
      cc

  -- those of one shape have as many arguments
  pub as_many : have_one_shape from to ≡ true → length from.args ≡ length to.args
  as_many h = eqb-true (length from.args) (length to.args) (and_parts (bytes_eq from.symbol to.symbol) (nat_eq (length from.args) (length to.args)) h).1

  -- and they can be one exactly where their equations have a solution
  pub can_by : have_one_shape from to ≡ true → (es : List (Cell × Cell)) → es ≡ equated (output_places tables query) from.args to.args → (can : Bool) → (can ≡ true) ↔ HasSolution es → (can ≡ true) ↔ CanBeOne tables query from to
  can_by h es e can k = (
    λ y. like_one (record { symbols = (text_equality_test from.symbol to.symbol).0 (and_parts (bytes_eq from.symbol to.symbol) (nat_eq (length from.args) (length to.args)) h).0; long = as_many h; solution = subst HasSolution e (k.0 y) }),
    λ c. k.1 (subst HasSolution (sym e) (one_like c).solution),
  )
