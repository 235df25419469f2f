-- Where the numbers of a head's terms come from, and what is read there in a choice.
use Rattle.std.proofs.Common.{◌≡◌, ℕ, ◌+◌, ◌<◌, inl, inr, List, [], ◌∷◌, ◌++◌, length, take, get_or, slice_get, refl, sym, ap, subst, ◌∙◌, arith}
use Rattle.std.specs.Prelude.{Option, Some, None}
use Rattle.std.specs.List.{AllZip}
use Rattle.std.specs.Option.{option_map}
use Rattle.std.proofs.lemmas.List.{take_more}
use Rattle.std.proofs.lemmas.Option.{none-some, same_Some}
use Rattle.mast_terms.specs.declared.name.Name.{Name}
use Rattle.mast_terms.specs.declared.term.Term.{Term}
use Rattle.mast_terms.specs.declared.term.Term.TheVariants as term
use Rattle.mast_terms.specs.declared.value.Value.{Value}
use Rattle.mast_cq.specs.Meanings.{InClass, InRole, InAttr}
use Rattle.mast_cq.proofs.ListLemmas.{each_in}
use Rattle.mast_sql.specs.declared.query.FromEntry.{FromEntry}
use Rattle.mast_sql.specs.declared.query.SelectItem.{SelectItem}
use Rattle.mast_sql.specs.declared.query.SourceQuery.{SourceQuery}
use Rattle.mast_tables.specs.declared.declaration.TableDecl.{TableDecl}
use Rattle.mast_tables.specs.Rows.{Row}
use Rattle.mast_mapping.specs.Columns.{Meaning, item_named, meaning_of_item, meaning_of_output}
use Rattle.mast_mapping.specs.declared.map.Head.{Head}
use Rattle.mast_mapping.specs.declared.map.Head.TheVariants as head
use Rattle.mast_mapping.specs.declared.map.Slot.{Slot}
use Rattle.mast_mapping.specs.declared.map.Slot.TheVariants.{Output, Constant}
use Rattle.mast_mapping.specs.declared.map.Template.{Template}
use Rattle.mast_canon.specs.Choices.{IsChoice, cell_of, chosen, table_number}
use Rattle.mast_canon.specs.Facts.{fact_of, object_of, of_both, slot_value, slot_values}
use Rattle.mast_canon.specs.Fitting.{Fits}
use Rattle.mast_canon.proofs.ChoiceLemmas.{IsOfEntry, cell_is, cell_place, meaning_is_of, place_within, table_at, zip_length}
use Rattle.mast_numbers.specs.Numbered.{Numbered}
use Rattle.mast_join.specs.Chosen.{AreFew}
use Rattle.mast_join.specs.declared.values.HeadPlaces.{HeadPlaces}
use Rattle.mast_join.specs.declared.values.Part.{Part}
use Rattle.mast_join.specs.declared.values.Part.TheVariants as part
use Rattle.mast_join.specs.declared.values.SlotPlace.{SlotPlace}
use Rattle.mast_join.specs.declared.values.SlotPlace.TheVariants as slot_place
use Rattle.mast_join.specs.inside.Places.{AreHeadPlaces, BothRead, IsColumnPlace, IsObject, IsObjectPart, IsSlotPlace, IsValuePart, SecondReads, TellsBoth, TellsFact}
use Rattle.mast_join.specs.inside.Values.{IsFront, KeepsNumbers, PartReads, ReadAll, Reads, TellsTerm}
use Rattle.mast_join.proofs.OnceLemmas.{in_of_get}
use Rattle.mast_join.proofs.ValueLemmas.{all_read_more, get_front, reads_more}

item_entry : (decls : List TableDecl) (entries : List FromEntry) (o : Option SelectItem) (m : Meaning) → meaning_of_item decls entries o ≡ Some m → IsOfEntry decls entries m.entry m
item_entry decls entries None m e = absurd (none-some m e)
item_entry decls entries (Some item) m e = meaning_is_of decls entries item.alias item.column m e

-- what an output means is a column of one of the entries
pub output_entry : (decls : List TableDecl) (query : SourceQuery) (name : List ℕ) (m : Meaning) → meaning_of_output decls query name ≡ Some m → IsOfEntry decls query.from m.entry m
output_entry decls query name m e = item_entry decls query.from (item_named name query.items) m e

-- with a number of 32 bits
pub output_few : (decls : List TableDecl) (query : SourceQuery) (m : Meaning) → AreFew decls → IsOfEntry decls query.from m.entry m → m.column < 4294967295
output_few decls query m few o =
    let within : m.column < length o.table.columns = place_within o.table.columns m.column o.column o.at in
    let f = each_in (λ (decl : TableDecl). length decl.columns < 4294967295) o.table decls few (in_of_get decls (table_number o.entry.table decls) o.table (table_at o.entry.table decls o.table o.named)) in
    omega (arith, within, f)

-- the place stays that of its slot
pub slot_more : (old new : Numbered) (decls : List TableDecl) (query : SourceQuery) (slot : Slot) (place : SlotPlace) → KeepsNumbers old new → IsSlotPlace old decls query slot place → IsSlotPlace new decls query slot place
slot_more old new decls query (Output name) place k s = s
slot_more old new decls query (Constant value) place k s = (s.0, s.1, get_front old.terms new.terms s.0 (term.Value value) k.terms s.2)

-- the places of slots stay so while numbers come
pub slots_more : (old new : Numbered) (decls : List TableDecl) (query : SourceQuery) (slots : List Slot) (places : List SlotPlace) → KeepsNumbers old new → AllZip (IsSlotPlace old decls query) slots places → AllZip (IsSlotPlace new decls query) slots places
slots_more old new decls query [] [] k s = tt
slots_more old new decls query [] (p ∷ ps) k s = absurd s
slots_more old new decls query (x ∷ xs) [] k s = absurd s
slots_more old new decls query (x ∷ xs) (p ∷ ps) k s = (slot_more old new decls query x p k s.0, slots_more old new decls query xs ps k s.1)

-- and the part that of its template
pub object_more : (old new : Numbered) (decls : List TableDecl) (query : SourceQuery) (template : Template) (p : Part) → KeepsNumbers old new → IsObjectPart old decls query template p → IsObjectPart new decls query template p
object_more old new decls query template p k o = record {
  symbol = o.symbol;
  args = o.args;
  is = o.is;
  named = get_front old.symbols new.symbols o.symbol template.symbol k.symbols o.named;
  slots = slots_more old new decls query template.args o.args k o.slots;
}

pub value_part_more : (old new : Numbered) (decls : List TableDecl) (query : SourceQuery) (slot : Slot) (p : Part) → KeepsNumbers old new → IsValuePart old decls query slot p → IsValuePart new decls query slot p
value_part_more old new decls query slot p k o = record { place = o.place; is = o.is; of_slot = slot_more old new decls query slot o.place k o.of_slot }

-- and the parts those of their head
pub head_more : (old new : Numbered) (decls : List TableDecl) (query : SourceQuery) (h : Head) (places : HeadPlaces) → KeepsNumbers old new → AreHeadPlaces old decls query h places → AreHeadPlaces new decls query h places
head_more old new decls query (head.Class name subject) places k a = (object_more old new decls query subject places.first k a.0, a.1)
head_more old new decls query (head.Role name from to) places k a = (object_more old new decls query from places.first k a.0, (a.1.0, a.1.1, object_more old new decls query to a.1.0 k a.1.2))
head_more old new decls query (head.Attr name from value) places k a = (object_more old new decls query from places.first k a.0, (a.1.0, a.1.1, value_part_more old new decls query value a.1.0 k a.1.2))

-- what a part reads it reads while terms and symbols come
pub part_reads_more : (old new : Numbered) (tables : List (List Row)) (choice : List ℕ) (p : Part) (t : Option Term) → KeepsNumbers old new → PartReads old tables choice p t → PartReads new tables choice p t
part_reads_more old new tables choice (part.Value place) t k r = (r.0, r.1, reads_more old.terms new.terms tables choice place r.0 k.terms r.2)
part_reads_more old new tables choice (part.Object symbol args) t k r =
    (r.0, r.1, get_front old.symbols new.symbols symbol r.0 k.symbols r.2, all_read_more old.terms new.terms tables choice args.items r.1 k.terms r.3, r.4)

-- what the second part reads
pub second_reads : (numbered : Numbered) (tables : List (List Row)) (choice : List ℕ) (o : Option Part) (p : Part) (first second : Option Term) → o ≡ Some p → SecondReads numbered tables choice o first second → PartReads numbered tables choice p second
second_reads numbered tables choice o p first second e r = subst (λ (k : Option Part). SecondReads numbered tables choice k first second) e r

-- a term without a number is missing
pub tells_none : (terms : List Term) (t : Option Term) → TellsTerm terms t None → t ≡ None
tells_none terms None h = refl
tells_none terms (Some x) h = absurd h

-- and the number of a term stays
pub tells_front : (old new : List Term) (t : Option Term) (number : Option ℕ) → IsFront old new → TellsTerm old t number → TellsTerm new t number
tells_front old new None None f h = tt
tells_front old new None (Some n) f h = absurd h
tells_front old new (Some x) None f h = absurd h
tells_front old new (Some x) (Some n) f h = get_front old new n x f h

zip_push : {X Y : Type 0} (R : X → Y → Type 0) (xs : List X) (ys : List Y) (x : X) (y : Y) → AllZip R xs ys → R x y → AllZip R (xs ++ x ∷ []) (ys ++ y ∷ [])
zip_push R [] [] x y z r = (r, tt)
zip_push R [] (b ∷ ys) x y z r = absurd z
zip_push R (a ∷ xs) [] x y z r = absurd z
zip_push R (a ∷ xs) (b ∷ ys) x y z r = (z.0, zip_push R xs ys x y z.1 r)

-- one more of two lists that go together
pub zip_more : {X Y : Type 0} (R : X → Y → Type 0) (xs : List X) (ys : List Y) (i : ℕ) (x : X) (y : Y) → i < length xs → x ≡ get_or xs i x → AllZip R (take i xs) ys → R x y → AllZip R (take (i + 1) xs) (ys ++ y ∷ [])
zip_more {X} R xs ys i x y lt is z r = subst (λ (l : List X). AllZip R l (ys ++ y ∷ [])) (sym (take_more xs i x lt)) (zip_push R (take i xs) ys (get_or xs i x) y z (subst (λ (k : X). R k y) is r))

module _ (decls : List TableDecl) (tables : List (List Row)) (query : SourceQuery) (choice : List ℕ) (is : IsChoice decls tables query choice) (fits : Fits decls tables) (few : length decls < 4294967296) where
  column_reads : (terms : List Term) (o : Option Meaning) (place : SlotPlace) → ((m : Meaning) → o ≡ Some m → IsOfEntry decls query.from m.entry m) → IsColumnPlace decls query.from o place → Reads terms tables choice place (cell_of (chosen decls tables query.from choice) o)
  column_reads terms None place of c = subst (λ (p : SlotPlace). Reads terms tables choice p None) (sym c) refl
  column_reads terms (Some m) place of c =
      let o = of m refl in
      let same : c.entry ≡ o.entry = same_Some c.entry o.entry (sym c.stands ∙ o.stands) in
      let there : table_number o.entry.table decls < length decls = place_within decls (table_number o.entry.table decls) o.table (table_at o.entry.table decls o.table o.named) in
      let long : length decls ≡ length tables = zip_length _ decls tables fits in
      let at : m.entry < length query.from = place_within query.from m.entry o.entry o.stands in
      let wide : length query.from ≡ length choice = zip_length _ query.from choice is in
      subst (λ (p : SlotPlace). Reads terms tables choice p (cell_of (chosen decls tables query.from choice) (Some m))) (sym (c.is ∙ ap (λ (e : FromEntry). slot_place.Cell m.entry (table_number e.table decls) (m.column + 1)) same)) (
        omega (arith, at, wide),
        record { few = omega (arith, there, few); there = omega (arith, there, long); place = cell_place decls tables query choice is m o fits },
        cell_is decls tables query choice is m o,
      )

  -- in the choice the place of a slot reads the slot's value
  slot_reads : (numbered : Numbered) (slot : Slot) (place : SlotPlace) → IsSlotPlace numbered decls query slot place → Reads numbered.terms tables choice place (slot_value decls query (chosen decls tables query.from choice) slot)
  slot_reads numbered (Output name) place s = column_reads numbered.terms (meaning_of_output decls query name) place (output_entry decls query name) s
  slot_reads numbered (Constant value) place s = subst (λ (p : SlotPlace). Reads numbered.terms tables choice p (Some value)) (sym s.1) (value, refl, s.2)

  slots_read : (numbered : Numbered) (slots : List Slot) (places : List SlotPlace) → AllZip (IsSlotPlace numbered decls query) slots places → ReadAll numbered.terms tables choice places (slot_values decls query (chosen decls tables query.from choice) slots)
  slots_read numbered [] [] z = refl
  slots_read numbered [] (p ∷ ps) z = absurd z
  slots_read numbered (x ∷ xs) [] z = absurd z
  slots_read numbered (x ∷ xs) (p ∷ ps) z =
      (slot_value decls query (chosen decls tables query.from choice) x, slot_values decls query (chosen decls tables query.from choice) xs, slot_reads numbered x p z.0, slots_read numbered xs ps z.1, refl)

  object_reads : (numbered : Numbered) (template : Template) (p : Part) (symbol : ℕ) (args : List SlotPlace) → IsObject symbol args p → slice_get numbered.symbols symbol ≡ Some template.symbol → AllZip (IsSlotPlace numbered decls query) template.args args
      → PartReads numbered tables choice p (object_of decls query (chosen decls tables query.from choice) template)
  object_reads numbered template (part.Value place) symbol args i n z = absurd i
  object_reads numbered template (part.Object s held) symbol args i n z = (
    template.symbol,
    slot_values decls query (chosen decls tables query.from choice) template.args,
    ap (slice_get numbered.symbols) i.0 ∙ n,
    subst (λ (ps : List SlotPlace). ReadAll numbered.terms tables choice ps (slot_values decls query (chosen decls tables query.from choice) template.args)) (sym i.1) (slots_read numbered template.args args z),
    refl,
  )

  -- the part of a template reads its object
  part_reads : (numbered : Numbered) (template : Template) (p : Part) → IsObjectPart numbered decls query template p → PartReads numbered tables choice p (object_of decls query (chosen decls tables query.from choice) template)
  part_reads numbered template p o = object_reads numbered template p o.symbol o.args o.is o.named o.slots

  value_reads : (numbered : Numbered) (slot : Slot) (p : Part) → IsValuePart numbered decls query slot p → PartReads numbered tables choice p (option_map (λ v. term.Value v) (slot_value decls query (chosen decls tables query.from choice) slot))
  value_reads numbered slot p o = subst (λ (k : Part). PartReads numbered tables choice k (option_map (λ v. term.Value v) (slot_value decls query (chosen decls tables query.from choice) slot))) (sym o.is)
      (slot_value decls query (chosen decls tables query.from choice) slot, refl, slot_reads numbered slot o.place o.of_slot)

  -- what is read of a head, and that its numbers are those of the fact
  pub record HeadRead (numbered : Numbered) (h : Head) (places : HeadPlaces) : Type 0 where
    pub first : Option Term
    pub second : Option Term
    pub reads : BothRead numbered tables choice places first second
    pub tells : (terms : List Term) (numbers : Option (ℕ × ℕ)) → TellsBoth terms first second numbers → TellsFact terms (fact_of decls query (chosen decls tables query.from choice) h) numbers

  class_told : (name : Name) (terms : List Term) (o : Option Term) (numbers : Option (ℕ × ℕ)) → TellsBoth terms o o numbers → TellsFact terms (option_map (λ t. InClass name t) o) numbers
  class_told name terms None None t = tt
  class_told name terms None (Some n) t = absurd t.0
  class_told name terms (Some x) None (inl e) = absurd (none-some x (sym e))
  class_told name terms (Some x) None (inr e) = absurd (none-some x (sym e))
  class_told name terms (Some x) (Some n) t = t.0

  role_told : (name : Name) (terms : List Term) (a b : Option Term) (numbers : Option (ℕ × ℕ)) → TellsBoth terms a b numbers → TellsFact terms (of_both (λ t u. InRole name t u) a b) numbers
  role_told name terms None b None t = tt
  role_told name terms None b (Some n) t = absurd t.0
  role_told name terms (Some x) None None t = tt
  role_told name terms (Some x) None (Some n) t = absurd t.1
  role_told name terms (Some x) (Some y) None (inl e) = absurd (none-some x (sym e))
  role_told name terms (Some x) (Some y) None (inr e) = absurd (none-some y (sym e))
  role_told name terms (Some x) (Some y) (Some n) t = t

  attr_told : (name : Name) (terms : List Term) (a : Option Term) (b : Option Value) (numbers : Option (ℕ × ℕ)) → TellsBoth terms a (option_map (λ v. term.Value v) b) numbers → TellsFact terms (of_both (λ t v. InAttr name t (term.Value v)) a b) numbers
  attr_told name terms None b None t = tt
  attr_told name terms None b (Some n) t = absurd t.0
  attr_told name terms (Some x) None None t = tt
  attr_told name terms (Some x) None (Some n) t = absurd t.1
  attr_told name terms (Some x) (Some y) None (inl e) = absurd (none-some x (sym e))
  attr_told name terms (Some x) (Some y) None (inr e) = absurd (none-some (term.Value y) (sym e))
  attr_told name terms (Some x) (Some y) (Some n) t = t

  pub head_read : (numbered : Numbered) (h : Head) (places : HeadPlaces) → AreHeadPlaces numbered decls query h places → HeadRead numbered h places
  head_read numbered (head.Class name subject) places a =
      let o = object_of decls query (chosen decls tables query.from choice) subject in
      record {
        first = o;
        second = o;
        reads = record { of_first = part_reads numbered subject places.first a.0; of_second = subst (λ (p : Option Part). SecondReads numbered tables choice p o o) (sym a.1) refl };
        tells = λ terms numbers t. class_told name terms o numbers t;
      }
  head_read numbered (head.Role name from to) places a =
      let o = object_of decls query (chosen decls tables query.from choice) from in
      let p = object_of decls query (chosen decls tables query.from choice) to in
      record {
        first = o;
        second = p;
        reads = record { of_first = part_reads numbered from places.first a.0; of_second = subst (λ (k : Option Part). SecondReads numbered tables choice k o p) (sym a.1.1) (part_reads numbered to a.1.0 a.1.2) };
        tells = λ terms numbers t. role_told name terms o p numbers t;
      }
  head_read numbered (head.Attr name from value) places a =
      let o = object_of decls query (chosen decls tables query.from choice) from in
      let v = slot_value decls query (chosen decls tables query.from choice) value in
      record {
        first = o;
        second = option_map (λ v. term.Value v) v;
        reads = record { of_first = part_reads numbered from places.first a.0; of_second = subst (λ (k : Option Part). SecondReads numbered tables choice k o (option_map (λ v. term.Value v) v)) (sym a.1.1) (value_reads numbered value a.1.0 a.1.2) };
        tells = λ terms numbers t. attr_told name terms o v numbers t;
      }
