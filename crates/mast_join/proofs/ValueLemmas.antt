-- The numbers of values of tables: what is noted of them, and what is read in a choice.
use Rattle.std.proofs.Common.{◌≡◌, ℕ, zero, suc, ◌+◌, ◌*◌, ◌<◌, Bool, true, false, if◌then◌else◌, inl, inr, List, [], ◌∷◌, ◌++◌, length, map, drop, get_or, slice_get, refl, sym, ap, subst, ◌∙◌, arith}
use Rattle.std.specs.Prelude.{Option, Some, None, Vec, nat_eq, option_and_then}
use Rattle.std.specs.declared.alloc.Global.{Global}
use Rattle.std.specs.List.{AllByRecursion}
use Rattle.std.specs.Option.{option_map}
use Rattle.std.proofs.lemmas.Bool.{eqb-true}
use Rattle.std.proofs.lemmas.List.{append-nil, append_assoc, map-append}
use Rattle.std.proofs.lemmas.Option.{get_or_from_slice_get, none-some, same_Some, slice_get_read}
use Rattle.mast_terms.specs.declared.term.Term.{Term}
use Rattle.mast_terms.specs.declared.term.Term.TheVariants as term
use Rattle.mast_terms.specs.declared.value.Value.{Value}
use Rattle.mast_terms.specs.declared.value.Value.TheVariants as value
use Rattle.mast_terms.proofs.PlaceLemmas.{slice_get-position}
use Rattle.mast_terms.proofs.SameLemmas.{value_same}
use Rattle.mast_tables.specs.Rows.{Row, cells_of, number_of}
use Rattle.mast_tables.specs.Values.{different, same}
use Rattle.mast_canon.specs.Facts.{of_both}
use Rattle.mast_numbers.specs.Numbered.{IsJoined, IsValueAt, Numbered, object_of, value_at, value_of}
use Rattle.mast_join.specs.declared.values.Cell.{Cell}
use Rattle.mast_join.specs.declared.values.Part.{Part}
use Rattle.mast_join.specs.declared.values.Part.TheVariants as part
use Rattle.mast_join.specs.declared.values.SlotPlace.{SlotPlace}
use Rattle.mast_join.specs.declared.values.SlotPlace.TheVariants as slot_place
use Rattle.mast_join.specs.declared.values.Values.{Values}
use Rattle.mast_join.specs.inside.Values.{AreNoted, CanRead, HasNumber, IsFront, KeepsNumbers, HasReadTo, PartReads, ReadAll, Reads, TellsTerm, TellsValue, TellsValues, cell_value, key_of, noted}

-- a list is a front of itself
pub front_refl : {X : Type 0} (xs : List X) → IsFront xs xs
front_refl xs = ([], sym (append-nil xs))

-- fronts of fronts
pub front_twice : {X : Type 0} (a b c : List X) → IsFront a b → IsFront b c → IsFront a c
front_twice a b c f g = (f.0 ++ g.0, g.1 ∙ ap (λ l. l ++ g.0) f.1 ∙ append_assoc a f.0 g.0)

-- what joins a list has it as its front
pub front_joined : {X : Type 0} (before after : List X) (x : X) → IsJoined before after x → IsFront before after
front_joined before after x (inl e) = ([], e ∙ sym (append-nil before))
front_joined before after x (inr e) = (x ∷ [], e)

-- what stands in a front stands in the list
pub get_front : {X : Type 0} (a b : List X) (i : ℕ) (x : X) → IsFront a b → slice_get a i ≡ Some x → slice_get b i ≡ Some x
get_front {X} a b i x f h = ap (λ (l : List X). slice_get l i) f.1 ∙ more a f.0 i h
  where
    more : (a m : List X) (i : ℕ) → slice_get a i ≡ Some x → slice_get (a ++ m) i ≡ Some x
    more [] m i h = absurd (cc)
    more (y ∷ ys) m zero h = h
    more (y ∷ ys) m (suc i) h = more ys m i h

-- numbers that keep theirs, and again
pub keeps_refl : (n : Numbered) → KeepsNumbers n n
keeps_refl n = record { terms = front_refl n.terms; symbols = front_refl n.symbols }

-- numbers that keep theirs, and again
pub keeps_twice : (a b c : Numbered) → KeepsNumbers a b → KeepsNumbers b c → KeepsNumbers a c
keeps_twice a b c f g = record { terms = front_twice a.terms b.terms c.terms f.terms g.terms; symbols = front_twice a.symbols b.symbols c.symbols f.symbols g.symbols }

-- the number of a value leads to it
different_at : (rows : List Row) (value : Value) (number : ℕ) → number_of rows value ≡ Some number → slice_get (different (cells_of rows)) number ≡ Some value
different_at rows value number h = slice_get-position (same value) (different (cells_of rows)) number value (λ y e. sym (value_same value y e)) h

-- a cell whose value has a number
pub record IsNumbered (rows : List Row) (cell : Option Value) (number : ℕ) : Type 0 where
  pub value : Value
  pub is : cell ≡ Some value
  pub at : slice_get (different (cells_of rows)) number ≡ Some value

cell_numbered : (rows : List Row) (cell : Option Value) (number : ℕ) → option_and_then (number_of rows) cell ≡ Some number → IsNumbered rows cell number
cell_numbered rows None number e = absurd (none-some number e)
cell_numbered rows (Some value) number e = record { value = value; is = refl; at = different_at rows value number e }

module _ (tables : List (List Row)) (cell : Cell) (number : ℕ) (is : HasNumber tables cell number) where
  numbered_cell : IsNumbered (get_or tables cell.table []) (cell_value tables cell) number
  numbered_cell = cell_numbered (get_or tables cell.table []) (cell_value tables cell) number is

  -- what is noted is the number of the cell's value
  pub tells_noted : (terms : List Term) (values : Values) (key made : ℕ) → number < 4294967296 → AreNoted terms tables values → key ≡ key_of cell.table number → noted values key ≡ Some made
      → TellsValue terms (cell_value tables cell) (Some made)
  tells_noted terms values key made lt h k e =
      let n = numbered_cell in
      subst (λ (o : Option Value). TellsValue terms o (Some made)) (sym n.is) (h cell.table number made n.value lt (ap (noted values) (sym k) ∙ e) n.at)

  -- and stays so when the number of this cell's value is noted
  pub noted_more : (old new : List Term) (before after : Values) (key made : ℕ) (value : Value) → number < 4294967296 → AreNoted old tables before → IsFront old new → key ≡ key_of cell.table number
      → cell_value tables cell ≡ Some value → slice_get new made ≡ Some (term.Value value) → ((k : ℕ) → noted after k ≡ (if nat_eq key k then Some made else noted before k)) → AreNoted new tables after
  noted_more old new before after key made value lt h f k c m a table n other w l e d = by (nat_eq key (key_of table n)) refl
    where
      by : (b : Bool) → nat_eq key (key_of table n) ≡ b → slice_get new other ≡ Some (term.Value w)
      by true q =
          let v = numbered_cell in
          let same : cell.table * 4294967296 + number ≡ table * 4294967296 + n = sym k ∙ eqb-true key (key_of table n) q in
          let st : cell.table ≡ table = omega (arith, same, lt, l) in
          let sn : number ≡ n = omega (arith, same, lt, l) in
          let sm : made ≡ other = same_Some made other (sym (a (key_of table n) ∙ ap (λ (b : Bool). if b then Some made else noted before (key_of table n)) q) ∙ e) in
          let at : slice_get (different (cells_of (get_or tables table []))) n ≡ Some v.value = subst (λ (t : ℕ). slice_get (different (cells_of (get_or tables t []))) n ≡ Some v.value) st (subst (λ (i : ℕ). slice_get (different (cells_of (get_or tables cell.table []))) i ≡ Some v.value) sn v.at) in
          let sv : value ≡ w = same_Some value w (sym c ∙ v.is ∙ sym at ∙ d) in
          ap (slice_get new) (sym sm) ∙ m ∙ ap (λ (x : Value). Some (term.Value x)) sv
      by false q = get_front old new other (term.Value w) f
          (h table n other w l (sym (a (key_of table n) ∙ ap (λ (b : Bool). if b then Some made else noted before (key_of table n)) q) ∙ e) d)

-- what is noted stays so while terms come
pub noted_front : (tables : List (List Row)) (old new : List Term) (before after : Values) → AreNoted old tables before → IsFront old new → ((k : ℕ) → noted after k ≡ noted before k) → AreNoted new tables after
noted_front tables old new before after h f a table n made v l e d = get_front old new made (term.Value v) f (h table n made v l (sym (a (key_of table n)) ∙ e) d)

-- what stands at a place of a list, by the list as it was lent
pub lent_at : {X : Type 0} (list lent : List X) (i : ℕ) (x d : X) → lent ≡ list → i < length list → x ≡ get_or lent i x → get_or list i d ≡ x
lent_at {X} list lent i x d e l is =
    get_or_from_slice_get list i x d (slice_get_read list (length list) i x refl l (is ∙ ap (λ (k : List X). get_or k i x) e))

-- what is read stays so while terms come
pub reads_more : (old new : List Term) (tables : List (List Row)) (choice : List ℕ) (place : SlotPlace) (value : Option Value) → IsFront old new → Reads old tables choice place value → Reads new tables choice place value
reads_more old new tables choice slot_place.Nothing value f r = r
reads_more old new tables choice (slot_place.Known number) value f r = (r.0, r.1, get_front old new number (term.Value r.0) f r.2)
reads_more old new tables choice (slot_place.Cell entry table column) value f r = r

-- all that is read stays so while terms come
pub all_read_more : (old new : List Term) (tables : List (List Row)) (choice : List ℕ) (places : List SlotPlace) (values : Option (List Value)) → IsFront old new → ReadAll old tables choice places values → ReadAll new tables choice places values
all_read_more old new tables choice [] values f r = r
all_read_more old new tables choice (p ∷ ps) values f r = (r.0, r.1, reads_more old new tables choice p r.0 f r.2, all_read_more old new tables choice ps r.1 f r.3, r.4)

-- numbers of values stay so
pub numbers_front : (old new : List Term) (numbers : List ℕ) (values : List Value) → IsFront old new → map (slice_get old) numbers ≡ map (λ v. Some (term.Value v)) values → map (slice_get new) numbers ≡ map (λ v. Some (term.Value v)) values
numbers_front old new [] values f e = e
numbers_front old new (n ∷ ns) [] f e = absurd (cc)
numbers_front old new (n ∷ ns) (v ∷ vs) f e =
    let first : slice_get old n ≡ Some (term.Value v) = cc in
    let rest : map (slice_get old) ns ≡ map (λ v. Some (term.Value v)) vs = cc in
    let a = get_front old new n (term.Value v) f first in
    let b = numbers_front old new ns vs f rest in
    rw (a, b) refl

-- each of them is that of a value
pub numbers_values : (terms : List Term) (numbers : List ℕ) (values : List Value) → map (slice_get terms) numbers ≡ map (λ v. Some (term.Value v)) values → AllByRecursion (IsValueAt terms) numbers
numbers_values terms [] values e = tt
numbers_values terms (n ∷ ns) [] e = absurd (cc)
numbers_values terms (n ∷ ns) (v ∷ vs) e =
    let first : slice_get terms n ≡ Some (term.Value v) = cc in
    let rest : map (slice_get terms) ns ≡ map (λ v. Some (term.Value v)) vs = cc in
    ((v, first), numbers_values terms ns vs rest)

none_both : (v : Option Value) (ws : Option (List Value)) → v ≡ None → of_both (λ x xs. x ∷ xs) v ws ≡ None
none_both v ws e = ap (λ (k : Option Value). of_both (λ x xs. x ∷ xs) k ws) e

front_both : (front : List Value) (v : Value) (o : Option Value) (ws : Option (List Value)) → o ≡ Some v → option_map (λ vs. front ++ vs) (of_both (λ x xs. x ∷ xs) o ws) ≡ option_map (λ vs. (front ++ v ∷ []) ++ vs) ws
front_both front v o None e = ap (λ (k : Option Value). option_map (λ vs. front ++ vs) (of_both (λ x xs. x ∷ xs) k None)) e
front_both front v o (Some ws) e = ap (λ (k : Option Value). option_map (λ vs. front ++ vs) (of_both (λ x xs. x ∷ xs) k (Some ws))) e ∙ ap (λ (k : List Value). Some k) (sym (append_assoc front (v ∷ []) ws))

module _ (terms : List Term) (tables : List (List Row)) (choice : List ℕ) where
  -- at first nothing is read
  pub read_first : (places : List SlotPlace) (values : Option (List Value)) → ReadAll terms tables choice places values → HasReadTo terms tables choice places [] values
  read_first places values r = record { front = []; back = values; at = refl; is = same values; left = r }
    where
      same : (o : Option (List Value)) → o ≡ option_map (λ vs. [] ++ vs) o
      same None = refl
      same (Some vs) = refl

  -- the next place can be read
  pub can_read_next : (places : List SlotPlace) (i : ℕ) (place : SlotPlace) (numbers : List ℕ) (values : Option (List Value)) → drop i places ≡ place ∷ drop (i + 1) places
      → HasReadTo terms tables choice (drop i places) numbers values → CanRead terms tables choice place
  can_read_next places i place numbers values d h =
      let l = subst (λ (ps : List SlotPlace). ReadAll terms tables choice ps h.back) d h.left in
      (l.0, l.2)

  module _ (new : List Term) (f : IsFront terms new) (places : List SlotPlace) (i : ℕ) (place : SlotPlace) (d : drop i places ≡ place ∷ drop (i + 1) places) (number : Option ℕ)
      (told : (value : Option Value) → Reads terms tables choice place value → TellsValue new value number) where
    value_of_none : (v : Option Value) → number ≡ None → TellsValue new v number → v ≡ None
    value_of_none None n t = refl
    value_of_none (Some v) n t = absurd (subst (λ (k : Option ℕ). TellsValue new (Some v) k) n t)

    -- where it gives no value there are no values
    pub read_none : (numbers : List ℕ) (values : Option (List Value)) → number ≡ None → HasReadTo terms tables choice (drop i places) numbers values → values ≡ None
    read_none numbers values n h =
        let l = subst (λ (ps : List SlotPlace). ReadAll terms tables choice ps h.back) d h.left in
        let e = value_of_none l.0 n (told l.0 l.2) in
        h.is ∙ ap (λ (k : Option (List Value)). option_map (λ vs. h.front ++ vs) k) (l.4 ∙ none_both l.0 l.1 e)

    -- else it is one more
    pub read_more : (numbers : List ℕ) (n : ℕ) (values : Option (List Value)) → number ≡ Some n → HasReadTo terms tables choice (drop i places) numbers values → HasReadTo new tables choice (drop (i + 1) places) (numbers ++ n ∷ []) values
    read_more numbers n values e h =
        let l = subst (λ (ps : List SlotPlace). ReadAll terms tables choice ps h.back) d h.left in
        more l.0 l.1 refl (subst (λ (k : Option ℕ). TellsValue new l.0 k) e (told l.0 l.2)) l.3 l.4
      where
        more : (v : Option Value) (ws : Option (List Value)) → v ≡ v → TellsValue new v (Some n) → ReadAll terms tables choice (drop (i + 1) places) ws → h.back ≡ of_both (λ x xs. x ∷ xs) v ws
            → HasReadTo new tables choice (drop (i + 1) places) (numbers ++ n ∷ []) values
        more None ws q t r b = absurd t
        more (Some v) ws q t r b = record {
          front = h.front ++ v ∷ [];
          back = ws;
          at = map-append (slice_get new) numbers (n ∷ []) ∙ ap (λ (k : List (Option Term)). k ++ slice_get new n ∷ []) (numbers_front terms new numbers h.front f h.at)
              ∙ ap (λ (k : Option Term). map (λ v. Some (term.Value v)) h.front ++ k ∷ []) t ∙ sym (map-append (λ (v : Value). Some (term.Value v)) h.front (v ∷ []));
          is = h.is ∙ ap (λ (k : Option (List Value)). option_map (λ vs. h.front ++ vs) k) b ∙ front_both h.front v (Some v) ws refl;
          left = all_read_more terms new tables choice (drop (i + 1) places) ws f r;
        }

  -- at the end the numbers are those of the values
  pub read_end : (places : List SlotPlace) (i : ℕ) (numbers : List ℕ) (values : Option (List Value)) → drop i places ≡ [] → HasReadTo terms tables choice (drop i places) numbers values → TellsValues terms values (Some numbers)
  read_end places i numbers values d h =
      let l : h.back ≡ Some [] = subst (λ (ps : List SlotPlace). ReadAll terms tables choice ps h.back) d h.left in
      let is : values ≡ Some h.front = h.is ∙ ap (λ (k : Option (List Value)). option_map (λ vs. h.front ++ vs) k) l ∙ ap (λ (k : List Value). Some k) (append-nil h.front) in
      subst (λ (o : Option (List Value)). TellsValues terms o (Some numbers)) (sym is) h.at

-- the value of a number
value_at_is : (terms : List Term) (n : ℕ) (v : Value) → slice_get terms n ≡ Some (term.Value v) → value_at terms n ≡ v
value_at_is terms n v e = ap value_of (get_or_from_slice_get terms n (term.Value v) (term.Value (value.Text [])) e)

values_at : (terms : List Term) (numbers : List ℕ) (vs : List Value) → map (slice_get terms) numbers ≡ map (λ v. Some (term.Value v)) vs → map (value_at terms) numbers ≡ vs
values_at terms [] [] e = refl
values_at terms [] (v ∷ vs) e = absurd (cc)
values_at terms (n ∷ ns) [] e = absurd (cc)
values_at terms (n ∷ ns) (v ∷ vs) e =
    let first : slice_get terms n ≡ Some (term.Value v) = cc in
    let rest : map (slice_get terms) ns ≡ map (λ v. Some (term.Value v)) vs = cc in
    let a = value_at_is terms n v first in
    let b = values_at terms ns vs rest in
    rw (a, b) refl

-- the number of the object of these numbers is that of what the part reads
pub object_told : (old mid : Numbered) (new : List Term) (tables : List (List Row)) (choice : List ℕ) (p : Part) (symbol : ℕ) (args : Vec SlotPlace Global) (numbers given : List ℕ) (number : ℕ) → KeepsNumbers old mid
    → p ≡ part.Object symbol args → ((vs : Option (List Value)) → ReadAll old.terms tables choice args.items vs → TellsValues mid.terms vs (Some numbers)) → given ≡ numbers
    → slice_get new number ≡ Some (term.Object (object_of mid symbol given)) → (t : Option Term) → PartReads old tables choice p t → TellsTerm new t (Some number)
object_told old mid new tables choice p symbol args numbers given number k e told g at t r =
    let q = subst (λ (x : Part). PartReads old tables choice x t) e r in
    by q.0 q.1 q.2 (told q.1 q.3) q.4
  where
    by : (s : List ℕ) (vs : Option (List Value)) → slice_get old.symbols symbol ≡ Some s → TellsValues mid.terms vs (Some numbers) → t ≡ option_map (λ values. term.Object (record { symbol = s; args = values })) vs → TellsTerm new t (Some number)
    by s None n h is = absurd h
    by s (Some vs) n h is =
        let named : get_or mid.symbols symbol [] ≡ s = get_or_from_slice_get mid.symbols symbol s [] (get_front old.symbols mid.symbols symbol s k.symbols n) in
        let are : map (value_at mid.terms) given ≡ vs = ap (map (value_at mid.terms)) g ∙ values_at mid.terms numbers vs h in
        subst (λ (o : Option Term). TellsTerm new o (Some number)) (sym is)
        (at ∙ ap (λ (x : List ℕ). Some (term.Object (record { symbol = x; args = map (value_at mid.terms) given }))) named ∙ ap (λ (x : List Value). Some (term.Object (record { symbol = s; args = x }))) are)
