-- The numbers of values of tables, where the number of a slot comes from, and what it is in a choice.
use Rattle.std.specs.Prelude.{◌≡◌, ℕ, ◌+◌, ◌*◌, ◌<◌, nat_eq, List, [], ◌∷◌, ◌++◌, length, map, get_or, slice_get, Option, Some, None, Vec}
use Rattle.std.specs.List.{AllByRecursion}
use Rattle.std.specs.Option.{option_map}
use Rattle.indexmap.specs.IndexMap.{get}
use Rattle.mast_terms.specs.declared.term.Term.{Term}
use Rattle.mast_terms.specs.declared.term.Term.TheVariants as term
use Rattle.mast_terms.specs.declared.value.Value.{Value}
use Rattle.mast_tables.specs.Rows.{IsPlace, Row, cell_at, cells_of, number_at}
use Rattle.mast_tables.specs.Values.{different}
use Rattle.mast_canon.specs.Facts.{of_both}
use Rattle.mast_numbers.specs.Numbered.{IsValueAt, Numbered}
use Rattle.mast_join.specs.declared.values.Cell.{Cell}
use Rattle.mast_join.specs.declared.values.Part.{Part}
use Rattle.mast_join.specs.declared.values.Part.TheVariants as part
use Rattle.mast_join.specs.declared.values.SlotPlace.{SlotPlace}
use Rattle.mast_join.specs.declared.values.SlotPlace.TheVariants as slot_place
use Rattle.mast_join.specs.declared.values.Values.{Values}

-- the new list is the old one, with more behind it
abbrev pub IsFront : {X : Type 0} → List X → List X → Type 0
IsFront {X} old new = (more : List X) × (new ≡ old ++ more)

-- each term and each symbol keeps the number that it had
pub record KeepsNumbers (old new : Numbered) : Type 0 where
  pub terms : IsFront old.terms new.terms
  pub symbols : IsFront old.symbols new.symbols

-- what stands for the value of a table that has this number there
abbrev pub key_of : ℕ → ℕ → ℕ
key_of table number = table * 4294967296 + number

-- the number that is noted under a key
abbrev pub noted : Values → ℕ → Option ℕ
noted values key = get nat_eq values.known key

-- what is noted under the key of a value is the number of its term
abbrev pub AreNoted : List Term → List (List Row) → Values → Type 0
AreNoted terms tables values = (table number made : ℕ) (value : Value) → number < 4294967296 → noted values (key_of table number) ≡ Some made
    → slice_get (different (cells_of (get_or tables table []))) number ≡ Some value → slice_get terms made ≡ Some (term.Value value)

-- the value of a cell
abbrev pub cell_value : List (List Row) → Cell → Option Value
cell_value tables cell = cell_at (get_or tables cell.table []) cell.row cell.column

-- the table gives the value of the cell this number
abbrev pub HasNumber : List (List Row) → Cell → ℕ → Type 0
HasNumber tables cell number = number_at (get_or tables cell.table []) cell.row cell.column ≡ Some number

-- the number is that of the term, and there is none where there is no term
abbrev pub TellsTerm : List Term → Option Term → Option ℕ → Type 0
TellsTerm terms None None = Unit {0}
TellsTerm terms None (Some number) = ⊥
TellsTerm terms (Some t) None = ⊥
TellsTerm terms (Some t) (Some number) = slice_get terms number ≡ Some t

-- the same of a value
abbrev pub TellsValue : List Term → Option Value → Option ℕ → Type 0
TellsValue terms value number = TellsTerm terms (option_map (λ v. term.Value v) value) number

-- the numbers are those of the values, and there are none where there are no values
abbrev pub TellsValues : List Term → Option (List Value) → Option (List ℕ) → Type 0
TellsValues terms None None = Unit {0}
TellsValues terms None (Some numbers) = ⊥
TellsValues terms (Some vs) None = ⊥
TellsValues terms (Some vs) (Some numbers) = map (slice_get terms) numbers ≡ map (λ v. Some (term.Value v)) vs

-- the numbers that are there are those of values
abbrev pub AreValues : List Term → Option (List ℕ) → Type 0
AreValues terms None = Unit {0}
AreValues terms (Some numbers) = AllByRecursion (IsValueAt terms) numbers

-- what a vector has, where there is one
abbrev pub listed : {A : Type 0} → Option (Vec ℕ A) → Option (List ℕ)
listed o = option_map (λ v. v.items) o

-- the row and the column of a table
pub record IsCell (tables : List (List Row)) (table row column : ℕ) : Type 0 where
  pub few : table < 4294967296
  pub there : table < length tables
  pub place : IsPlace (get_or tables table []) row column

-- in the choice the place gives this value, or none
abbrev pub Reads : List Term → List (List Row) → List ℕ → SlotPlace → Option Value → Type 0
Reads terms tables choice slot_place.Nothing value = value ≡ None
Reads terms tables choice (slot_place.Known number) value = (v : Value) × (value ≡ Some v) × (slice_get terms number ≡ Some (term.Value v))
Reads terms tables choice (slot_place.Cell entry table column) value = (entry < length choice) × IsCell tables table (get_or choice entry 0) column
    × (value ≡ cell_at (get_or tables table []) (get_or choice entry 0) column)

-- in the choice the places give these values, or one of them gives none
abbrev pub ReadAll : List Term → List (List Row) → List ℕ → List SlotPlace → Option (List Value) → Type 0
ReadAll terms tables choice [] values = values ≡ Some []
ReadAll terms tables choice (place ∷ places) values = (v : Option Value) × (vs : Option (List Value)) × Reads terms tables choice place v
    × ReadAll terms tables choice places vs × (values ≡ of_both (λ x xs. x ∷ xs) v vs)

-- in the choice the place can be read
abbrev pub CanRead : List Term → List (List Row) → List ℕ → SlotPlace → Type 0
CanRead terms tables choice place = (value : Option Value) × Reads terms tables choice place value

-- each of the places can
abbrev pub AllRead : List Term → List (List Row) → List ℕ → List SlotPlace → Type 0
AllRead terms tables choice places = (values : Option (List Value)) × ReadAll terms tables choice places values

-- in the choice the part gives this term, or none
abbrev pub PartReads : Numbered → List (List Row) → List ℕ → Part → Option Term → Type 0
PartReads numbered tables choice (part.Value place) t = (v : Option Value) × (t ≡ option_map (λ value. term.Value value) v) × Reads numbered.terms tables choice place v
PartReads numbered tables choice (part.Object symbol args) t = (s : List ℕ) × (vs : Option (List Value)) × (slice_get numbered.symbols symbol ≡ Some s)
    × ReadAll numbered.terms tables choice args.items vs × (t ≡ option_map (λ values. term.Object (record { symbol = s; args = values })) vs)

-- in the choice the part can be read
abbrev pub CanReadPart : Numbered → List (List Row) → List ℕ → Part → Type 0
CanReadPart numbered tables choice part = (t : Option Term) × PartReads numbered tables choice part t

-- the numbers are those of the values so far, and these places are left
pub record HasReadTo (terms : List Term) (tables : List (List Row)) (choice : List ℕ) (places : List SlotPlace) (numbers : List ℕ) (values : Option (List Value)) : Type 0 where
  pub front : List Value
  pub back : Option (List Value)
  pub at : map (slice_get terms) numbers ≡ map (λ v. Some (term.Value v)) front
  pub is : values ≡ option_map (λ vs. front ++ vs) back
  pub left : ReadAll terms tables choice places back
