-- Where the numbers of the terms of a head come from, and what they tell of its facts.
use Rattle.std.specs.Prelude.{◌≡◌, ℕ, ◌+◌, ◌⊎◌, List, slice_get, Option, Some, None}
use Rattle.std.specs.List.{AllZip}
use Rattle.mast_terms.specs.declared.term.Term.{Term}
use Rattle.mast_terms.specs.declared.term.Term.TheVariants as term
use Rattle.mast_cq.specs.Meanings.{Fact, InClass, InRole, InAttr}
use Rattle.mast_sql.specs.declared.query.FromEntry.{FromEntry}
use Rattle.mast_sql.specs.declared.query.SourceQuery.{SourceQuery}
use Rattle.mast_tables.specs.declared.declaration.TableDecl.{TableDecl}
use Rattle.mast_tables.specs.Rows.{Row}
use Rattle.mast_mapping.specs.Columns.{Meaning, meaning_of_output}
use Rattle.mast_mapping.specs.declared.map.Head.{Head}
use Rattle.mast_mapping.specs.declared.map.Head.TheVariants.{Class, Role, Attr}
use Rattle.mast_mapping.specs.declared.map.Slot.{Slot}
use Rattle.mast_mapping.specs.declared.map.Slot.TheVariants.{Output, Constant}
use Rattle.mast_mapping.specs.declared.map.Template.{Template}
use Rattle.mast_canon.specs.Choices.{table_number}
use Rattle.mast_numbers.specs.Numbered.{Numbered}
use Rattle.mast_join.specs.declared.values.HeadPlaces.{HeadPlaces}
use Rattle.mast_join.specs.declared.values.Part.{Part}
use Rattle.mast_join.specs.declared.values.Part.TheVariants as part
use Rattle.mast_join.specs.declared.values.SlotPlace.{SlotPlace}
use Rattle.mast_join.specs.declared.values.SlotPlace.TheVariants as slot_place
use Rattle.mast_join.specs.inside.Values.{PartReads, TellsTerm}

-- the place is the cell of what the column means
pub record IsCellPlace (decls : List TableDecl) (entries : List FromEntry) (m : Meaning) (place : SlotPlace) : Type 0 where
  pub entry : FromEntry
  pub stands : slice_get entries m.entry ≡ Some entry
  pub is : place ≡ slot_place.Cell m.entry (table_number entry.table decls) (m.column + 1)

-- the same, or nothing where the column means nothing
abbrev pub IsColumnPlace : List TableDecl → List FromEntry → Option Meaning → SlotPlace → Type 0
IsColumnPlace decls entries None place = place ≡ slot_place.Nothing
IsColumnPlace decls entries (Some m) place = IsCellPlace decls entries m place

-- the place is that of the slot
abbrev pub IsSlotPlace : Numbered → List TableDecl → SourceQuery → Slot → SlotPlace → Type 0
IsSlotPlace numbered decls query (Output name) place = IsColumnPlace decls query.from (meaning_of_output decls query name) place
IsSlotPlace numbered decls query (Constant value) place = (number : ℕ) × (place ≡ slot_place.Known number) × (slice_get numbered.terms number ≡ Some (term.Value value))

-- the part is an object of this symbol and these places
abbrev pub IsObject : ℕ → List SlotPlace → Part → Type 0
IsObject symbol args (part.Object s places) = (s ≡ symbol) × (places.items ≡ args)
IsObject symbol args (part.Value place) = ⊥

-- the part is that of the template
pub record IsObjectPart (numbered : Numbered) (decls : List TableDecl) (query : SourceQuery) (template : Template) (p : Part) : Type 0 where
  pub symbol : ℕ
  pub args : List SlotPlace
  pub is : IsObject symbol args p
  pub named : slice_get numbered.symbols symbol ≡ Some template.symbol
  pub slots : AllZip (IsSlotPlace numbered decls query) template.args args

-- the part is that of a slot for a value
pub record IsValuePart (numbered : Numbered) (decls : List TableDecl) (query : SourceQuery) (slot : Slot) (p : Part) : Type 0 where
  pub place : SlotPlace
  pub is : p ≡ part.Value place
  pub of_slot : IsSlotPlace numbered decls query slot place

-- there is such a second part
abbrev pub HasSecond : (Part → Type 0) → HeadPlaces → Type 0
HasSecond P places = (p : Part) × (places.second ≡ Some p) × P p

-- the parts are those of the head
abbrev pub AreHeadPlaces : Numbered → List TableDecl → SourceQuery → Head → HeadPlaces → Type 0
AreHeadPlaces numbered decls query (Class name subject) places = IsObjectPart numbered decls query subject places.first × (places.second ≡ None)
AreHeadPlaces numbered decls query (Role name from to) places =
    IsObjectPart numbered decls query from places.first × HasSecond (IsObjectPart numbered decls query to) places
AreHeadPlaces numbered decls query (Attr name from value) places =
    IsObjectPart numbered decls query from places.first × HasSecond (IsValuePart numbered decls query value) places

-- what the second part reads; a class has the first term twice
abbrev pub SecondReads : Numbered → List (List Row) → List ℕ → Option Part → Option Term → Option Term → Type 0
SecondReads numbered tables choice None first second = second ≡ first
SecondReads numbered tables choice (Some p) first second = PartReads numbered tables choice p second

-- what both parts read
pub record BothRead (numbered : Numbered) (tables : List (List Row)) (choice : List ℕ) (places : HeadPlaces) (first second : Option Term) : Type 0 where
  pub of_first : PartReads numbered tables choice places.first first
  pub of_second : SecondReads numbered tables choice places.second first second

-- both can be read
abbrev pub CanReadBoth : Numbered → List (List Row) → List ℕ → HeadPlaces → Type 0
CanReadBoth numbered tables choice places = (first : Option Term) × (second : Option Term) × BothRead numbered tables choice places first second

-- the numbers are those of both terms, and there are none where one is missing
abbrev pub TellsBoth : List Term → Option Term → Option Term → Option (ℕ × ℕ) → Type 0
TellsBoth terms first second None = (first ≡ None) ⊎ (second ≡ None)
TellsBoth terms first second (Some numbers) = TellsTerm terms first (Some numbers.0) × TellsTerm terms second (Some numbers.1)

-- the numbers are those of the fact's terms
abbrev pub HasNumbers : List Term → Fact Term → ℕ → ℕ → Type 0
HasNumbers terms (InClass a t) first second = slice_get terms first ≡ Some t
HasNumbers terms (InRole a t u) first second = (slice_get terms first ≡ Some t) × (slice_get terms second ≡ Some u)
HasNumbers terms (InAttr a t u) first second = (slice_get terms first ≡ Some t) × (slice_get terms second ≡ Some u)

-- the numbers are those of the fact, and there are none where there is no fact
abbrev pub TellsFact : List Term → Option (Fact Term) → Option (ℕ × ℕ) → Type 0
TellsFact terms None None = Unit {0}
TellsFact terms None (Some numbers) = ⊥
TellsFact terms (Some fact) None = ⊥
TellsFact terms (Some fact) (Some numbers) = HasNumbers terms fact numbers.0 numbers.1
