-- How values are noted of columns, and spread to those that must equal them.
use Rattle.std.specs.Prelude.{◌≡◌, ℕ, ◌<◌, List, [], ◌∷◌, ◌++◌, map, slice_get, length, if◌then◌else◌, Option, Some, None}
use Rattle.std.specs.List.{AllByRecursion}
use Rattle.std.specs.Map.{lookup}
use Rattle.indexmap.specs.IndexMap.{IndexMap}
use Rattle.std.specs.Borrow.{Bor}
use Rattle.mast_terms.specs.declared.value.Value.{Value}
use Rattle.mast_terms.specs.Vocabularies.{same_value}
use Rattle.mast_tables.specs.Whole.{value_kind}
use Rattle.mast_cq.specs.Queries.{In}
use Rattle.mast_unfold.specs.declared.columns.Place.{Place}
use Rattle.mast_unfold.specs.declared.groups.Groups.{Groups}
use Rattle.mast_unfold.specs.inside.Equations.{same_place}
use Rattle.mast_unfold.specs.inside.Lookups.{found}

-- the notes that a map holds
abbrev pub entries : {S : Type 0} → IndexMap Place (Bor Value) S → List (Place × Value)
entries known = map (λ (e : Place × Bor Value). (e.0, e.1.now)) known.entries

-- the value that is noted of a place
abbrev pub value_at : Place → List (Place × Value) → Option Value
value_at place notes = lookup (same_place place) notes

-- a value after another was noted of the place, or none was: none where the two differ
abbrev pub noted_by : Option Value → Place × Value → List (Place × Value) → Option (List (Place × Value))
noted_by None n notes = Some (notes ++ n ∷ [])
noted_by (Some other) n notes = if same_value other n.1 then Some notes else None

-- the notes after one more
abbrev pub noted : Place × Value → List (Place × Value) → Option (List (Place × Value))
noted n notes = noted_by (value_at n.0 notes) n notes

-- what comes of notes, if there are any
abbrev pub and_then : Option (List (Place × Value)) → (List (Place × Value) → Option (List (Place × Value))) → Option (List (Place × Value))
and_then None f = None
and_then (Some notes) f = f notes

-- the notes after each of these
abbrev pub all_noted : List (Place × Value) → List (Place × Value) → Option (List (Place × Value))
all_noted [] notes = Some notes
all_noted (n ∷ ns) notes = and_then (noted n notes) (all_noted ns)

-- the columns that are linked to one have its value
abbrev pub Agrees : (Place → List Place) → (Place → Value) → Type 0
Agrees next f = (p q : Place) → In q (next p) → f p ≡ f q

-- the value is that of the place
abbrev pub IsValue : (Place → Value) → Place × Value → Type 0
IsValue f n = f n.0 ≡ n.1

-- the values have the kinds of their places
abbrev pub HasKind : Place × Value → Type 0
HasKind n = value_kind n.1 ≡ n.0.kind

-- links are between columns of one kind
abbrev pub KeepKinds : (Place → List Place) → Type 0
KeepKinds next = (p q : Place) → In q (next p) → p.kind ≡ q.kind

-- notes that began with others: what the first ones say holds of all, and of the first `done` the linked columns have the value too
pub record Spreads (next : Place → List Place) (start notes : List (Place × Value)) (done : ℕ) : Type 0 where
  pub more : List (Place × Value)
  pub begins : notes ≡ start ++ more
  pub forced : (f : Place → Value) → Agrees next f → AllByRecursion (IsValue f) start → AllByRecursion (IsValue f) notes
  pub kinds : KeepKinds next → AllByRecursion HasKind start → AllByRecursion HasKind notes
  pub closed : (j : ℕ) (n : Place × Value) (q : Place) → j < done → slice_get notes j ≡ Some n → In q (next n.0) → value_at q notes ≡ Some n.1

-- no values agree with the notes
abbrev pub IsRefuted : (Place → List Place) → List (Place × Value) → Type 0
IsRefuted next start = (f : Place → Value) → Agrees next f → AllByRecursion (IsValue f) start → ⊥

-- the linked columns
abbrev pub next_in : Groups Place Place → Place → List Place
next_in links = found same_place links

-- all that follows was noted
abbrev pub IsSpread : Groups Place Place → List (Place × Value) → List (Place × Value) → Type 0
IsSpread links start notes = Spreads (next_in links) start notes (length notes)

-- two values met in one column
abbrev pub CannotSpread : Groups Place Place → List (Place × Value) → Type 0
CannotSpread links start = IsRefuted (next_in links) start
