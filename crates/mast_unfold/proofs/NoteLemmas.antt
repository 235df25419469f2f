-- Maps from places to lent values, seen as notes.
use Rattle.std.proofs.Common.{◌≡◌, ◌≤◌, ℕ, zero, suc, Bool, true, false, List, [], ◌∷◌, ◌++◌, map, length, slice_get, refl, ap, arith}
use Rattle.std.specs.Prelude.{Some, None, if◌then◌else◌}
use Rattle.std.specs.Option.{option_map}
use Rattle.std.specs.Map.{lookup}
use Rattle.std.specs.Borrow.{Bor}
use Rattle.std.proofs.lemmas.Option.{none-some, same_Some}
use Rattle.std.proofs.lemmas.List.{map-append}
use Rattle.mast_terms.specs.declared.value.Value.{Value}
use Rattle.mast_cq.proofs.ListLemmas.{map_length}
use Rattle.mast_tbox.proofs.WorkLemmas.{past_end}
use Rattle.mast_unfold.specs.declared.columns.Place.{Place}

-- a pair of a place and a lent value
abbrev pub Lent : Type 0
Lent = Place × Bor Value

-- the note of a pair
abbrev pub note_of : Lent → Place × Value
note_of e = (e.0, e.1.now)

-- the value that is found among the notes is the one that is lent
pub lookup_notes : (test : Place → Bool) (es : List Lent) → lookup test (map note_of es) ≡ option_map (λ (r : Bor Value). r.now) (lookup test es)
lookup_notes test [] = refl
lookup_notes test (e ∷ es) = by (test e.0) (lookup_notes test es)
  where
    by : (b : Bool) → lookup test (map note_of es) ≡ option_map (λ (r : Bor Value). r.now) (lookup test es) → (if b then Some e.1.now else lookup test (map note_of es)) ≡ option_map (λ (r : Bor Value). r.now) (if b then Some e.1 else lookup test es)
    by true ih = refl
    by false ih = ih

-- a note that is read is that of the pair there
pub read_note : (es : List Lent) (i : ℕ) (e : Lent) → slice_get es i ≡ Some e → slice_get (map note_of es) i ≡ Some (note_of e)
read_note [] i e h = absurd (none-some e h)
read_note (x ∷ es) zero e h = ap (λ (o : Lent). Some (note_of o)) (same_Some x e h)
read_note (x ∷ es) (suc i) e h = read_note es i e h

-- notes of pairs with one more
pub last_note : (es : List Lent) (e : Lent) → map note_of (es ++ e ∷ []) ≡ map note_of es ++ note_of e ∷ []
last_note es e = map-append note_of es (e ∷ [])

-- where no pair is read, there are no notes either
pub no_note : (es : List Lent) (i : ℕ) → slice_get es i ≡ None → length (map note_of es) ≤ i
no_note es i h = let e = past_end es i h in omega (arith, e, map_length note_of es)
