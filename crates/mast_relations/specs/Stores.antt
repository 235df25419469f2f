-- Relations as they are kept: rows, and indices by some of their columns. How they and sets of rows change.
use Rattle.std.specs.Prelude.{◌≡◌, ℕ, ◌⊎◌, Bool, true, false, List, [], ◌∷◌, ◌++◌, map, get_or, set, Result, Ok, Err}
use Rattle.mast_relations.specs.Matches.{In, Rows, nothing}

-- a relation, and for each of its indices the columns by which it finds rows
pub record Stored : Type 0 where
  pub rows : Rows
  pub indices : List (List ℕ)

-- the relations themselves
abbrev pub contents : List Stored → List Rows
contents stored = map (λ relation. relation.rows) stored

-- the rows with one more
abbrev pub with_row : Rows → List ℕ → Rows
with_row rows row = record { width = rows.width; list = rows.list ++ row ∷ [] }

-- no row of this width
abbrev pub no_rows : ℕ → Rows
no_rows width = record { width = width; list = [] }

-- a row that is not there yet is put behind the others, and the answer says whether it was; else all is as it was
abbrev pub IsInserted : {E : Type 0} → Rows → List ℕ → Result Bool E → Rows → Type 0
IsInserted old row (Ok true) new = (In row old.list → ⊥) × (new ≡ with_row old row)
IsInserted old row (Ok false) new = In row old.list × (new ≡ old)
IsInserted old row (Err e) new = new ≡ old

-- the same of the relation of a number; the others are as they were
abbrev pub IsInsertedAt : {E : Type 0} → List Rows → ℕ → List ℕ → Result Bool E → List Rows → Type 0
IsInsertedAt old number row (Ok true) new =
    (In row (get_or old number nothing).list → ⊥) × (new ≡ set old number (with_row (get_or old number nothing) row))
IsInsertedAt old number row (Ok false) new = In row (get_or old number nothing).list × (new ≡ old)
IsInsertedAt old number row (Err e) new = new ≡ old

-- the tuples that are there afterwards: those that were there, and some of the answers
pub record HasOnlyGained (Answer : List ℕ → Type 0) (old new : Rows) : Type 0 where
  pub width : new.width ≡ old.width
  pub kept : (tuple : List ℕ) → In tuple old.list → In tuple new.list
  pub within : (tuple : List ℕ) → In tuple new.list → In tuple old.list ⊎ Answer tuple

-- each of the answers is there
abbrev pub HasAll : (List ℕ → Type 0) → Rows → Type 0
HasAll Answer new = (tuple : List ℕ) → Answer tuple → In tuple new.list

-- nothing changed where no row was put
abbrev pub IsUnchanged : {E X : Type 0} → Result Bool E → X → X → Type 0
IsUnchanged (Ok true) old new = Unit {0}
IsUnchanged (Ok false) old new = new ≡ old
IsUnchanged (Err e) old new = new ≡ old
