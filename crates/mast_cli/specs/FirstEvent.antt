-- The stages of a run, and its first event.
use Rattle.std.specs.Prelude.{◌≡◌, ◌⊎◌, ⊤, ℕ, List, [], ◌∷◌, ◌++◌, Option, Some, None, option_map}
use Rattle.std.specs.Option.{option_or}
use Rattle.mast_write.specs.declared.refusals.Refusal.{Refusal}

-- a stage: the file that it reads, if it reads one, and the event of what it judges, if that has one
pub record Stage : Type 0 where
  pub file : Option (List ℕ)
  pub event : Option Refusal

-- the stages of a run in order, up to its first event
abbrev pub Trail : Type 0
Trail = List Stage

-- the event of the first stage that has one
abbrev pub first_event : Trail → Option Refusal
first_event [] = None
first_event (stage ∷ stages) = option_or stage.event (first_event stages)

-- some stage has this file, and all stages before it have no event
abbrev pub IsJudgedIn : Trail → List ℕ → Type 0
IsJudgedIn [] name = ⊥
IsJudgedIn (stage ∷ stages) name = (stage.file ≡ Some name) ⊎ ((stage.event ≡ None) × IsJudgedIn stages name)

-- A part of a run is a relation of the stages that it has with what it reads, which is None where a stage has an event.

-- a stage that reads this file, and has no event
abbrev pub passed : List ℕ → Stage
passed name = record { file = Some name; event = None }

-- a stage that reads this file, and has this event
abbrev pub ended : List ℕ → Refusal → Stage
ended name event = record { file = Some name; event = Some event }

-- a stage that reads no file, and has no event
abbrev pub fine : Stage
fine = record { file = None; event = None }

-- a stage that reads no file, and has this event
abbrev pub stopped : Refusal → Stage
stopped event = record { file = None; event = Some event }

-- one stage, which reads a file: its content has an event, or is read as this
abbrev pub Reads : {A : Type 0} → List ℕ → (Refusal → Type 0) → (A → Type 0) → Trail → Option A → Type 0
Reads name HasEvent Has stages None = (event : Refusal) × HasEvent event × (stages ≡ ended name event ∷ [])
Reads name HasEvent Has stages (Some x) = Has x × (stages ≡ passed name ∷ [])

-- one stage, which reads no file: it has an event, or all is right
abbrev pub Weighs : (Refusal → Type 0) → Type 0 → Trail → Option ⊤ → Type 0
Weighs HasEvent IsRight stages None = (event : Refusal) × HasEvent event × (stages ≡ stopped event ∷ [])
Weighs HasEvent IsRight stages (Some nothing) = IsRight × (stages ≡ fine ∷ [])

-- one part, and then, where it has no event, a part that goes by what it read
abbrev pub Then : {A B : Type 0} → (Trail → Option A → Type 0) → (A → Trail → Option B → Type 0)
    → Trail → Option (A × B) → Type 0
Then {A} First Next stages None =
    First stages None
    ⊎ ((x : A) × (before after : Trail)
    × First before (Some x) × Next x after None × (stages ≡ before ++ after))
Then First Next stages (Some both) =
    (before after : Trail)
    × First before (Some both.0) × Next both.0 after (Some both.1) × (stages ≡ before ++ after)

-- a part, and what is made of that which it read
abbrev pub Made : {A B : Type 0} → (A → B) → (Trail → Option A → Type 0) → Trail → Option B → Type 0
Made {A} make Part stages end = (read : Option A) × Part stages read × (end ≡ option_map make read)

-- a part, and then, where it has no event, a stage that weighs what it read
abbrev pub Weighed : {A : Type 0} → (Trail → Option A → Type 0) → (A → Refusal → Type 0) → (A → Type 0)
    → Trail → Option A → Type 0
Weighed Part HasEvent IsRight stages end =
    Made (λ both. both.0) (Then Part (λ read. Weighs (HasEvent read) (IsRight read))) stages end
