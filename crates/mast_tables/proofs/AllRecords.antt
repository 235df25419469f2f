-- The records of a file are all its records.
use Rattle.std.proofs.Common.{◌≡◌, ◌⊎◌, inl, inr, ℕ, suc, zero, ◌+◌, ◌<◌, ◌≤◌, List, [], ◌∷◌, ◌++◌, length, refl, true, false, arith}
use Rattle.std.specs.Prelude.{Option, Some, None, Bool, if◌then◌else◌}
use Rattle.csv.specs.Machine.{Read, next_record, step, is_end, fields_after, field_after, ends_at_end}
use Rattle.csv.specs.Reading.{default_config, records_from, records_next, Reached, AreRecords, strip_bom}
use Rattle.csv.specs.declared.parser.Config.{Config}
use Rattle.csv.specs.declared.parser.State.{State}
use Rattle.csv.specs.declared.parser.State.TheVariants as st
use Rattle.mast_tables.specs.Records.{records_of}

-- a record takes a byte, or it is the last one
abbrev pub Takes : Option Read → ℕ → Type 0
Takes None n = Unit {0}
Takes (Some p) n = (length p.2 < n) ⊎ ((p.1 ≡ st.StartRecord) × (p.2 ≡ []))

takes_more : (o : Option Read) (n : ℕ) → Takes o n → Takes o (suc n)
takes_more None n h = tt
takes_more (Some p) n (inl h) = inl (omega arith)
takes_more (Some p) n (inr h) = inr h

takes_end : (b : Bool) (fields : List (List ℕ)) → Takes (if b then Some (fields, st.StartRecord, []) else None) 0
takes_end true fields = inr (refl, refl)
takes_end false fields = tt

takes_step : (b : Bool) (fields : List (List ℕ)) (s : State) (rest : List ℕ) (o : Option Read) → Takes o (length rest) → Takes (if b then Some (fields, s, rest) else o) (suc (length rest))
takes_step true fields s rest o h = inl (omega arith)
takes_step false fields s rest o h = takes_more o (length rest) h

takes : (config : Config) (s : State) (fields : List (List ℕ)) (field xs : List ℕ) → Takes (next_record config s fields field xs) (length xs)
unfolding next_record
takes config s fields field [] = takes_end (ends_at_end s) (fields ++ (field ∷ []))
takes config s fields field (c ∷ rest) = takes_step (is_end (step config s c).1) (fields_after (step config s c).1 fields field) (step config s c).0 rest _ (takes config (step config s c).0 (fields_after (step config s c).1 fields field) (field_after (step config s c).1 c field) rest)

nothing : (config : Config) (n : ℕ) → records_from config n st.StartRecord [] ≡ []
unfolding records_from next_record
nothing config zero = refl
nothing config (suc n) = refl

nothing_left : (config : Config) (n : ℕ) → AreRecords config st.StartRecord [] (records_from config n st.StartRecord [])
unfolding Reached next_record
nothing_left config n = rw (nothing config n) (st.StartRecord, [], (refl, refl), refl)

-- one record, and then those after it
after : (config : Config) (s : State) (xs : List ℕ) (p : Read) (records : List (List (List ℕ))) → next_record config s [] [] xs ≡ Some p → AreRecords config p.1 p.2 records → AreRecords config s xs (p.0 ∷ records)
unfolding Reached
after config s xs p records e r = (r.0, r.1, (p, e, refl, r.2), r.3)

none_here : (config : Config) (s : State) (xs : List ℕ) → next_record config s [] [] xs ≡ None → AreRecords config s xs []
unfolding Reached
none_here config s xs e = (s, xs, (refl, refl), e)

step_all : (config : Config) (n : ℕ) (s : State) (xs : List ℕ) (o : Option Read) → next_record config s [] [] xs ≡ o → Takes o (length xs) → length xs < suc n → ((t : State) (ys : List ℕ) → length ys < n → AreRecords config t ys (records_from config n t ys)) → AreRecords config s xs (records_next (records_from config n) o)
step_all config n s xs None e t h more = none_here config s xs e
step_all config n s xs (Some p) e (inl lt) h more = after config s xs p (records_from config n p.1 p.2) e (more p.1 p.2 (omega arith))
step_all config n s xs (Some p) e (inr last) h more = after config s xs p (records_from config n p.1 p.2) e (rw (last.0, last.1) (nothing_left config n))

all_from : (config : Config) (n : ℕ) (s : State) (xs : List ℕ) → length xs < n → AreRecords config s xs (records_from config n s xs)
unfolding records_from
all_from config zero s xs h = absurd (omega arith)
all_from config (suc n) s xs h = step_all config n s xs (next_record config s [] [] xs) refl (takes config s [] [] xs) h (all_from config n)

-- a byte order mark that is dropped makes no file longer
pub strip_short : (xs : List ℕ) → length (strip_bom xs) ≤ length xs
unfolding strip_bom
strip_short [] = omega arith
strip_short (a ∷ []) = omega arith
strip_short (a ∷ b ∷ []) = omega arith
strip_short (a ∷ b ∷ c ∷ rest) = grind arith

-- the records of a file are all
pub all_records : (bytes : List ℕ) → AreRecords default_config st.StartRecord (strip_bom bytes) (records_of bytes)
all_records bytes = all_from default_config (length bytes + 1) st.StartRecord (strip_bom bytes) (omega (arith, strip_short bytes))
