-- Where a list of symbols stops being the beginning of a sentence, for any grammar: a relation of symbols and what they stand for.
use Rattle.std.specs.Prelude.{◌≡◌, ℕ, suc, ◌<◌, ◌≤◌, List, ◌++◌, length, take}

-- some sentence begins with these symbols
abbrev pub Begins : {K T : Type 0} → (List K → T → Type 0) → List K → Type 0
Begins {K} {T} Is ks = (more : List K) × (t : T) × Is (ks ++ more) t

-- some sentence begins with the symbols before i, and none with symbol i as well; or they are all symbols and no sentence
pub record UnexpectedAt {K T : Type 0} (Is : List K → T → Type 0) (ks : List K) (i : ℕ) : Type 0 where
  pub within : i ≤ length ks
  pub begins : Begins Is (take i ks)
  pub next : i < length ks → Begins Is (take (suc i) ks) → ⊥
  pub whole : i ≡ length ks → (t : T) → Is ks t → ⊥
