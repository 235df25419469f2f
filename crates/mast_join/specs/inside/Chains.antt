-- The places of a list of keys that have one key, by way of the last place before each.
use Rattle.std.specs.Prelude.{◌≡◌, ℕ, zero, suc, ◌+◌, ◌<◌, Bool, false, nat_eq, if◌then◌else◌, List, [], ◌∷◌, length, get_or, set, Option, Some, None}

-- whether the key is there and is this one
abbrev pub has_key : ℕ → Option ℕ → Bool
has_key key None = false
has_key key (Some other) = nat_eq other key

-- the places below a number that have the key, the last first
abbrev pub chain : List (Option ℕ) → ℕ → ℕ → List ℕ
chain keys key zero = []
chain keys key (suc place) = if has_key key (get_or keys place None) then place ∷ chain keys key place else chain keys key place

-- one more than the last of these places; 0 where there is none
abbrev pub last : List (Option ℕ) → ℕ → ℕ → ℕ
last keys key zero = zero
last keys key (suc place) = if has_key key (get_or keys place None) then suc place else last keys key place

-- for each key the last of all places so far
abbrev pub AreHeads : List (Option ℕ) → ℕ → List ℕ → Type 0
AreHeads keys count heads = (key : ℕ) → key < length heads → get_or heads key 0 ≡ last keys key count

-- for each place with a key the last one before it
abbrev pub AreNexts : List (Option ℕ) → ℕ → List ℕ → Type 0
AreNexts keys count nexts = (place key : ℕ) → place < count → get_or keys place None ≡ Some key → get_or nexts place 0 ≡ last keys key place

-- the last place that has the key of a new one
abbrev pub next_of : Option ℕ → List ℕ → ℕ
next_of None heads = 0
next_of (Some key) heads = get_or heads key 0

-- the last places once there is a new one
abbrev pub heads_after : Option ℕ → ℕ → List ℕ → List ℕ
heads_after None place heads = heads
heads_after (Some key) place heads = set heads key (place + 1)

-- the places so far are found by their keys
pub record IsIndexed (keys : List (Option ℕ)) (count : ℕ) (heads nexts : List ℕ) : Type 0 where
  pub heads_are : AreHeads keys count heads
  pub nexts_are : AreNexts keys count nexts
  pub long : length nexts ≡ count
