-- The last of the places before a number at which something holds, and chains of such places.
use Rattle.std.specs.Prelude.{◌≡◌, ℕ, suc, ◌%◌, ◌^◌, ◌<◌, ◌≤◌, List, [], length, get_or}
use Rattle.mast_relations.specs.declared.hashes.Chains.{Chains}
use Rattle.mast_relations.specs.Matches.{Rows}

-- 0, or one more than a place below the count at which Here holds; Sought holds at no place from there on to the count
pub record IsLast (Here Sought : ℕ → Type 0) (count place : ℕ) : Type 0 where
  pub within : place ≤ count
  pub here : (last : ℕ) → place ≡ suc last → Here last
  pub none : (later : ℕ) → place ≤ later → later < count → Sought later → ⊥

-- the hash at a place
abbrev pub HasHash : List ℕ → ℕ → ℕ → Type 0
HasHash hashes hash place = get_or hashes place 0 ≡ hash

-- the hash at a place has the key of this one, among so many
abbrev pub HasKey : List ℕ → ℕ → ℕ → ℕ → Type 0
HasKey hashes size hash place = get_or hashes place 0 % size ≡ hash % size

-- the row stands at a place
abbrev pub IsRow : Rows → List ℕ → ℕ → Type 0
IsRow rows row place = get_or rows.list place [] ≡ row

-- the last place of each hash's key
abbrev pub AreHeads : List ℕ → List ℕ → Type 0
AreHeads hashes heads = (hash : ℕ)
    → IsLast (HasKey hashes (length heads) hash) (HasKey hashes (length heads) hash) (length hashes) (get_or heads (hash % length heads) 0)

-- for each place the last one before it with its key
abbrev pub AreNexts : List ℕ → ℕ → List ℕ → Type 0
AreNexts hashes size nexts = (place hash : ℕ) → place < length hashes → HasKey hashes size hash place
    → IsLast (HasKey hashes size hash) (HasKey hashes size hash) place (get_or nexts place 0)

-- the chains are those of these hashes
pub record AreChained (hashes : List ℕ) (chains : Chains) : Type 0 where
  pub heads : 0 < length chains.heads.items → AreHeads hashes chains.heads.items
  pub nexts : AreNexts hashes (length chains.heads.items) chains.nexts.items
  pub long : length chains.nexts.items ≡ length hashes
  pub none : length chains.heads.items ≡ 0 → hashes ≡ []

-- and their places are numbers of 32 bits
pub record AreFewChained (hashes : List ℕ) (chains : Chains) : Type 0 where
  pub few : length hashes < 2 ^ 32
  pub chained : AreChained hashes chains
