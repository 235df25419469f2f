-- Hashes, and the chains of places by their keys.
use Rattle.std.proofs.Common.{◌≡◌, ℕ, suc, ◌+◌, ◌-◌, ◌%◌, ◌<◌, ◌≤◌, List, [], ◌∷◌, ◌++◌, length, get_or, set, take, drop, inl, inr, refl, sym, ap, subst, ◌∙◌, arith}
use Rattle.std.proofs.lemmas.Bool.{cases_eq, cases_lt}
use Rattle.std.proofs.lemmas.List.{drop_more, get_or-set_other, get_or-set_same, get_or_append_left, get_or_push, length-set, length_push, take-append-le, take_all}
use Rattle.std.proofs.Math.Nat.{mod-lt}
use Rattle.mast_relations.specs.Plans.{picked}
use Rattle.mast_relations.specs.declared.hashes.Chains.{Chains}
use Rattle.mast_relations.specs.inside.Hashing.{hashed, mixed}
use Rattle.mast_relations.specs.inside.Lasts.{AreChained, AreHeads, AreNexts, HasHash, HasKey, IsLast}
use Rattle.mast_relations.proofs.LastLemmas.{last_as, last_longer, last_past, last_top}

-- a hash with the next number
pub hashed_more : (hash : ℕ) (numbers : List ℕ) (i : ℕ) → i < length numbers → hashed (mixed hash (get_or numbers i 0)) (drop (i + 1) numbers) ≡ hashed hash (drop i numbers)
hashed_more hash numbers i lt = sym (ap (hashed hash) (drop_more numbers i 0 lt))

-- the same of numbers that are picked
pub picked_more : (hash : ℕ) (numbers places : List ℕ) (i : ℕ) → i < length places → hashed (mixed hash (get_or numbers (get_or places i 0) 0)) (picked numbers (drop (i + 1) places)) ≡ hashed hash (picked numbers (drop i places))
picked_more hash numbers places i lt = sym (ap (λ (k : List ℕ). hashed hash (picked numbers k)) (drop_more places i 0 lt))

-- the chains of the first places, by so many keys
pub record AreChainedTo (hashes : List ℕ) (size count : ℕ) (heads nexts : List ℕ) : Type 0 where
  pub size_is : length heads ≡ size
  pub heads_are : (hash : ℕ) → IsLast (HasKey hashes size hash) (HasKey hashes size hash) count (get_or heads (hash % size) 0)
  pub nexts_are : (place hash : ℕ) → place < count → HasKey hashes size hash place
      → IsLast (HasKey hashes size hash) (HasKey hashes size hash) place (get_or nexts place 0)
  pub long : length nexts ≡ count

head_more : (hashes : List ℕ) (size count : ℕ) (heads : List ℕ) (hash key other : ℕ) → get_or hashes count 0 ≡ hash → key ≡ hash % size → key < length heads
    → IsLast (HasKey hashes size other) (HasKey hashes size other) count (get_or heads (other % size) 0)
    → IsLast (HasKey hashes size other) (HasKey hashes size other) (count + 1) (get_or (set heads key (count + 1)) (other % size) 0)
head_more hashes size count heads hash key other e k lt a = elim (cases_eq (other % size) key) [
  | inl q ↦
      let value : get_or (set heads key (count + 1)) (other % size) 0 ≡ count + 1 =
      ap (λ (n : ℕ). get_or (set heads key (count + 1)) n 0) q ∙ get_or-set_same heads key (count + 1) 0 lt in
      let has : HasKey hashes size other count = ap (λ (n : ℕ). n % size) e ∙ sym k ∙ sym q in
      subst (λ (n : ℕ). IsLast (HasKey hashes size other) (HasKey hashes size other) (count + 1) n) (sym value) (last_top (HasKey hashes size other) count has)
  | inr ne ↦
      let value : get_or (set heads key (count + 1)) (other % size) 0 ≡ get_or heads (other % size) 0 = get_or-set_other heads key (other % size) (count + 1) 0 ne in
      let not : HasKey hashes size other count → ⊥ = λ h. ne (sym h ∙ ap (λ (n : ℕ). n % size) e ∙ sym k) in
      subst (λ (n : ℕ). IsLast (HasKey hashes size other) (HasKey hashes size other) (count + 1) n) (sym value) (last_longer (HasKey hashes size other) count (get_or heads (other % size) 0) not a)
]

next_more : (hashes : List ℕ) (size count : ℕ) (heads nexts : List ℕ) (hash : ℕ) → AreChainedTo hashes size count heads nexts → get_or hashes count 0 ≡ hash
    → (place other : ℕ) → place < count + 1 → HasKey hashes size other place
    → IsLast (HasKey hashes size other) (HasKey hashes size other) place (get_or (nexts ++ get_or heads (hash % size) 0 ∷ []) place 0)
next_more hashes size count heads nexts hash c e place other lt has = elim (cases_lt place count) [
  | inl less ↦
      subst (λ (n : ℕ). IsLast (HasKey hashes size other) (HasKey hashes size other) place n)
      (sym (get_or_append_left nexts (get_or heads (hash % size) 0 ∷ []) 0 place (omega (arith, less, c.long))))
      (c.nexts_are place other less has)
  | inr ge ↦
      let is : place ≡ count = omega (arith, lt, ge) in
      let same : other % size ≡ hash % size = sym has ∙ ap (λ (n : ℕ). get_or hashes n 0 % size) is ∙ ap (λ (n : ℕ). n % size) e in
      let value : get_or (nexts ++ get_or heads (hash % size) 0 ∷ []) place 0 ≡ get_or heads (other % size) 0 =
      get_or_push nexts (get_or heads (hash % size) 0) 0 place (c.long ∙ sym is) ∙ ap (λ (n : ℕ). get_or heads n 0) (sym same) in
      subst (λ (n : ℕ). IsLast (HasKey hashes size other) (HasKey hashes size other) place n) (sym value)
      (subst (λ (n : ℕ). IsLast (HasKey hashes size other) (HasKey hashes size other) n (get_or heads (other % size) 0)) (sym is) (c.heads_are other))
]

-- with the next place
pub chained_more : (hashes : List ℕ) (size count : ℕ) (heads nexts newheads newnexts : List ℕ) (hash : ℕ) → AreChainedTo hashes size count heads nexts → get_or hashes count 0 ≡ hash → 0 < size
    → newnexts ≡ nexts ++ get_or heads (hash % length heads) 0 ∷ [] → newheads ≡ set heads (hash % length heads) (length nexts + 1)
    → AreChainedTo hashes size (count + 1) newheads newnexts
chained_more hashes size count heads nexts newheads newnexts hash c e some n h =
    let lt : hash % size < size = mod-lt hash some in
    let heads_is : newheads ≡ set heads (hash % size) (count + 1) =
    h ∙ ap (λ (k : ℕ). set heads (hash % k) (length nexts + 1)) c.size_is ∙ ap (λ (k : ℕ). set heads (hash % size) (k + 1)) c.long in
    let nexts_is : newnexts ≡ nexts ++ get_or heads (hash % size) 0 ∷ [] =
    n ∙ ap (λ (k : ℕ). nexts ++ get_or heads (hash % k) 0 ∷ []) c.size_is in
    record {
      size_is = ap length heads_is ∙ length-set heads (hash % size) (count + 1) ∙ c.size_is;
      heads_are = λ other. subst (λ (k : List ℕ). IsLast (HasKey hashes size other) (HasKey hashes size other) (count + 1) (get_or k (other % size) 0)) (sym heads_is)
          (head_more hashes size count heads hash (hash % size) other e refl (omega (arith, lt, c.size_is)) (c.heads_are other));
      nexts_are = λ place other less has. subst (λ (k : List ℕ). IsLast (HasKey hashes size other) (HasKey hashes size other) place (get_or k place 0)) (sym nexts_is)
          (next_more hashes size count heads nexts hash c e place other less has);
      long = ap length nexts_is ∙ length_push nexts (get_or heads (hash % size) 0) ∙ ap (λ (k : ℕ). k + 1) c.long;
    }

-- no place is chained at first
pub chained_first : (hashes : List ℕ) (size : ℕ) (heads : List ℕ) → length heads ≡ size → ((key : ℕ) → get_or heads key 0 ≡ 0) → AreChainedTo hashes size 0 heads []
chained_first hashes size heads e zeros = record {
  size_is = e;
  heads_are = λ hash. subst (λ (n : ℕ). IsLast (HasKey hashes size hash) (HasKey hashes size hash) 0 n) (sym (zeros (hash % size))) (record {
    within = omega arith;
    here = λ last z. absurd (omega (arith, z));
    none = λ later from below h. absurd (omega (arith, below));
  });
  nexts_are = λ place hash less has. absurd (omega (arith, less));
  long = refl;
}

-- the chains of all places
pub chained_whole : (hashes : List ℕ) (size count : ℕ) (chains : Chains) → AreChainedTo hashes size count chains.heads.items chains.nexts.items → 0 < size → count ≡ length hashes → AreChained hashes chains
chained_whole hashes size count chains c some e = record {
  heads = λ s hash. subst (λ (n : ℕ). IsLast (HasKey hashes n hash) (HasKey hashes n hash) (length hashes) (get_or chains.heads.items (hash % n) 0)) (sym c.size_is)
      (subst (λ (n : ℕ). IsLast (HasKey hashes size hash) (HasKey hashes size hash) n (get_or chains.heads.items (hash % size) 0)) e (c.heads_are hash));
  nexts = subst (λ (n : ℕ). AreNexts hashes n chains.nexts.items) (sym c.size_is) (λ place hash less has. c.nexts_are place hash (subst (λ (n : ℕ). place < n) (sym e) less) has);
  long = c.long ∙ e;
  none = λ z. absurd (omega (arith, z, c.size_is, some));
}

key_kept : (hashes more : List ℕ) (size other place : ℕ) → place < length hashes → HasKey hashes size other place → HasKey (hashes ++ more) size other place
key_kept hashes more size other place lt h = ap (λ (n : ℕ). n % size) (get_or_append_left hashes more 0 place lt) ∙ h

key_was : (hashes more : List ℕ) (size other place : ℕ) → place < length hashes → HasKey (hashes ++ more) size other place → HasKey hashes size other place
key_was hashes more size other place lt h = ap (λ (n : ℕ). n % size) (sym (get_or_append_left hashes more 0 place lt)) ∙ h

-- the chains of a front
pub chained_front : (hashes more : List ℕ) (chains : Chains) → AreChained hashes chains → 0 < length chains.heads.items → AreChainedTo (hashes ++ more) (length chains.heads.items) (length hashes) chains.heads.items chains.nexts.items
chained_front hashes more chains c some =
    let size = length chains.heads.items in
    record {
      size_is = refl;
      heads_are = λ hash. last_as (HasKey hashes size hash) (HasKey (hashes ++ more) size hash) (length hashes) (get_or chains.heads.items (hash % size) 0)
          (λ p lt h. key_kept hashes more size hash p lt h) (λ p lt h. key_was hashes more size hash p lt h) (c.heads some hash);
      nexts_are = λ place hash less has. last_as (HasKey hashes size hash) (HasKey (hashes ++ more) size hash) place (get_or chains.nexts.items place 0)
          (λ p lt h. key_kept hashes more size hash p (omega (arith, lt, less)) h) (λ p lt h. key_was hashes more size hash p (omega (arith, lt, less)) h)
          (c.nexts place hash less (key_was hashes more size hash place less has));
      long = c.long;
    }

-- with one more hash
pub chained_push : (hashes : List ℕ) (hash : ℕ) (chains new : Chains) → AreChained hashes chains → 0 < length chains.heads.items
    → new.nexts.items ≡ chains.nexts.items ++ get_or chains.heads.items (hash % length chains.heads.items) 0 ∷ []
    → new.heads.items ≡ set chains.heads.items (hash % length chains.heads.items) (length chains.nexts.items + 1)
    → AreChained (hashes ++ hash ∷ []) new
chained_push hashes hash chains new c some n h =
    let size = length chains.heads.items in
    chained_whole (hashes ++ hash ∷ []) size (length hashes + 1) new
    (chained_more (hashes ++ hash ∷ []) size (length hashes) chains.heads.items chains.nexts.items new.heads.items new.nexts.items hash
    (chained_front hashes (hash ∷ []) chains c some) (get_or_push hashes hash 0 (length hashes) refl) some n h)
    some (sym (length_push hashes hash))

-- a hash has its own key
pub hash_key : (hashes : List ℕ) (size hash place : ℕ) → HasHash hashes hash place → HasKey hashes size hash place
hash_key hashes size hash place h = ap (λ (n : ℕ). n % size) h

-- the next place on a chain is before this one
pub next_below : (hashes : List ℕ) (chains : Chains) (place : ℕ) → AreChained hashes chains → place < length hashes → get_or chains.nexts.items place 0 ≤ place
next_below hashes chains place c lt = (c.nexts place (get_or hashes place 0) lt refl).within

-- a place with another hash is passed
pub same_next : (hashes : List ℕ) (chains : Chains) (hash count place next : ℕ) → AreChained hashes chains → 0 < place → place ≤ length hashes
    → IsLast (HasKey hashes (length chains.heads.items) hash) (HasHash hashes hash) count place → (HasHash hashes hash (place - 1) → ⊥) → next ≡ get_or chains.nexts.items (place - 1) 0
    → IsLast (HasKey hashes (length chains.heads.items) hash) (HasHash hashes hash) count next
same_next hashes chains hash count place next c some within a out e =
    let size = length chains.heads.items in
    let one : place ≡ suc (place - 1) = omega arith in
    last_past (HasKey hashes size hash) (HasHash hashes hash) count place next (λ p lt h. hash_key hashes size hash p h) some a out
    (subst (λ (n : ℕ). IsLast (HasKey hashes size hash) (HasKey hashes size hash) (place - 1) n) (sym e)
    (c.nexts (place - 1) hash (omega (arith, some, within)) (a.here (place - 1) one)))

-- the chains of the same lists
pub chained_same : (hashes : List ℕ) (chains new : Chains) → new.heads.items ≡ chains.heads.items → new.nexts.items ≡ chains.nexts.items → AreChained hashes chains → AreChained hashes new
chained_same hashes chains new h n c = record {
  heads = subst (λ (l : List ℕ). 0 < length l → AreHeads hashes l) (sym h) c.heads;
  nexts = subst (λ (l : List ℕ). AreNexts hashes (length l) new.nexts.items) (sym h) (subst (λ (l : List ℕ). AreNexts hashes (length chains.heads.items) l) (sym n) c.nexts);
  long = ap length n ∙ c.long;
  none = λ z. c.none (sym (ap length h) ∙ z);
}

-- what was put last and taken again is gone
pub put_and_taken : (before pushed after : List ℕ) (hash count : ℕ) → pushed ≡ before ++ hash ∷ [] → count ≡ length pushed → after ≡ take (count - 1) pushed → after ≡ before
put_and_taken before pushed after hash count p n t =
    let one : length pushed ≡ length before + 1 = ap length p ∙ length_push before hash in
    let size : count - 1 ≡ length before = omega (arith, n, one) in
    t ∙ ap (take (count - 1)) p ∙ ap (λ (k : ℕ). take k (before ++ hash ∷ [])) size ∙ take-append-le (length before) before (hash ∷ []) (omega arith) ∙ take_all (length before) before (omega arith)
