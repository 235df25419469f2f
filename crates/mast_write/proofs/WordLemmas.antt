-- Words order lines as their bytes do.
use Rattle.std.proofs.Common.{◌≡◌, ◌<◌, ◌≤◌, ◌+◌, ◌-◌, ◌*◌, ◌^◌, ℕ, zero, suc, List, [], ◌∷◌, ◌++◌, drop, length, get_or, refl, sym, ap, subst, ◌∙◌, arith, nat_cmp, Ordering, Less, Equal, Greater}
use Rattle.std.specs.Ordering.{ordering_then, ordering_reverse}
use Rattle.std.specs.Cmp.Lexicographic.{slice_cmp, nat_list_cmp_total}
use Rattle.std.specs.List.{AllByRecursion}
use Rattle.std.proofs.lemmas.Cmp.{ranked, tied_itself, nat_cmp_total}
use Rattle.std.proofs.Math.Seq.{drop-append_seam}
use Rattle.mast_write.specs.declared.places.TheConstants.{BYTE_VALUES, WORD_BYTES}
use Rattle.mast_write.specs.inside.Places.{Begins, IsPlace, Place, line_of, word_of}

-- bytes are below what a byte can be
abbrev pub AreBytes : List ℕ → Type 0
AreBytes bytes = AllByRecursion (λ b. b < BYTE_VALUES) bytes

-- a number is at most what it begins
pub at_least : (k n : ℕ) (bs : List ℕ) → n ≤ word_of n k bs
unfolding word_of
at_least zero n bs = omega arith
at_least (suc k) n [] = let e = at_least k (n * BYTE_VALUES) [] in omega arith
at_least (suc k) n (b ∷ bs) = let e = at_least k (n * BYTE_VALUES + b) bs in omega arith

-- a lesser number begins a lesser one
above : (k n m : ℕ) (xs ys : List ℕ) → AreBytes xs → n < m → word_of n k xs < word_of m k ys
unfolding word_of
above zero n m xs ys a h = h
above (suc k) n m [] [] a h = above k (n * BYTE_VALUES) (m * BYTE_VALUES) [] [] tt (omega arith)
above (suc k) n m [] (y ∷ ys) a h = above k (n * BYTE_VALUES) (m * BYTE_VALUES + y) [] ys tt (omega arith)
above (suc k) n m (x ∷ xs) [] a h = above k (n * BYTE_VALUES + x) (m * BYTE_VALUES) xs [] a.1 (let b = a.0 in omega arith)
above (suc k) n m (x ∷ xs) (y ∷ ys) a h = above k (n * BYTE_VALUES + x) (m * BYTE_VALUES + y) xs ys a.1 (let b = a.0 in omega arith)

-- bytes that are not there make the least number
least : (k n : ℕ) (xs : List ℕ) → word_of n k [] ≤ word_of n k xs
unfolding word_of
least zero n xs = omega arith
least (suc k) n [] = omega arith
least (suc k) n (zero ∷ xs) =
    let e : n * BYTE_VALUES ≡ n * BYTE_VALUES + 0 = omega arith in
    subst (λ m. word_of (n * BYTE_VALUES) k [] ≤ word_of m k xs) e (least k (n * BYTE_VALUES) xs)
least (suc k) n (suc x ∷ xs) =
    let e = above k (n * BYTE_VALUES) (n * BYTE_VALUES + suc x) [] xs tt (omega arith) in omega arith

-- the first bytes decide, or those behind them
first_decides : (k n x y : ℕ) (xs ys : List ℕ) (o : Ordering) → o ≡ nat_cmp x y → AreBytes (y ∷ ys)
    → word_of (n * BYTE_VALUES + x) k xs < word_of (n * BYTE_VALUES + y) k ys
    → (x ≡ y → slice_cmp nat_cmp xs ys ≡ Less) → ordering_then o (slice_cmp nat_cmp xs ys) ≡ Less
first_decides k n x y xs ys Less e b h rest = refl
first_decides k n x y xs ys Equal e b h rest = rest (ranked x y Equal e)
first_decides k n x y xs ys Greater e b h rest =
    let greater : y < x = ranked x y Greater e in
    let other = above k (n * BYTE_VALUES + y) (n * BYTE_VALUES + x) ys xs b.1 (omega arith) in
    absurd (omega arith)

-- bytes whose first k spell a lesser number come before the others
pub word_before : (k n : ℕ) (xs ys : List ℕ) → AreBytes xs → AreBytes ys → word_of n k xs < word_of n k ys → slice_cmp nat_cmp xs ys ≡ Less
unfolding word_of
word_before zero n xs ys a b h = absurd (omega arith)
word_before (suc k) n [] [] a b h = absurd (omega arith)
word_before (suc k) n [] (y ∷ ys) a b h = refl
word_before (suc k) n (x ∷ xs) [] a b h = let e : word_of (n * BYTE_VALUES) k [] ≤ word_of (n * BYTE_VALUES + x) k xs = least (suc k) n (x ∷ xs) in absurd (omega arith)
word_before (suc k) n (x ∷ xs) (y ∷ ys) a b h =
    first_decides k n x y xs ys (nat_cmp x y) refl b h
    (λ e. word_before k (n * BYTE_VALUES + x) xs ys a.1 b.1 (subst (λ z. word_of (n * BYTE_VALUES + x) k xs < word_of (n * BYTE_VALUES + z) k ys) (sym e) h))

-- a front that both have decides nothing
pub cmp_front : (front xs ys : List ℕ) → slice_cmp nat_cmp (front ++ xs) (front ++ ys) ≡ slice_cmp nat_cmp xs ys
cmp_front [] xs ys = refl
cmp_front (b ∷ front) xs ys =
    ap (λ (o : Ordering). ordering_then o (slice_cmp nat_cmp (front ++ xs) (front ++ ys))) (tied_itself nat_cmp_total b) ∙ cmp_front front xs ys

behind_front : (front more : List ℕ) → AreBytes (front ++ more) → AreBytes more
behind_front [] more h = h
behind_front (b ∷ front) more h = behind_front front more h.1

-- the order of places: by word, and then by line
abbrev pub place_order : Place → Place → Ordering
place_order p q = ordering_then (nat_cmp p.0 q.0) (slice_cmp nat_cmp (line_of p) (line_of q))

-- the word of a place is that of what follows the front
word_behind : (front : List ℕ) (p : Place) (b : Begins front (line_of p)) → IsPlace (length front) p → p.0 ≡ word_of 0 WORD_BYTES b.more
word_behind front p b is =
    is.word ∙ ap (word_of 0 WORD_BYTES) (ap (drop (length front)) b.is ∙ drop-append_seam front b.more)

-- a place of a lesser word has a lesser line
word_first : (front : List ℕ) (p q : Place) → Begins front (line_of p) → Begins front (line_of q) → IsPlace (length front) p → IsPlace (length front) q
    → p.0 < q.0 → slice_cmp nat_cmp (line_of p) (line_of q) ≡ Less
word_first front p q b d is other less =
    let left = word_behind front p b is in
    let right = word_behind front q d other in
    let below : word_of 0 WORD_BYTES b.more < word_of 0 WORD_BYTES d.more =
    subst (λ n. n < word_of 0 WORD_BYTES d.more) left (subst (λ n. p.0 < n) right less) in
    let here = behind_front front b.more (subst AreBytes b.is is.bytes) in
    let there = behind_front front d.more (subst AreBytes d.is other.bytes) in
    ap (λ (l : List ℕ). slice_cmp nat_cmp l (line_of q)) b.is
    ∙ ap (λ (l : List ℕ). slice_cmp nat_cmp (front ++ b.more) l) d.is
    ∙ cmp_front front b.more d.more
    ∙ word_before WORD_BYTES 0 b.more d.more here there below

same_at : (front : List ℕ) (p q : Place) (o : Ordering) → o ≡ nat_cmp p.0 q.0 → Begins front (line_of p) → Begins front (line_of q)
    → IsPlace (length front) p → IsPlace (length front) q
    → ordering_then o (slice_cmp nat_cmp (line_of p) (line_of q)) ≡ slice_cmp nat_cmp (line_of p) (line_of q)
same_at front p q Less e b d is other = sym (word_first front p q b d is other (ranked p.0 q.0 Less e))
same_at front p q Equal e b d is other = refl
same_at front p q Greater e b d is other =
    sym (nat_list_cmp_total.antisymm (line_of p) (line_of q) ∙ ap ordering_reverse (word_first front q p d b other is (ranked p.0 q.0 Greater e)))

-- places of lines with one front are in the order of their lines
pub same_order : (front : List ℕ) (p q : Place) → Begins front (line_of p) → Begins front (line_of q) → IsPlace (length front) p → IsPlace (length front) q
    → place_order p q ≡ slice_cmp nat_cmp (line_of p) (line_of q)
same_order front p q b d is other = same_at front p q (nat_cmp p.0 q.0) refl b d is other

-- what is greater than each number of so many bytes
unfoldable pub top : ℕ → ℕ → ℕ
top m zero = m
top m (suc k) = top (m * BYTE_VALUES) k

below_top : (k n m : ℕ) (bs : List ℕ) → AreBytes bs → n < m → word_of n k bs < top m k
unfolding word_of top
below_top zero n m bs a h = h
below_top (suc k) n m [] a h = below_top k (n * BYTE_VALUES) (m * BYTE_VALUES) [] tt (omega arith)
below_top (suc k) n m (b ∷ bs) a h = below_top k (n * BYTE_VALUES + b) (m * BYTE_VALUES) bs a.1 (let e = a.0 in omega arith)

-- a word has room in 64 bits
pub word_fits : (bs : List ℕ) → AreBytes bs → word_of 0 WORD_BYTES bs < 2 ^ 64
unfolding top
word_fits bs a = below_top WORD_BYTES 0 1 bs a (omega arith)

-- what each place has, all have
pub are_bytes : (bs : List ℕ) → ((i : ℕ) → get_or bs i 0 < BYTE_VALUES) → AreBytes bs
are_bytes [] h = tt
are_bytes (b ∷ bs) h = (h 0, are_bytes bs (λ i. h (suc i)))

-- nothing is left of a word
pub word_done : (step n : ℕ) (rest bytes : List ℕ) → WORD_BYTES ≤ step → word_of n (WORD_BYTES - step) rest ≡ word_of 0 WORD_BYTES bytes → n ≡ word_of 0 WORD_BYTES bytes
unfolding word_of
word_done step n rest bytes done so =
    let e : 0 ≡ WORD_BYTES - step = omega arith in
    let whole : word_of n 0 rest ≡ word_of 0 WORD_BYTES bytes = ap (λ (k : ℕ). word_of n k rest) e ∙ so in
    whole
