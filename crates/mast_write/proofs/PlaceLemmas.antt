-- Fronts of lines, and pieces of a buffer one by one.
use Rattle.std.proofs.Common.{◌≡◌, ◌<◌, ◌+◌, ◌-◌, ◌*◌, ◌^◌, ℕ, suc, List, [], ◌∷◌, ◌++◌, length, get_or, take, drop, subst, sym, ap, ◌∙◌, arith}
use Rattle.std.proofs.lemmas.List.{append_assoc, append-nil, take-append-drop, drop_more}
use Rattle.std.specs.List.{AllByRecursion}
use Rattle.mast_write.specs.declared.places.TheConstants.{BYTE_VALUES, WORD_BYTES}
use Rattle.mast_write.specs.inside.Buffers.{pieces}
use Rattle.mast_write.specs.inside.Places.{Begins, word_of}
use Rattle.mast_write.proofs.WordLemmas.{AreBytes, at_least, word_fits}

-- a front of a list is one that it begins with
pub begins_take : (n : ℕ) (front line : List ℕ) → front ≡ take n line → Begins front line
begins_take n front line e = record { more = drop n line; is = sym (take-append-drop n line) ∙ ap (λ (l : List ℕ). l ++ drop n line) (sym e) }

-- a list begins with itself
pub begins_itself : (line : List ℕ) → Begins line line
begins_itself line = record { more = []; is = sym (append-nil line) }

-- a front of a front
pub begins_then : (least front line : List ℕ) → Begins least front → Begins front line → Begins least line
begins_then least front line a b = record { more = a.more ++ b.more; is = b.is ∙ ap (λ l. l ++ b.more) a.is ∙ append_assoc least a.more b.more }

-- the pieces from one place on are the one there and those behind it
pub pieces_more : (lengths rest line after : List ℕ) (i n : ℕ) → i < length lengths → n ≡ get_or lengths i n → line ≡ take n rest → after ≡ drop n rest
    → pieces (drop i lengths) rest ≡ line ∷ pieces (drop (i + 1) lengths) after
pieces_more lengths rest line after i n less is front back =
    ap (λ (ns : List ℕ). pieces ns rest) (drop_more lengths i n less)
    ∙ ap (λ (m : ℕ). pieces (m ∷ drop (i + 1) lengths) rest) (sym is)
    ∙ ap (λ (l : List ℕ). l ∷ pieces (drop (i + 1) lengths) (drop n rest)) (sym front)
    ∙ ap (λ (l : List ℕ). line ∷ pieces (drop (i + 1) lengths) l) (sym back)

-- a front of the next line too is a front of all lines
pub front_more : (lengths bytes front least rest line after : List ℕ) (i n : ℕ) → i < length lengths → n ≡ get_or lengths i n → line ≡ take n rest → after ≡ drop n rest
    → Begins least front → Begins least line
    → ((f : List ℕ) → Begins f front → AllByRecursion (Begins f) (pieces (drop i lengths) rest) → AllByRecursion (Begins f) (pieces lengths bytes))
    → (f : List ℕ) → Begins f least → AllByRecursion (Begins f) (pieces (drop (i + 1) lengths) after) → AllByRecursion (Begins f) (pieces lengths bytes)
front_more lengths bytes front least rest line after i n less is cut back here there all f begun others =
    let both : AllByRecursion (Begins f) (line ∷ pieces (drop (i + 1) lengths) after) = (begins_then f least line begun there, others) in
    all f (begins_then f least front begun here) (subst (AllByRecursion (Begins f)) (sym (pieces_more lengths rest line after i n less is cut back)) both)

-- one more of which it holds
pub all_last : {X : Type 0} (P : X → Type 0) (xs : List X) (x : X) → AllByRecursion P xs → P x → AllByRecursion P (xs ++ x ∷ [])
all_last P [] x h p = (p, tt)
all_last P (y ∷ ys) x h p = (h.0, all_last P ys x h.1 p)

-- the next byte has room in a word
pub byte_fits : (step n b : ℕ) (rest after bytes : List ℕ) → step < WORD_BYTES → AreBytes bytes → word_of n (WORD_BYTES - step) rest ≡ word_of 0 WORD_BYTES bytes
    → ((m k : ℕ) → word_of m (suc k) rest ≡ word_of (m * BYTE_VALUES + b) k after) → n * BYTE_VALUES + b < 2 ^ 64
byte_fits step n b rest after bytes less are so next =
    let left = WORD_BYTES - suc step in
    let e : WORD_BYTES - step ≡ suc left = omega arith in
    let whole : word_of (n * BYTE_VALUES + b) left after ≡ word_of 0 WORD_BYTES bytes = sym (next n left) ∙ ap (λ (k : ℕ). word_of n k rest) (sym e) ∙ so in
    let room = word_fits bytes are in
    let from = at_least left (n * BYTE_VALUES + b) after in
    omega arith

-- the word so far and the bytes that are left make the whole word
pub word_more : (step n b : ℕ) (rest after bytes : List ℕ) → step < WORD_BYTES → word_of n (WORD_BYTES - step) rest ≡ word_of 0 WORD_BYTES bytes
    → ((m k : ℕ) → word_of m (suc k) rest ≡ word_of (m * BYTE_VALUES + b) k after) → word_of (n * BYTE_VALUES + b) (WORD_BYTES - (step + 1)) after ≡ word_of 0 WORD_BYTES bytes
word_more step n b rest after bytes less so next =
    let left = WORD_BYTES - (step + 1) in
    let e : WORD_BYTES - step ≡ suc left = omega arith in
    sym (next n left) ∙ ap (λ (k : ℕ). word_of n k rest) (sym e) ∙ so
