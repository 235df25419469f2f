-- Numbers of things, as their places in a list; and assignments that give variables what is said.
use Rattle.std.proofs.Common.{◌≡◌, ℕ, zero, suc, ◌+◌, ◌<◌, get_or, take, drop, if◌then◌else◌, List, [], ◌∷◌, ◌++◌, length, map, refl, sym, ap, subst, ◌∙◌, arith}
use Rattle.std.specs.Prelude.{Option, Some, nat_eq, slice_get}
use Rattle.std.specs.List.{AllByRecursion, AllZip}
use Rattle.std.proofs.lemmas.Bool.{cond-false, cond-true, eq-eqb, ne_eqb}
use Rattle.std.proofs.lemmas.List.{length-map, map-append, take_more}
use Rattle.std.proofs.lemmas.Option.{none-some}
use Rattle.mast_terms.specs.Vocabularies.{EachOnce}
use Rattle.mast_relations.specs.Matches.{In}
use Rattle.mast_relations.specs.Plans.{Once}
use Rattle.mast_relations.proofs.ListLemmas.{map_same}
use Rattle.mast_join.specs.Answers.{AreNumbersOf}

-- the number is that of the thing
abbrev pub IsNumberOf : {X : Type 0} → List X → ℕ → X → Type 0
IsNumberOf all number thing = slice_get all number ≡ Some thing

-- numbers of things, one by one
pub numbers_each : {X : Type 0} (all : List X) (numbers : List ℕ) (things : List X) → AreNumbersOf all numbers things → AllZip (IsNumberOf all) numbers things
numbers_each all [] [] e = tt
numbers_each all [] (x ∷ xs) e = cc
numbers_each all (n ∷ ns) [] e = cc
numbers_each {X} all (n ∷ ns) (x ∷ xs) e =
    let f : slice_get all n ∷ map (slice_get all) ns ≡ Some x ∷ map Some xs = e in
    let first : slice_get all n ≡ Some x = cc in
    let others : map (slice_get all) ns ≡ map Some xs = cc in
    (first, numbers_each all ns xs others)

-- and together
pub each_numbers : {X : Type 0} (all : List X) (numbers : List ℕ) (things : List X) → AllZip (IsNumberOf all) numbers things → AreNumbersOf all numbers things
each_numbers all [] [] h = refl
each_numbers all [] (x ∷ xs) h = absurd h
each_numbers all (n ∷ ns) [] h = absurd h
each_numbers {X} all (n ∷ ns) (x ∷ xs) h = rw (h.0, each_numbers all ns xs h.1) refl

-- as many as things
pub numbers_long : {X : Type 0} (all : List X) (numbers : List ℕ) (things : List X) → AreNumbersOf all numbers things → length numbers ≡ length things
numbers_long all numbers things e = sym (length-map numbers (slice_get all)) ∙ ap length e ∙ length-map things Some

-- of two lists, one after the other
pub numbers_append : {X : Type 0} (all : List X) (ns ms : List ℕ) (xs ys : List X) → AreNumbersOf all ns xs → AreNumbersOf all ms ys → AreNumbersOf all (ns ++ ms) (xs ++ ys)
numbers_append {X} all ns ms xs ys h k =
    map-append (slice_get all) ns ms ∙ ap (λ (l : List (Option X)). l ++ map (slice_get all) ms) h ∙ ap (λ (l : List (Option X)). map Some xs ++ l) k ∙ sym (map-append Some xs ys)

-- of one thing more
pub numbers_more : {X : Type 0} (all : List X) (numbers : List ℕ) (i d : ℕ) (things : List X) (x : X) → i < length numbers → AreNumbersOf all (take i numbers) things → slice_get all (get_or numbers i d) ≡ Some x
    → AreNumbersOf all (take (i + 1) numbers) (things ++ x ∷ [])
numbers_more {X} all numbers i d things x lt h e =
    subst (λ (ns : List ℕ). AreNumbersOf all ns (things ++ x ∷ [])) (sym (take_more numbers i d lt))
    (numbers_append all (take i numbers) (get_or numbers i d ∷ []) things (x ∷ []) h (ap (λ (o : Option X). o ∷ []) e))

left_then : {X : Type 0} (P : X → Type 0) (xs : List X) (i : ℕ) → AllByRecursion P (drop i xs) → AllByRecursion P (drop (suc i) xs)
left_then P [] zero h = tt
left_then P (x ∷ xs) zero h = h.1
left_then P [] (suc i) h = tt
left_then P (x ∷ xs) (suc i) h = left_then P xs i h

-- what holds of each that is left holds of each that is left after one
pub left_more : {X : Type 0} (P : X → Type 0) (xs : List X) (i : ℕ) → AllByRecursion P (drop i xs) → AllByRecursion P (drop (i + 1) xs)
left_more {X} P xs i h = let e : suc i ≡ i + 1 = omega arith in subst (λ (k : ℕ). AllByRecursion P (drop k xs)) e (left_then P xs i h)

-- what stands in a list stands in a longer one at its place
pub read_kept : {X : Type 0} (all more : List X) (n : ℕ) (x : X) → slice_get all n ≡ Some x → slice_get (all ++ more) n ≡ Some x
read_kept [] more n x e = absurd (none-some x e)
read_kept (y ∷ all) more zero x e = e
read_kept (y ∷ all) more (suc n) x e = read_kept all more n x e

-- so numbers stay
pub numbers_kept : {X : Type 0} (all more : List X) (numbers : List ℕ) (things : List X) → AreNumbersOf all numbers things → AreNumbersOf (all ++ more) numbers things
numbers_kept all more [] [] e = refl
numbers_kept all more [] (x ∷ xs) e = cc
numbers_kept all more (n ∷ ns) [] e = cc
numbers_kept {X} all more (n ∷ ns) (x ∷ xs) e =
    let f : slice_get all n ∷ map (slice_get all) ns ≡ Some x ∷ map Some xs = e in
    let first : slice_get all n ≡ Some x = cc in
    let others : map (slice_get all) ns ≡ map Some xs = cc in
    rw (read_kept all more n x first, numbers_kept all more ns xs others) refl

-- where each thing has one number, so have lists of them
pub numbers_one : {X : Type 0} (all : List X) → EachOnce all → (ns ms : List ℕ) (xs : List X) → AreNumbersOf all ns xs → AreNumbersOf all ms xs → ns ≡ ms
numbers_one all once [] [] [] h k = refl
numbers_one all once [] (m ∷ ms) [] h k = cc
numbers_one all once (n ∷ ns) ms [] h k = cc
numbers_one all once [] ms (x ∷ xs) h k = cc
numbers_one all once (n ∷ ns) [] (x ∷ xs) h k = cc
numbers_one {X} all once (n ∷ ns) (m ∷ ms) (x ∷ xs) h k =
    let hs = numbers_each all (n ∷ ns) (x ∷ xs) h in
    let ks = numbers_each all (m ∷ ms) (x ∷ xs) k in
    let first : n ≡ m = once n m x hs.0 ks.0 in
    let others : ns ≡ ms = numbers_one all once ns ms xs (each_numbers all ns xs hs.1) (each_numbers all ms xs ks.1) in
    rw (first, others) refl

-- the assignment that gives variables these, and others what another gives them
abbrev pub given : {X : Type 0} → List ℕ → List X → (ℕ → X) → ℕ → X
given [] ys other x = other x
given (v ∷ vs) [] other x = other x
given (v ∷ vs) (y ∷ ys) other x = if nat_eq x v then y else given vs ys other x

shorter : {X Y : Type 0} (x : X) (y : Y) (xs : List X) (ys : List Y) → length (x ∷ xs) ≡ length (y ∷ ys) → length xs ≡ length ys
shorter x y xs ys e = omega (arith, e)

-- it does
pub given_gives : {X : Type 0} (vs : List ℕ) (ys : List X) (other : ℕ → X) → Once vs → length ys ≡ length vs → map (given vs ys other) vs ≡ ys
given_gives [] [] other o l = refl
given_gives [] (y ∷ ys) other o l = absurd (omega (arith, l))
given_gives (v ∷ vs) [] other o l = absurd (omega (arith, l))
given_gives {X} (v ∷ vs) (y ∷ ys) other o l =
    let head : given (v ∷ vs) (y ∷ ys) other v ≡ y = cond-true (nat_eq v v) y (given vs ys other v) (eq-eqb v v refl) in
    let others : map (given (v ∷ vs) (y ∷ ys) other) vs ≡ map (given vs ys other) vs =
    map_same (given (v ∷ vs) (y ∷ ys) other) (given vs ys other) vs
    (λ x i. cond-false (nat_eq x v) y (given vs ys other x) (ne_eqb x v (λ e. o.0 (subst (λ (k : ℕ). In k vs) e i)))) in
    ap (λ (k : X). k ∷ map (given (v ∷ vs) (y ∷ ys) other) vs) head
    ∙ ap (λ (k : List X). y ∷ k) (others ∙ given_gives vs ys other o.1 (shorter y v ys vs l))
