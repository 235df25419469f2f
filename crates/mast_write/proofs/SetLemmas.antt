-- Each list of lines is a set that has a text.
use Rattle.std.proofs.Common.{◌≡◌, ◌⊎◌, inl, inr, ℕ, List, [], ◌∷◌, subst, sym, ap, ◌∙◌, refl, Less, Equal, Greater, Ordering, Contains}
use Rattle.std.specs.Ordering.{ordering_reverse}
use Rattle.std.specs.List.{AllByRecursion}
use Rattle.std.specs.List.Sorted.{IsStrictlySortedBy}
use Rattle.std.specs.Cmp.Lexicographic.{nat_list_cmp_total}
use Rattle.std.proofs.lemmas.Map.Lookups.{exact_bytes}
use Rattle.mast_write.specs.LineText.{IsTextOf, StandsIn, lines_text}
use Rattle.mast_write.proofs.TextLemmas.{Line, order, first_or_later, first_in, later_in, none_in}

-- the same lines, sorted by their bytes, each once
record IsSetOf (old new : List Line) : Type 0 where
  sorted : IsStrictlySortedBy order new
  each : (line : Line) → Contains new line → Contains old line
  all : (line : Line) → Contains old line → Contains new line

-- what lies above a line lies above each that is below it
above_all : (a b : Line) (lines : List Line) → order a b ≡ Less → AllByRecursion (λ l. order b l ≡ Less) lines → AllByRecursion (λ l. order a l ≡ Less) lines
above_all a b [] less h = tt
above_all a b (l ∷ lines) less h = (nat_list_cmp_total.trans a b l less h.0, above_all a b lines less h.1)

-- lines in strict order, with one line more
record IsPut (line : Line) (old new : List Line) : Type 0 where
  sorted : IsStrictlySortedBy order new
  each : (l : Line) → Contains new l → (l ≡ line) ⊎ Contains old l
  here : Contains new line
  all : (l : Line) → Contains old l → Contains new l
  below : (x : Line) → order x line ≡ Less → AllByRecursion (λ l. order x l ≡ Less) old → AllByRecursion (λ l. order x l ≡ Less) new

first_case : (line x l : Line) (xs new : List Line) → (x ≡ l) ⊎ Contains new l → ((m : Line) → Contains new m → (m ≡ line) ⊎ Contains xs m) → (l ≡ line) ⊎ Contains (x ∷ xs) l
first_case line x l xs new (inl e) each = inr (subst (λ m. Contains (x ∷ xs) m) e (first_in x xs))
first_case line x l xs new (inr h) each = later (each l h)
  where
    later : (l ≡ line) ⊎ Contains xs l → (l ≡ line) ⊎ Contains (x ∷ xs) l
    later (inl e) = inl e
    later (inr g) = inr (later_in x l xs g)

first_kept : (x l : Line) (xs new : List Line) → (x ≡ l) ⊎ Contains xs l → ((m : Line) → Contains xs m → Contains new m) → Contains (x ∷ new) l
first_kept x l xs new (inl e) all = subst (λ m. Contains (x ∷ new) m) e (first_in x new)
first_kept x l xs new (inr h) all = later_in x l new (all l h)

either_in : (x l : Line) (xs : List Line) → Contains (x ∷ xs) l → (x ≡ l) ⊎ Contains xs l
either_in x l xs h = first_or_later x l xs h.0 h.1 h.2

put_at : (line x : Line) (xs : List Line) (o : Ordering) → order line x ≡ o → IsStrictlySortedBy order (x ∷ xs)
    → ((new : List Line) × IsPut line xs new) → (new : List Line) × IsPut line (x ∷ xs) new
unfolding IsStrictlySortedBy
put_at line x xs Less e s rest = (
  line ∷ x ∷ xs,
  record {
    sorted = ((e, above_all line x xs e s.0), s);
    each = λ l h. new_case l (either_in line l (x ∷ xs) h);
    here = first_in line (x ∷ xs);
    all = λ l h. later_in line l (x ∷ xs) h;
    below = λ y p h. (p, h);
  },
)
  where
    new_case : (l : Line) → (line ≡ l) ⊎ Contains (x ∷ xs) l → (l ≡ line) ⊎ Contains (x ∷ xs) l
    new_case l (inl g) = inl (sym g)
    new_case l (inr g) = inr g
put_at line x xs Equal e s rest =
    let same = exact_bytes line x e in (
      x ∷ xs,
      record {
        sorted = s;
        each = λ l h. inr h;
        here = subst (λ m. Contains (x ∷ xs) m) (sym same) (first_in x xs);
        all = λ l h. h;
        below = λ y p h. h;
      },
    )
put_at line x xs Greater e s rest =
    let below : order x line ≡ Less = nat_list_cmp_total.antisymm x line ∙ ap ordering_reverse e in (
      x ∷ rest.0,
      record {
        sorted = (rest.1.below x below s.0, rest.1.sorted);
        each = λ l h. first_case line x l xs rest.0 (either_in x l rest.0 h) rest.1.each;
        here = later_in x line rest.0 rest.1.here;
        all = λ l h. first_kept x l xs rest.0 (either_in x l xs h) rest.1.all;
        below = λ y p h. (h.0, rest.1.below y p h.1);
      },
    )

put_in : (line : Line) (old : List Line) → IsStrictlySortedBy order old → (new : List Line) × IsPut line old new
unfolding IsStrictlySortedBy
put_in line [] s = (
  line ∷ [],
  record {
    sorted = (tt, tt);
    each = λ l h. only l (either_in line l [] h);
    here = first_in line [];
    all = λ l h. absurd (none_in l h);
    below = λ y p h. (p, h);
  },
)
  where
    only : (l : Line) → (line ≡ l) ⊎ Contains [] l → (l ≡ line) ⊎ Contains [] l
    only l (inl g) = inl (sym g)
    only l (inr g) = inr g
put_in line (x ∷ xs) s = put_at line x xs (order line x) refl s (put_in line xs s.1)

-- a list of lines is a set
set_of : (lines : List Line) → (new : List Line) × IsSetOf lines new
unfolding IsStrictlySortedBy
set_of [] = ([], record { sorted = tt; each = λ l h. h; all = λ l h. h })
set_of (line ∷ lines) =
    let rest = set_of lines in
    let put = put_in line rest.0 rest.1.sorted in (
      put.0,
      record {
        sorted = put.1.sorted;
        each = λ l h. one_of rest.0 l (put.1.each l h) rest.1.each;
        all = λ l h. kept rest.0 put.0 l (either_in line l lines h) put.1 rest.1.all;
      },
    )
  where
    one_of : (old : List Line) (l : Line) → (l ≡ line) ⊎ Contains old l → ((m : Line) → Contains old m → Contains lines m) → Contains (line ∷ lines) l
    one_of old l (inl e) each = subst (λ m. Contains (line ∷ lines) m) (sym e) (first_in line lines)
    one_of old l (inr h) each = later_in line l lines (each l h)

    kept : (old new : List Line) (l : Line) → (line ≡ l) ⊎ Contains lines l → IsPut line old new → ((m : Line) → Contains lines m → Contains old m) → Contains new l
    kept old new l (inl e) put all = subst (λ m. Contains new m) e put.here
    kept old new l (inr h) put all = put.all l (all l h)

-- each list of lines has a text
pub some_text : (lines : List Line) → (text : List ℕ) × IsTextOf (StandsIn lines) text
some_text lines =
    let set = set_of lines in
    (lines_text set.0, record { lines = set.0; sorted = set.1.sorted; each = set.1.each; all = set.1.all; is = refl })
