-- A set of lines has one text.
use Rattle.std.proofs.Common.{◌≡◌, ◌<◌, ℕ, zero, suc, ◌⊎◌, inl, inr, List, [], ◌∷◌, length, subst, sym, ap, ◌∙◌, refl, nat_cmp, Less, Greater, Ordering, Contains, slice_index_or, arith}
use Rattle.std.specs.Ordering.{ordering_reverse}
use Rattle.std.specs.List.{AllByRecursion}
use Rattle.std.specs.List.Sorted.{IsStrictlySortedBy}
use Rattle.std.specs.Cmp.Lexicographic.{slice_cmp, nat_list_cmp_total}
use Rattle.mast_write.specs.LineText.{AreSame, IsTextOf, lines_text}

-- a line
abbrev pub Line : Type 0
Line = List ℕ

-- lines are ordered by their bytes
abbrev pub order : Line → Line → Ordering
order = slice_cmp nat_cmp

-- members of a list

-- a member of a list is its first or one of the others
pub first_or_later : (y x : Line) (ys : List Line) (k : ℕ) → k < length (y ∷ ys) → slice_index_or (y ∷ ys) k x ≡ x → (y ≡ x) ⊎ Contains ys x
first_or_later y x ys zero less e = inl e
first_or_later y x ys (suc k) less e = inr (k, (omega arith), e)

-- the first is a member
pub first_in : (y : Line) (ys : List Line) → Contains (y ∷ ys) y
first_in y ys = (zero, (omega arith), refl)

-- the others are members
pub later_in : (y x : Line) (ys : List Line) → Contains ys x → Contains (y ∷ ys) x
later_in y x ys h = (suc h.0, (let less = h.1 in omega arith), h.2)

-- the empty list has no member
pub none_in : (x : Line) → Contains [] x → ⊥
none_in x h = let less = h.1 in absurd (omega arith)

all_of : (P : Line → Type 0) (ys : List Line) → AllByRecursion P ys → (x : Line) (k : ℕ) → k < length ys → slice_index_or ys k x ≡ x → P x
all_of P [] h x k less e = absurd (omega arith)
all_of P (y ∷ ys) h x zero less e = subst P e h.0
all_of P (y ∷ ys) h x (suc k) less e = all_of P ys h.1 x k (omega arith) e

-- the order is strict

not_itself : (x : Line) → order x x ≡ Less → ⊥
not_itself x h = let e : ◌≡◌ {A = Ordering} Less Greater = sym h ∙ nat_list_cmp_total.antisymm x x ∙ ap ordering_reverse h in absurd (cc)

not_both : (x y : Line) → order x y ≡ Less → order y x ≡ Less → ⊥
not_both x y h g = not_itself x (nat_list_cmp_total.trans x y x h g)

same_first : (x y : Line) (xs ys : List Line) → AllByRecursion (λ l. order x l ≡ Less) xs → AllByRecursion (λ l. order y l ≡ Less) ys → (y ≡ x) ⊎ Contains ys x → (x ≡ y) ⊎ Contains xs y → x ≡ y
same_first x y xs ys above below (inl e) there = sym e
same_first x y xs ys above below (inr h) (inl e) = e
same_first x y xs ys above below (inr h) (inr g) = absurd (not_both x y (all_of (λ l. order x l ≡ Less) xs above y g.0 g.1 g.2) (all_of (λ l. order y l ≡ Less) ys below x h.0 h.1 h.2))

-- a member of the rest is one of the other's rest
rest_in : (x y : Line) (xs ys : List Line) → x ≡ y → AllByRecursion (λ l. order x l ≡ Less) xs → (l : Line) → Contains xs l → (y ≡ l) ⊎ Contains ys l → Contains ys l
rest_in x y xs ys e above l h (inr g) = g
rest_in x y xs ys e above l h (inl g) = absurd (not_itself l (subst (λ z. order z l ≡ Less) (e ∙ g) (all_of (λ z. order x z ≡ Less) xs above l h.0 h.1 h.2)))

-- two lists in strict order with the same members are one
same_lines : (xs ys : List Line) → IsStrictlySortedBy order xs → IsStrictlySortedBy order ys → ((l : Line) → Contains xs l → Contains ys l) → ((l : Line) → Contains ys l → Contains xs l) → xs ≡ ys
unfolding IsStrictlySortedBy
same_lines [] [] s t to from = refl
same_lines [] (y ∷ ys) s t to from = absurd (none_in y (from y (first_in y ys)))
same_lines (x ∷ xs) [] s t to from = absurd (none_in x (to x (first_in x xs)))
same_lines (x ∷ xs) (y ∷ ys) s t to from =
    let x_there = to x (first_in x xs) in
    let y_there = from y (first_in y ys) in
    let e = same_first x y xs ys s.0 t.0 (first_or_later y x ys x_there.0 x_there.1 x_there.2) (first_or_later x y xs y_there.0 y_there.1 y_there.2) in
    let rest = same_lines xs ys s.1 t.1
    (λ l h. let there = to l (later_in x l xs h) in rest_in x y xs ys e s.0 l h (first_or_later y l ys there.0 there.1 there.2))
    (λ l h. let there = from l (later_in y l ys h) in rest_in y x ys xs (sym e) t.0 l h (first_or_later x l xs there.0 there.1 there.2)) in
    ap (λ z. z ∷ xs) e ∙ ap (λ zs. y ∷ zs) rest

-- a set of lines has one text
pub one_text : (IsLine IsOther : Line → Type 0) (text other : List ℕ) → AreSame IsLine IsOther → IsTextOf IsLine text → IsTextOf IsOther other → text ≡ other
one_text IsLine IsOther text other same a b =
    a.is
    ∙ ap lines_text (same_lines a.lines b.lines a.sorted b.sorted (λ l h. b.all l (same.to l (a.each l h))) (λ l h. a.all l (same.from l (b.each l h))))
    ∙ sym b.is

-- the text of a set of lines is that of each set with the same members
pub text_of_same : (IsLine IsOther : Line → Type 0) (text : List ℕ) → AreSame IsLine IsOther → IsTextOf IsLine text → IsTextOf IsOther text
text_of_same IsLine IsOther text same a = record {
  lines = a.lines;
  sorted = a.sorted;
  each = λ l h. same.to l (a.each l h);
  all = λ l h. a.all l (same.from l h);
  is = a.is;
}
