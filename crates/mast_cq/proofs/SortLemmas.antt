-- The tests of sorts decide what the definitions say.
use Rattle.std.proofs.Common.{◌≡◌, List, [], ◌∷◌, ◌++◌, Bool, true, false, ◌&&◌, ◌||◌, Option, Some, None, ◌⊎◌, inl, inr, refl, sym, ap, subst, ◌∙◌, MatchOption, if◌then◌else◌}
use borrow.Author.Tests.{eqb-true, eq-eqb}
use Rattle.mast_cq.specs.declared.atom.Arg.{Arg}
use Rattle.mast_cq.specs.declared.atom.Arg.TheVariants.{Blank, Var, Constant}
use Rattle.mast_cq.specs.declared.atom.Atom.{Atom}
use Rattle.mast_cq.specs.Queries.{In, or_else}
use Rattle.mast_cq.specs.Sorts.{objects_of, values_of, arguments_of, of_all, Clashes, EachHasOneSort, IsFirst, IsSortBreach, HasSortAnswer, HasOneSortAnswer}
use Rattle.mast_cq.proofs.ListLemmas.{in_append, append_left, append_right}
use Rattle.mast_cq.specs.inside.SortTests.{same_arg, stands, stands_in, clashes, first_where, first_in}

-- arguments that the test calls one are one, and the other way
same_is : (x y : Arg) → same_arg x y ≡ true → x ≡ y
same_is Blank Blank e = refl
same_is Blank (Var y) e = cc
same_is Blank (Constant d) e = cc
same_is (Var x) Blank e = cc
same_is (Var x) (Var y) e = ap Var (eqb-true x y e)
same_is (Var x) (Constant d) e = cc
same_is (Constant c) Blank e = cc
same_is (Constant c) (Var y) e = cc
same_is (Constant c) (Constant d) e = ap Constant (eqb-true c d e)

same_self : (x : Arg) → same_arg x x ≡ true
same_self Blank = refl
same_self (Var x) = eq-eqb x x refl
same_self (Constant c) = eq-eqb c c refl

same_one : (x y : Arg) → x ≡ y → same_arg x y ≡ true
same_one x y e = subst (λ z. same_arg x z ≡ true) e (same_self x)

-- of two tests one holds
or_in : (a b : Bool) → (a || b) ≡ true → (a ≡ true) ⊎ (b ≡ true)
or_in true b e = inl refl
or_in false b e = inr e

or_left : (a b : Bool) → a ≡ true → (a || b) ≡ true
or_left true b e = refl
or_left false b e = cc

or_right : (a b : Bool) → b ≡ true → (a || b) ≡ true
or_right true b e = refl
or_right false b e = e

and_in : (a b : Bool) → (a && b) ≡ true → (a ≡ true) × (b ≡ true)
and_in true b e = (refl, e)
and_in false b e = absurd (cc)

and_both : (a b : Bool) → a ≡ true → b ≡ true → (a && b) ≡ true
and_both true b d e = e
and_both false b d e = cc

-- the test of a list
stands_is : (x : Arg) (ys : List Arg) → stands x ys ≡ true → In x ys
stands_is x [] e = absurd (cc)
stands_is x (y ∷ ys) e = elim (or_in (same_arg x y) (stands x ys) e) [ inl a ↦ inl (same_is x y a) | inr b ↦ inr (stands_is x ys b) ]

is_stands : (x : Arg) (ys : List Arg) → In x ys → stands x ys ≡ true
is_stands x [] h = absurd h
is_stands x (y ∷ ys) (inl e) = or_left (same_arg x y) (stands x ys) (same_one x y e)
is_stands x (y ∷ ys) (inr h) = or_right (same_arg x y) (stands x ys) (is_stands x ys h)

-- the test of all atoms
stands_in_is : (f : Atom → List Arg) (x : Arg) (gs : List Atom) → stands_in f x gs ≡ true → In x (of_all f gs)
stands_in_is f x [] e = absurd (cc)
stands_in_is f x (g ∷ gs) e = elim (or_in (stands x (f g)) (stands_in f x gs) e) [
  | inl a ↦ append_left x (f g) (of_all f gs) (stands_is x (f g) a)
  | inr b ↦ append_right x (f g) (of_all f gs) (stands_in_is f x gs b)
]

is_stands_in : (f : Atom → List Arg) (x : Arg) (gs : List Atom) → In x (of_all f gs) → stands_in f x gs ≡ true
is_stands_in f x [] h = absurd h
is_stands_in f x (g ∷ gs) h = elim (in_append x (f g) (of_all f gs) h) [
  | inl a ↦ or_left (stands x (f g)) (stands_in f x gs) (is_stands x (f g) a)
  | inr b ↦ or_right (stands x (f g)) (stands_in f x gs) (is_stands_in f x gs b)
]

-- the test of a clash
clashes_is : (gs : List Atom) (x : Arg) → clashes gs x ≡ true → Clashes gs x
clashes_is gs Blank e = cc
clashes_is gs (Var x) e =
    let k = and_in (stands_in objects_of (Var x) gs) (stands_in values_of (Var x) gs) e in
    (stands_in_is objects_of (Var x) gs k.0, stands_in_is values_of (Var x) gs k.1)
clashes_is gs (Constant c) e = stands_in_is objects_of (Constant c) gs e

is_clashes : (gs : List Atom) (x : Arg) → Clashes gs x → clashes gs x ≡ true
is_clashes gs Blank h = absurd h
is_clashes gs (Var x) h = and_both (stands_in objects_of (Var x) gs) (stands_in values_of (Var x) gs) (is_stands_in objects_of (Var x) gs h.0) (is_stands_in values_of (Var x) gs h.1)
is_clashes gs (Constant c) h = is_stands_in objects_of (Constant c) gs h

-- the first of a list that passes a test, and none
abbrev pub FoundBy : (Arg → Bool) → (Arg → Type 0) → List Arg → Option Arg → Type 0
FoundBy p P xs o = MatchOption o ((x : Arg) → In x xs → P x → ⊥) (λ x. IsFirst P xs x)

module _ (p : Arg → Bool) (P : Arg → Type 0) (sound : (x : Arg) → p x ≡ true → P x) (complete : (x : Arg) → P x → p x ≡ true) where
  not_held : (x : Arg) → p x ≡ false → P x → ⊥
  not_held x e h = let k = complete x h in cc

  found_later : (x : Arg) (xs : List Arg) (o : Option Arg) → p x ≡ false → FoundBy p P xs o → FoundBy p P (x ∷ xs) o
  found_later x xs None e k = λ y i h. elim i [ inl d ↦ not_held x e (subst P d h) | inr j ↦ k y j h ]
  found_later x xs (Some y) e k = inr (not_held x e, k)

  found_step : (x : Arg) (xs : List Arg) (b : Bool) → p x ≡ b → FoundBy p P xs (first_where p xs) → FoundBy p P (x ∷ xs) (if b then Some x else first_where p xs)
  found_step x xs true e k = inl (refl, sound x e)
  found_step x xs false e k = found_later x xs (first_where p xs) e k

  pub found : (xs : List Arg) → FoundBy p P xs (first_where p xs)
  found [] = λ x i h. i
  found (x ∷ xs) = found_step x xs (p x) refl (found xs)

-- the first of two lists
first_append_case : (p : Arg → Bool) (x : Arg) (xs ys : List Arg) (b : Bool) → first_where p (xs ++ ys) ≡ or_else (first_where p xs) (first_where p ys)
    → (if b then Some x else first_where p (xs ++ ys)) ≡ or_else (if b then Some x else first_where p xs) (first_where p ys)
first_append_case p x xs ys true e = refl
first_append_case p x xs ys false e = e

first_append : (p : Arg → Bool) (xs ys : List Arg) → first_where p (xs ++ ys) ≡ or_else (first_where p xs) (first_where p ys)
first_append p [] ys = refl
first_append p (x ∷ xs) ys = first_append_case p x xs ys (p x) (first_append p xs ys)

-- the first of the arguments of all atoms
first_in_is : (p : Arg → Bool) (gs : List Atom) → first_in p gs ≡ first_where p (of_all arguments_of gs)
first_in_is p [] = refl
first_in_is p (g ∷ gs) = ap (or_else (first_where p (arguments_of g))) (first_in_is p gs) ∙ sym (first_append p (arguments_of g) (of_all arguments_of gs))

-- the first argument that clashes is the sort breach
pub first_clash_is : (gs : List Atom) → MatchOption (first_in (clashes gs) gs) (EachHasOneSort gs) (IsSortBreach gs)
first_clash_is gs = subst (λ o. MatchOption o (EachHasOneSort gs) (IsSortBreach gs)) (sym (first_in_is (clashes gs) gs))
    (found (clashes gs) (Clashes gs) (clashes_is gs) (is_clashes gs) (of_all arguments_of gs))

-- there is something that may be said of each query's sorts
pub sort_answer : (gs : List Atom) → HasSortAnswer gs
sort_answer gs = go (first_in (clashes gs) gs) (first_clash_is gs)
  where
    go : (o : Option Arg) → MatchOption o (EachHasOneSort gs) (IsSortBreach gs) → HasSortAnswer gs
    go None h = record { said = None; is = h }
    go (Some x) h = record { said = Some (record { arg = x }); is = h }

-- a list has one first element at most with P
first_one : (P : Arg → Type 0) (xs : List Arg) (x y : Arg) → IsFirst P xs x → IsFirst P xs y → x ≡ y
first_one P [] x y h k = absurd h
first_one P (z ∷ xs) x y (inl h) (inl k) = h.0 ∙ sym k.0
first_one P (z ∷ xs) x y (inl h) (inr k) = absurd (k.0 h.1)
first_one P (z ∷ xs) x y (inr h) (inl k) = absurd (h.0 k.1)
first_one P (z ∷ xs) x y (inr h) (inr k) = first_one P xs x y h.1 k.1

-- the first with P is in the list, and has P
first_in_list : (P : Arg → Type 0) (xs : List Arg) (x : Arg) → IsFirst P xs x → In x xs × P x
first_in_list P [] x h = absurd h
first_in_list P (z ∷ xs) x (inl h) = (inl h.0, subst P (sym h.0) h.1)
first_in_list P (z ∷ xs) x (inr h) = let w = first_in_list P xs x h.1 in (inr w.0, w.1)

-- a breach leaves no query in which each argument has one sort
breach_not_one : (gs : List Atom) (x : Arg) → IsSortBreach gs x → EachHasOneSort gs → ⊥
breach_not_one gs x b o = let w = first_in_list (Clashes gs) (of_all arguments_of gs) x b in o x w.0 w.1

-- and nothing else may be said
pub sort_answer_one : (gs : List Atom) → HasOneSortAnswer gs
sort_answer_one gs None None h k = refl
sort_answer_one gs None (Some y) h k = absurd (breach_not_one gs y.arg k h)
sort_answer_one gs (Some x) None h k = absurd (breach_not_one gs x.arg h k)
sort_answer_one gs (Some x) (Some y) h k = ap (λ a. Some (record { arg = a })) (first_one (Clashes gs) (of_all arguments_of gs) x.arg y.arg h k)
