-- The numbers of the existential inclusions are less than their count.
use Rattle.std.proofs.Common.{append_assoc, append-nil, ◌≡◌, ℕ, suc, ◌+◌, ◌≤◌, ◌<◌, ◌⊎◌, inl, inr, Option, Some, None, Contains, ap, ◌∙◌, List, [], ◌∷◌, ◌++◌, length, drop, slice_index_or, refl, sym, subst, arith}
use Rattle.std.proofs.lemmas.List.{drop_more}
use Rattle.std.proofs.lemmas.List.Elements.{Contains-append_left, Contains-append_right, Contains-append_cases}
use Rattle.mast_terms.specs.declared.name.Name.{Name}
use Rattle.mast_tbox.specs.declared.expression.RoleExpr.{RoleExpr}
use Rattle.mast_tbox.specs.declared.expression.RoleExpr.TheVariants.{Direct, Inverse}
use Rattle.mast_tbox.specs.declared.expression.Basic.{Basic}
use Rattle.mast_tbox.specs.declared.expression.Basic.TheVariants.{Some as BSome}
use Rattle.mast_tbox.specs.declared.axiom.Inclusion.{Inclusion}
use Rattle.mast_tbox.specs.declared.axiom.Inclusion.TheVariants.{Class as IClass, Exists, HasValue, Role as IRole, Attr as IAttr, Range}
use Rattle.mast_tbox.specs.declared.axiom.Lined.{Lined}
use Rattle.mast_tbox.specs.Inclusions.{auxiliary, normal_of, normal}
use Rattle.mast_tbox.specs.Lists.{items}
use Rattle.mast_tbox.proofs.MemberLemmas.{front, later, none, first_or, only_one}
use Rattle.mast_tbox.specs.Numbers.{number_of, numbers, counted, IsNumbered}
use Rattle.mast_tbox.specs.inside.Bounds.{AllBelow}

counted_below : (n : ℕ) (ks : List ℕ) (bound : ℕ) → n + length ks ≤ bound → AllBelow bound (counted n ks)
counted_below n [] bound l = tt
counted_below n (k ∷ ks) bound l = (omega arith, counted_below (suc n) ks bound (omega arith))

below_front : (bound : ℕ) (xs ys : List ℕ) → AllBelow bound (xs ++ ys) → AllBelow bound xs × AllBelow bound ys
below_front bound [] ys h = (tt, h)
below_front bound (x ∷ xs) ys h = let w = below_front bound xs ys h.1 in ((h.0, w.0), w.1)

one_number : (i : Inclusion) (ks : List ℕ) → length (number_of i ++ ks) ≤ suc (length ks)
one_number (IClass b a) ks = omega arith
one_number (Exists b r end k) ks = omega arith
one_number (HasValue b u k) ks = omega arith
one_number (IRole r s) ks = omega arith
one_number (IAttr u v) ks = omega arith
one_number (Range u kind) ks = omega arith

fewer : (ls : List (Lined Inclusion)) → length (numbers ls) ≤ length ls
fewer [] = omega arith
fewer (l ∷ ls) = let a = one_number l.item (numbers ls) in let b = fewer ls in omega arith

-- each number is less than a bound on the count of the inclusions
pub numbers_below : (ls : List (Lined Inclusion)) (bound : ℕ) → IsNumbered ls → length ls ≤ bound → AllBelow bound (numbers ls)
numbers_below ls bound e l = subst (AllBelow bound) (sym e) (counted_below 0 (numbers ls) bound (let h = fewer ls in omega arith))

-- so is that at each place, and each of the rest
below_rest : (bound : ℕ) (l : Lined Inclusion) (ls : List (Lined Inclusion)) → AllBelow bound (numbers (l ∷ ls)) → AllBelow bound (number_of l.item) × AllBelow bound (numbers ls)
below_rest bound l ls h = below_front bound (number_of l.item) (numbers ls) h

-- where the numbers of the rest are less than a bound, that at a place is
pub below_at : (bound : ℕ) (ls : List (Lined Inclusion)) (i : ℕ) (d : Lined Inclusion) → i < length ls → AllBelow bound (numbers (drop i ls)) → AllBelow bound (number_of (slice_index_or ls i d).item)
below_at bound ls i d l h = (below_rest bound (slice_index_or ls i d) (drop (i + 1) ls) (subst (λ w. AllBelow bound (numbers w)) (drop_more ls i d l) h)).0

pub below_next : (bound : ℕ) (ls : List (Lined Inclusion)) (i : ℕ) (d : Lined Inclusion) → i < length ls → AllBelow bound (numbers (drop i ls)) → AllBelow bound (numbers (drop (i + 1) ls))
below_next bound ls i d l h = (below_rest bound (slice_index_or ls i d) (drop (i + 1) ls) (subst (λ w. AllBelow bound (numbers w)) (drop_more ls i d l) h)).1

-- so is that of each inclusion
pub number_small : (bound : ℕ) (ls : List (Lined Inclusion)) (i : Inclusion) (k : ℕ) → AllBelow bound (numbers ls) → Contains (items ls) i → number_of i ≡ k ∷ [] → k < bound
number_small bound [] i k h c e = absurd (none i c)
number_small bound (l ∷ ls) i k h c e =
    let w = below_front bound (number_of l.item) (numbers ls) h in
    elim (first_or l.item (items ls) i c) [
      | inl f ↦ (subst (AllBelow bound) (ap number_of (sym f) ∙ e) w.0).0
      | inr d ↦ number_small bound ls i k w.1 d e
    ]

-- the numbers of the inclusions go up from n
abbrev pub From : ℕ → List (Lined Inclusion) → Type 0
From n ls = numbers ls ≡ counted n (numbers ls)

numbered_or : (i : Inclusion) → (number_of i ≡ []) ⊎ ((k : ℕ) × (number_of i ≡ k ∷ []))
numbered_or (IClass b a) = inl refl
numbered_or (Exists b r end k) = inr (k, refl)
numbered_or (HasValue b u k) = inr (k, refl)
numbered_or (IRole r s) = inl refl
numbered_or (IAttr u v) = inl refl
numbered_or (Range u kind) = inl refl

rest_none : (n : ℕ) (l : Lined Inclusion) (ls : List (Lined Inclusion)) → number_of l.item ≡ [] → From n (l ∷ ls) → From n ls
rest_none n l ls e h = subst (λ w. w ++ numbers ls ≡ counted n (w ++ numbers ls)) e h

rest_some : (n k : ℕ) (l : Lined Inclusion) (ls : List (Lined Inclusion)) → number_of l.item ≡ k ∷ [] → From n (l ∷ ls) → (k ≡ n) × From (suc n) ls
rest_some n k l ls e h = let g : k ∷ numbers ls ≡ n ∷ counted (suc n) (numbers ls) = subst (λ w. w ++ numbers ls ≡ counted n (w ++ numbers ls)) e h in (cc, cc)

same_number : (j k : ℕ) (xs : List ℕ) → xs ≡ j ∷ [] → xs ≡ k ∷ [] → j ≡ k
same_number j k xs e f = cc

-- so each is n or more, and no two inclusions have one
at_least : (n : ℕ) (ls : List (Lined Inclusion)) → From n ls → (i : Inclusion) (k : ℕ) → Contains (items ls) i → number_of i ≡ k ∷ [] → n ≤ k
at_least n [] h i k c e = absurd (none i c)
at_least n (l ∷ ls) h i k c e = elim (numbered_or l.item) [
  | inl z ↦ elim (first_or l.item (items ls) i c) [
    | inl f ↦ absurd (let g : [] ≡ k ∷ [] = sym z ∙ (ap number_of (sym f) ∙ e) in cc)
    | inr d ↦ at_least n ls (rest_none n l ls z h) i k d e
  ]
  | inr s ↦ let r = rest_some n s.0 l ls s.1 h in elim (first_or l.item (items ls) i c) [
    | inl f ↦ let g : s.0 ≡ k = same_number s.0 k (number_of l.item) s.1 (ap number_of (sym f) ∙ e) in let q = r.0 in omega arith
    | inr d ↦ let g = at_least (suc n) ls r.1 i k d e in omega arith
  ]
]

one_of : (n : ℕ) (ls : List (Lined Inclusion)) → From n ls → (i j : Inclusion) (k : ℕ) → Contains (items ls) i → Contains (items ls) j → number_of i ≡ k ∷ [] → number_of j ≡ k ∷ [] → i ≡ j
one_of n [] h i j k c d e f = absurd (none i c)
one_of n (l ∷ ls) h i j k c d e f = elim (first_or l.item (items ls) i c) [
  | inl p ↦ elim (first_or l.item (items ls) j d) [
    | inl q ↦ p ∙ sym q
    | inr b ↦ let r = rest_some n k l ls (ap number_of (sym p) ∙ e) h in let g = at_least (suc n) ls r.1 j k b f in let q = r.0 in absurd (omega arith)
  ]
  | inr a ↦ elim (first_or l.item (items ls) j d) [
    | inl q ↦ let r = rest_some n k l ls (ap number_of (sym q) ∙ f) h in let g = at_least (suc n) ls r.1 i k a e in let p = r.0 in absurd (omega arith)
    | inr b ↦ elim (numbered_or l.item) [
      | inl z ↦ one_of n ls (rest_none n l ls z h) i j k a b e f
      | inr s ↦ one_of (suc n) ls (rest_some n s.0 l ls s.1 h).1 i j k a b e f
    ]
  ]
]

-- each number is of one stated inclusion at most
pub one_inclusion : (ls : List (Lined Inclusion)) (i j : Inclusion) (k : ℕ) → IsNumbered ls → Contains (items ls) i → Contains (items ls) j → number_of i ≡ k ∷ [] → number_of j ≡ k ∷ [] → i ≡ j
one_inclusion ls i j k h c d e f = one_of 0 ls h i j k c d e f

-- the stated inclusion that a normal one comes from
pub record Source (tbox : List Inclusion) (i : Inclusion) : Type 0 where
  pub stated : Inclusion
  pub stands : Contains tbox stated
  pub gives : Contains (normal_of stated) i

-- each normal inclusion comes from a stated one
pub source_of : (tbox : List Inclusion) (i : Inclusion) → Contains (normal tbox) i → Source tbox i
source_of [] i c = absurd (none i c)
source_of (j ∷ is) i c = elim (Contains-append_cases (normal_of j) (normal is) i c) [
  | inl a ↦ record { stated = j; stands = front j is; gives = a }
  | inr a ↦ let w = source_of is i a in record { stated = w.stated; stands = later w.stated j is w.stands; gives = w.gives }
]

-- and what stands for a stated one is normal
pub normal_has : (tbox : List Inclusion) (s i : Inclusion) → Contains tbox s → Contains (normal_of s) i → Contains (normal tbox) i
normal_has [] s i c g = absurd (none s c)
normal_has (j ∷ is) s i c g = elim (first_or j is s c) [
  | inl e ↦ Contains-append_left (normal_of j) (normal is) i (subst (λ w. Contains (normal_of w) i) e g)
  | inr d ↦ Contains-append_right (normal_of j) (normal is) i (normal_has is s i d g)
]

-- among the three of a qualified inclusion the last has the number
last_of : (b : Basic) (r : RoleExpr) (a : Name) (n k : ℕ) (i : Inclusion) → Contains (normal_of (Exists b r (Some a) n)) i → number_of i ≡ k ∷ [] → i ≡ Exists b (Direct (auxiliary n)) None n
last_of b r a n k i c e = elim (first_or (IRole (Direct (auxiliary n)) r) (IClass (BSome (Inverse (auxiliary n))) a ∷ Exists b (Direct (auxiliary n)) None n ∷ []) i c) [
  | inl f ↦ absurd (let g : [] ≡ k ∷ [] = sym (ap number_of f) ∙ e in cc)
  | inr d ↦ elim (first_or (IClass (BSome (Inverse (auxiliary n))) a) (Exists b (Direct (auxiliary n)) None n ∷ []) i d) [
    | inl f ↦ absurd (let g : [] ≡ k ∷ [] = sym (ap number_of f) ∙ e in cc)
    | inr f ↦ only_one (Exists b (Direct (auxiliary n)) None n) i f
  ]
]

-- the numbered inclusion of a stated one, with its number
numbered_of : (s i : Inclusion) (k : ℕ) → Contains (normal_of s) i → number_of i ≡ k ∷ [] → number_of s ≡ k ∷ []
numbered_of (IClass b a) i k c e = sym (ap number_of (only_one (IClass b a) i c)) ∙ e
numbered_of (Exists b r None n) i k c e = sym (ap number_of (only_one (Exists b r None n) i c)) ∙ e
numbered_of (Exists b r (Some a) n) i k c e = sym (ap number_of (last_of b r a n k i c e)) ∙ e
numbered_of (HasValue b u n) i k c e = sym (ap number_of (only_one (HasValue b u n) i c)) ∙ e
numbered_of (IRole r s) i k c e = sym (ap number_of (only_one (IRole r s) i c)) ∙ e
numbered_of (IAttr u v) i k c e = sym (ap number_of (only_one (IAttr u v) i c)) ∙ e
numbered_of (Range u kind) i k c e = absurd (none i c)

one_normal : (s i j : Inclusion) (k : ℕ) → Contains (normal_of s) i → Contains (normal_of s) j → number_of i ≡ k ∷ [] → number_of j ≡ k ∷ [] → i ≡ j
one_normal (IClass b a) i j k c d e f = only_one (IClass b a) i c ∙ sym (only_one (IClass b a) j d)
one_normal (Exists b r None n) i j k c d e f = only_one (Exists b r None n) i c ∙ sym (only_one (Exists b r None n) j d)
one_normal (Exists b r (Some a) n) i j k c d e f = last_of b r a n k i c e ∙ sym (last_of b r a n k j d f)
one_normal (HasValue b u n) i j k c d e f = only_one (HasValue b u n) i c ∙ sym (only_one (HasValue b u n) j d)
one_normal (IRole r s) i j k c d e f = only_one (IRole r s) i c ∙ sym (only_one (IRole r s) j d)
one_normal (IAttr u v) i j k c d e f = only_one (IAttr u v) i c ∙ sym (only_one (IAttr u v) j d)
one_normal (Range u kind) i j k c d e f = absurd (none i c)

-- each number is of one normal inclusion at most
pub one_normal_inclusion : (ls : List (Lined Inclusion)) (i j : Inclusion) (k : ℕ) → IsNumbered ls → Contains (normal (items ls)) i → Contains (normal (items ls)) j → number_of i ≡ k ∷ [] → number_of j ≡ k ∷ [] → i ≡ j
one_normal_inclusion ls i j k h c d e f =
    let v = source_of (items ls) i c in
    let w = source_of (items ls) j d in
    let g : v.stated ≡ w.stated = one_inclusion ls v.stated w.stated k h v.stands w.stands (numbered_of v.stated i k v.gives e) (numbered_of w.stated j k w.gives f) in
    one_normal w.stated i j k (subst (λ s. Contains (normal_of s) i) g v.gives) w.gives e f

abbrev end_of : Inclusion → Option Name
end_of (IClass b a) = None
end_of (Exists b r end k) = end
end_of (HasValue b u k) = None
end_of (IRole r s) = None
end_of (IAttr u v) = None
end_of (Range u kind) = None

no_end_of : (s i : Inclusion) → Contains (normal_of s) i → end_of i ≡ None
no_end_of (IClass b a) i c = ap end_of (only_one (IClass b a) i c)
no_end_of (Exists b r None n) i c = ap end_of (only_one (Exists b r None n) i c)
no_end_of (Exists b r (Some a) n) i c = elim (first_or (IRole (Direct (auxiliary n)) r) (IClass (BSome (Inverse (auxiliary n))) a ∷ Exists b (Direct (auxiliary n)) None n ∷ []) i c) [
  | inl f ↦ ap end_of f
  | inr d ↦ elim (first_or (IClass (BSome (Inverse (auxiliary n))) a) (Exists b (Direct (auxiliary n)) None n ∷ []) i d) [
    | inl f ↦ ap end_of f
    | inr f ↦ ap end_of (only_one (Exists b (Direct (auxiliary n)) None n) i f)
  ]
]
no_end_of (HasValue b u n) i c = ap end_of (only_one (HasValue b u n) i c)
no_end_of (IRole r s) i c = ap end_of (only_one (IRole r s) i c)
no_end_of (IAttr u v) i c = ap end_of (only_one (IAttr u v) i c)
no_end_of (Range u kind) i c = absurd (none i c)

-- no normal inclusion says which class its filler is in
pub no_end : (tbox : List Inclusion) (b : Basic) (r : RoleExpr) (end : Option Name) (k : ℕ) → Contains (normal tbox) (Exists b r end k) → end ≡ None
no_end tbox b r end k c = let w = source_of tbox (Exists b r end k) c in no_end_of w.stated (Exists b r end k) w.gives

-- the numbers of two lists are those of the first and then those of the second
numbers_join : (ls ms : List (Lined Inclusion)) → numbers (ls ++ ms) ≡ numbers ls ++ numbers ms
numbers_join [] ms = refl
numbers_join (l ∷ ls) ms = ap (λ w. number_of l.item ++ w) (numbers_join ls ms) ∙ sym (append_assoc (number_of l.item) (numbers ls) (numbers ms))

counted_push : (n k : ℕ) (ks : List ℕ) → k ≡ n + length ks → counted n (ks ++ k ∷ []) ≡ counted n ks ++ k ∷ []
counted_push n k [] e = let f : n ≡ k = omega arith in ap (λ w. w ∷ []) f
counted_push n k (j ∷ ks) e = ap (λ w. n ∷ w) (counted_push (suc n) k ks (omega arith))

numbers_push : (ls : List (Lined Inclusion)) (l : Lined Inclusion) → numbers (ls ++ l ∷ []) ≡ numbers ls ++ number_of l.item
numbers_push ls l = numbers_join ls (l ∷ []) ∙ ap (λ w. numbers ls ++ w) (append-nil (number_of l.item))

-- an inclusion without a number adds none
pub numbered_plain : (ls : List (Lined Inclusion)) (l : Lined Inclusion) → number_of l.item ≡ [] → numbers (ls ++ l ∷ []) ≡ numbers ls
numbered_plain ls l e = numbers_push ls l ∙ (ap (λ w. numbers ls ++ w) e ∙ append-nil (numbers ls))

-- where no inclusion has a number, they are numbered from 0
pub numbered_none : (ls : List (Lined Inclusion)) → numbers ls ≡ [] → IsNumbered ls
numbered_none ls e = subst (λ w. w ≡ counted 0 w) (sym e) refl

-- one inclusion more keeps the numbering, if it has the next number
pub numbered_next : (ls : List (Lined Inclusion)) (l : Lined Inclusion) → IsNumbered ls → number_of l.item ≡ length (numbers ls) ∷ [] → IsNumbered (ls ++ l ∷ [])
numbered_next ls l h e =
    let p : numbers (ls ++ l ∷ []) ≡ numbers ls ++ length (numbers ls) ∷ [] = numbers_push ls l ∙ ap (λ w. numbers ls ++ w) e in
    subst (λ w. w ≡ counted 0 w) (sym p)
    (ap (λ w. w ++ length (numbers ls) ∷ []) h ∙ sym (counted_push 0 (length (numbers ls)) (numbers ls) (omega arith)))
