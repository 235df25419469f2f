-- What is reached by steps through the places of a list: it is decided, and it is listed.
use Rattle.std.proofs.Common.{◌≡◌, ◌⊎◌, inl, inr, ◌↔◌, List, [], ◌∷◌, Contains, refl, sym, subst}
use Rattle.mast_tbox.specs.Laws.{Decided, IsFinite}
use Rattle.mast_tbox.specs.Lists.{Reaches, itself, onward}
use Rattle.mast_tbox.proofs.MemberLemmas.{front, later, none, first_or}
use Rattle.mast_tbox.proofs.WorkLemmas.{reaches_join}

-- y is x, or reached from it by steps whose places between stand in the list
abbrev pub Through : {X : Type 0} → (X → X → Type 0) → List X → X → X → Type 0
Through Step [] x y = (x ≡ y) ⊎ Step x y
Through Step (m ∷ ms) x y = Through Step ms x y ⊎ (Through Step ms x m × Through Step ms m y)

-- one of two decided statements, both of them, and a statement that is as good as a decided one, are decided
pub dec_or : {A B : Type 0} → Decided A → Decided B → Decided (A ⊎ B)
dec_or (inl a) d = inl (inl a)
dec_or (inr a) (inl b) = inl (inr b)
dec_or (inr a) (inr b) = inr (λ e. elim e [ inl x ↦ a x | inr y ↦ b y ])

-- both of two decided statements
pub dec_and : {A B : Type 0} → Decided A → Decided B → Decided (A × B)
dec_and (inl a) (inl b) = inl (a, b)
dec_and (inl a) (inr b) = inr (λ e. b e.1)
dec_and (inr a) d = inr (λ e. a e.0)

-- a statement that is as good as a decided one
pub dec_as : {A B : Type 0} → A ↔ B → Decided A → Decided B
dec_as e (inl a) = inl (e.0 a)
dec_as e (inr n) = inr (λ b. n (e.1 b))

-- that a decided statement is false
pub dec_not : {A : Type 0} → Decided A → Decided (A → ⊥)
dec_not (inl a) = inr (λ n. n a)
dec_not (inr n) = inl n

-- what is decided of each element: whether it is so of some element of a list, and of all
pub dec_some : {X : Type 0} {P : X → Type 0} → ((x : X) → Decided (P x)) → (xs : List X) → Decided ((x : X) × (Contains xs x × P x))
dec_some dec [] = inr (λ w. none w.0 w.1.0)
dec_some {X} {P} dec (x ∷ xs) = go (dec x) (dec_some dec xs)
  where
    go : Decided (P x) → Decided ((y : X) × (Contains xs y × P y)) → Decided ((y : X) × (Contains (x ∷ xs) y × P y))
    go (inl p) d = inl (x, (front x xs, p))
    go (inr n) (inl w) = inl (w.0, (later w.0 x xs w.1.0, w.1.1))
    go (inr n) (inr m) = inr (λ w. elim (first_or x xs w.0 w.1.0) [ inl e ↦ n (subst P e w.1.1) | inr i ↦ m (w.0, (i, w.1.1)) ])

-- whether it is so of all elements of a list
pub dec_each : {X : Type 0} {P : X → Type 0} → ((x : X) → Decided (P x)) → (xs : List X) → Decided ((x : X) → Contains xs x → P x)
dec_each dec [] = inl (λ x c. absurd (none x c))
dec_each {X} {P} dec (x ∷ xs) = go (dec x) (dec_each dec xs)
  where
    go : Decided (P x) → Decided ((y : X) → Contains xs y → P y) → Decided ((y : X) → Contains (x ∷ xs) y → P y)
    go (inr n) d = inr (λ f. n (f x (front x xs)))
    go (inl p) (inr m) = inr (λ f. m (λ y c. f y (later y x xs c)))
    go (inl p) (inl g) = inl (λ y c. elim (first_or x xs y c) [ inl e ↦ subst P (sym e) p | inr i ↦ g y i ])

-- whether an element stands in a list, where it is decided whether two are one
pub dec_in : {X : Type 0} → ((x y : X) → Decided (x ≡ y)) → (xs : List X) (y : X) → Decided (Contains xs y)
dec_in same [] y = inr (none y)
dec_in {X} same (x ∷ xs) y = go (same y x) (dec_in same xs y)
  where
    go : Decided (y ≡ x) → Decided (Contains xs y) → Decided (Contains (x ∷ xs) y)
    go (inl e) d = inl (subst (Contains (x ∷ xs)) (sym e) (front x xs))
    go (inr n) (inl c) = inl (later y x xs c)
    go (inr n) (inr m) = inr (λ c. elim (first_or x xs y c) [ inl e ↦ n e | inr i ↦ m i ])

-- what a finite list has and a decided statement picks is listed
pub finite_by : {X : Type 0} {P : X → Type 0} → ((x : X) → Decided (P x)) → (xs : List X) → ((x : X) → P x → Contains xs x) → IsFinite P
finite_by {X} {P} dec xs all = let w = picked xs in record { members = w.0; are = λ x. ((w.1 x).0, λ p. (w.1 x).1 (all x p, p)) }
  where
    more : (x : X) (xs : List X) → Decided (P x) → (ys : List X) × ((y : X) → (Contains ys y → P y) × (Contains xs y × P y → Contains ys y))
        → (ys : List X) × ((y : X) → (Contains ys y → P y) × (Contains (x ∷ xs) y × P y → Contains ys y))
    more x xs (inl p) w = (
      x ∷ w.0,
      λ y. (
        λ c. elim (first_or x w.0 y c) [ inl e ↦ subst P (sym e) p | inr i ↦ (w.1 y).0 i ],
        λ d. elim (first_or x xs y d.0) [ inl e ↦ subst (Contains (x ∷ w.0)) (sym e) (front x w.0) | inr i ↦ later y x w.0 ((w.1 y).1 (i, d.1)) ],
      ),
    )
    more x xs (inr n) w = (w.0, λ y. ((w.1 y).0, λ d. elim (first_or x xs y d.0) [ inl e ↦ absurd (n (subst P e d.1)) | inr i ↦ (w.1 y).1 (i, d.1) ]))

    picked : (xs : List X) → (ys : List X) × ((y : X) → (Contains ys y → P y) × (Contains xs y × P y → Contains ys y))
    picked [] = ([], λ y. (λ c. absurd (none y c), λ d. absurd (none y d.0)))
    picked (x ∷ xs) = more x xs (dec x) (picked xs)

module _ {X : Type 0} (Step : X → X → Type 0) where
  through_itself : (ms : List X) (x : X) → Through Step ms x x
  through_itself [] x = inl refl
  through_itself (m ∷ ms) x = inl (through_itself ms x)

  through_step : (ms : List X) (x y : X) → Step x y → Through Step ms x y
  through_step [] x y s = inr s
  through_step (m ∷ ms) x y s = inl (through_step ms x y s)

  to_first : (ms : List X) (m x : X) → Through Step (m ∷ ms) x m → Through Step ms x m
  to_first ms m x (inl a) = a
  to_first ms m x (inr a) = a.0

  from_first : (ms : List X) (m y : X) → Through Step (m ∷ ms) m y → Through Step ms m y
  from_first ms m y (inl a) = a
  from_first ms m y (inr a) = a.1

  join_more : (ms : List X) (k m x y : X) → ((a b : X) → Through Step ms a m → Through Step ms m b → Through Step ms a b) → Through Step (k ∷ ms) x m → Through Step (k ∷ ms) m y → Through Step (k ∷ ms) x y
  join_more ms k m x y ih (inl a) (inl b) = inl (ih x y a b)
  join_more ms k m x y ih (inl a) (inr b) = inr (ih x k a b.0, b.1)
  join_more ms k m x y ih (inr a) (inl b) = inr (a.0, ih k y a.1 b)
  join_more ms k m x y ih (inr a) (inr b) = inr (a.0, b.1)

  -- through a place of the list
  through_join : (ms : List X) (m x y : X) → Contains ms m → Through Step ms x m → Through Step ms m y → Through Step ms x y
  through_join [] m x y i a b = absurd (none m i)
  through_join (k ∷ ms) m x y i a b = elim (first_or k ms m i) [
    | inl e ↦ inr (to_first ms k x (subst (λ z. Through Step (k ∷ ms) x z) e a), from_first ms k y (subst (λ z. Through Step (k ∷ ms) z y) e b))
    | inr j ↦ join_more ms k m x y (λ c d p q. through_join ms m c d j p q) a b
  ]

  -- what is reached through a list is reached
  pub through_reaches : (ms : List X) (x y : X) → Through Step ms x y → Reaches Step x y
  through_reaches [] x y (inl e) = subst (Reaches Step x) e itself
  through_reaches [] x y (inr s) = onward s itself
  through_reaches (m ∷ ms) x y (inl a) = through_reaches ms x y a
  through_reaches (m ∷ ms) x y (inr a) = reaches_join x m y (through_reaches ms x m a.0) (through_reaches ms m y a.1)

  -- where it is decided whether two are one, and whether a step leads from one to the other, it is decided what is reached through a list
  pub dec_through : ((x y : X) → Decided (x ≡ y)) → ((x y : X) → Decided (Step x y)) → (ms : List X) (x y : X) → Decided (Through Step ms x y)
  dec_through same dec [] x y = dec_or (same x y) (dec x y)
  dec_through same dec (m ∷ ms) x y = dec_or (dec_through same dec ms x y) (dec_and (dec_through same dec ms x m) (dec_through same dec ms m y))

  -- where each step from a place with P leads to one with P that stands in the list, what is reached is reached through it
  pub reaches_through : (P : X → Type 0) (ms : List X) → ((x y : X) → P x → Step x y → P y × Contains ms y) → (x y : X) → P x → Reaches Step x y → Through Step ms x y
  reaches_through P ms keeps x y p itself = through_itself ms x
  reaches_through P ms keeps x y p (onward {y = w} s d) =
      let k = keeps x w p s in through_join ms w x y k.1 (through_step ms x w s) (reaches_through P ms keeps w y k.0 d)

  -- and it is the first place or stands in the list
  pub reaches_within : (P : X → Type 0) (ms : List X) → ((x y : X) → P x → Step x y → P y × Contains ms y) → (x y : X) → P x → Reaches Step x y → Contains (x ∷ ms) y
  reaches_within P ms keeps x y p itself = front x ms
  reaches_within P ms keeps x y p (onward {y = w} s d) =
      let k = keeps x w p s in
      elim (first_or w ms y (reaches_within P ms keeps w y k.0 d)) [ inl e ↦ later y x ms (subst (Contains ms) (sym e) k.1) | inr i ↦ later y x ms i ]

  module _ (P : X → Type 0) (ms : List X) (keeps : (x y : X) → P x → Step x y → P y × Contains ms y) (same : (x y : X) → Decided (x ≡ y)) (dec : (x y : X) → Decided (Step x y)) where
    -- so what is reached from a place with P is decided
    pub dec_reaches : (x y : X) → P x → Decided (Reaches Step x y)
    dec_reaches x y p = dec_as (through_reaches ms x y, reaches_through P ms keeps x y p) (dec_through same dec ms x y)

    -- and there is a list of all that is reached
    pub finite_reaches : (x : X) → P x → IsFinite (Reaches Step x)
    finite_reaches x p = finite_by (λ y. dec_reaches x y p) (x ∷ ms) (λ y r. reaches_within P ms keeps x y p r)
