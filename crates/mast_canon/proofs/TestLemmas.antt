-- Tests that tell whether a statement holds, and tests made of tests.
use Rattle.std.proofs.Common.{◌≡◌, ℕ, ◌<◌, ◌⊎◌, inl, inr, ◌↔◌, Bool, true, false, not, ◌&&◌, ◌||◌, nat_eq, nat_lt, List, [], ◌∷◌, map, Contains, refl, ap, ◌∙◌, subst}
use Rattle.std.proofs.lemmas.Bool.{false≢true}
use Rattle.std.proofs.lemmas.Bool.Decides.{Decides-and, Decides-or, Decides-not, Decides-ltb}
use Rattle.std.specs.List.{list_any, list_all, AllByRecursion}
use Rattle.mast_cq.specs.Queries.{In}
use Rattle.mast_tbox.specs.Laws.{Decided}
use Rattle.mast_tbox.specs.Lists.{Reaches}
use Rattle.mast_tbox.proofs.MemberLemmas.{front, later, none, first_or, map_in}
use Rattle.mast_tbox.proofs.ThroughLemmas.{Through, through_reaches, reaches_through}
use Rattle.mast_canon.specs.Paths.{is_through, is_pair, is_reached}
use borrow.Author.Tests.{eqb-true, eq-eqb}

-- the test is passed exactly where the statement holds
pub record Tells (test : Bool) (P : Type 0) : Type 0 where
  pub yes : test ≡ true → P
  pub holds : P → test ≡ true

-- so the statement is decided
pub tells_decided : {P : Type 0} (test : Bool) → Tells test P → Decided P
tells_decided true t = inl (t.yes refl)
tells_decided false t = inr (λ p. false≢true (t.holds p))

-- what never holds
pub tells_no : Tells false ⊥
tells_no = record { yes = λ e. absurd (false≢true e); holds = λ h. absurd h }

-- what always holds
pub tells_yes : Tells true (Unit {0})
tells_yes = record { yes = λ e. tt; holds = λ h. refl }

-- that a test is passed
pub tells_test : (test : Bool) → Tells test (test ≡ true)
tells_test test = record { yes = λ e. e; holds = λ e. e }

-- a statement that is as good as another
pub tells_as : {test : Bool} {P Q : Type 0} → P ↔ Q → Tells test P → Tells test Q
tells_as e t = record { yes = λ h. e.0 (t.yes h); holds = λ q. t.holds (e.1 q) }

-- both of two statements
pub tells_and : {a b : Bool} {P Q : Type 0} → Tells a P → Tells b Q → Tells (a && b) (P × Q)
tells_and {a} {b} s t = let d = Decides-and a b (s.yes, s.holds) (t.yes, t.holds) in record { yes = d.0; holds = d.1 }

-- one of two
pub tells_or : {a b : Bool} {P Q : Type 0} → Tells a P → Tells b Q → Tells (a || b) (P ⊎ Q)
tells_or {a} {b} s t = let d = Decides-or a b (s.yes, s.holds) (t.yes, t.holds) in record { yes = d.0; holds = d.1 }

-- that a statement is false
pub tells_not : {a : Bool} {P : Type 0} → Tells a P → Tells (not a) (P → ⊥)
tells_not {a} s = let d = Decides-not a (s.yes, s.holds) in record { yes = d.0; holds = d.1 }

-- the second, where not the first
pub tells_unless : {a b : Bool} {P Q : Type 0} → Tells a P → Tells b Q → Tells (a || b) ((P → ⊥) → Q)
tells_unless {a} {b} {P} {Q} s t = tells_as (to, from (tells_decided a s)) (tells_or s t)
  where
    to : P ⊎ Q → (P → ⊥) → Q
    to (inl p) n = absurd (n p)
    to (inr q) n = q

    from : Decided P → ((P → ⊥) → Q) → P ⊎ Q
    from (inl p) h = inl p
    from (inr n) h = inr (h n)

-- two numbers are one
pub tells_number : (k j : ℕ) → Tells (nat_eq k j) (k ≡ j)
tells_number k j = record { yes = eqb-true k j; holds = eq-eqb k j }

-- one number is less than the other
pub tells_less : (k j : ℕ) → Tells (nat_lt k j) (k < j)
tells_less k j = let d = Decides-ltb k j in record { yes = d.0; holds = d.1 }

-- something is so of an element that the list contains
pub tells_some : {X : Type 0} {test : X → Bool} {P : X → Type 0} → ((x : X) → Tells (test x) (P x)) → (xs : List X) → Tells (list_any test xs) ((x : X) × (Contains xs x × P x))
tells_some t [] = record { yes = λ e. absurd (false≢true e); holds = λ w. absurd (none w.0 w.1.0) }
tells_some {X} {test} {P} t (x ∷ xs) = tells_as (to, from) (tells_or (t x) (tells_some t xs))
  where
    to : P x ⊎ ((y : X) × (Contains xs y × P y)) → (y : X) × (Contains (x ∷ xs) y × P y)
    to (inl p) = (x, (front x xs, p))
    to (inr w) = (w.0, (later w.0 x xs w.1.0, w.1.1))

    from : (y : X) × (Contains (x ∷ xs) y × P y) → P x ⊎ ((y : X) × (Contains xs y × P y))
    from w = elim (first_or x xs w.0 w.1.0) [ inl e ↦ inl (subst P e w.1.1) | inr i ↦ inr (w.0, (i, w.1.1)) ]

-- of an element that stands in the list
pub tells_among : {X : Type 0} {test : X → Bool} {P : X → Type 0} → ((x : X) → Tells (test x) (P x)) → (xs : List X) → Tells (list_any test xs) ((x : X) × (In x xs × P x))
tells_among t [] = record { yes = λ e. absurd (false≢true e); holds = λ w. absurd w.1.0 }
tells_among {X} {test} {P} t (x ∷ xs) = tells_as (to, from) (tells_or (t x) (tells_among t xs))
  where
    to : P x ⊎ ((y : X) × (In y xs × P y)) → (y : X) × (In y (x ∷ xs) × P y)
    to (inl p) = (x, (inl refl, p))
    to (inr w) = (w.0, (inr w.1.0, w.1.1))

    from : (y : X) × (In y (x ∷ xs) × P y) → P x ⊎ ((y : X) × (In y xs × P y))
    from w = elim w.1.0 [ inl e ↦ inl (subst P e w.1.1) | inr i ↦ inr (w.0, (i, w.1.1)) ]

-- of each element of the list
pub tells_each : {X : Type 0} {test : X → Bool} {P : X → Type 0} → ((x : X) → Tells (test x) (P x)) → (xs : List X) → Tells (list_all test xs) (AllByRecursion P xs)
tells_each t [] = tells_yes
tells_each t (x ∷ xs) = tells_and (t x) (tells_each t xs)

-- what is reached by steps
module _ {X : Type 0} (same : X → X → Bool) (one : (x y : X) → Tells (same x y) (x ≡ y)) where
  tells_through : {step : X → X → Bool} {Step : X → X → Type 0} → ((x y : X) → Tells (step x y) (Step x y)) → (ms : List X) (x y : X) → Tells (is_through same step ms x y) (Through Step ms x y)
  tells_through t [] x y = tells_or (one x y) (t x y)
  tells_through t (m ∷ ms) x y = tells_or (tells_through t ms x y) (tells_and (tells_through t ms x m) (tells_through t ms m y))

  tells_pair : (ps : List (X × X)) (x y : X) → Tells (is_pair same ps x y) (Contains ps (x, y))
  tells_pair ps x y = tells_as (to, from) (tells_some (λ p. tells_and (one p.0 x) (one p.1 y)) ps)
    where
      to : (p : X × X) × (Contains ps p × ((p.0 ≡ x) × (p.1 ≡ y))) → Contains ps (x, y)
      to (p, (c, (e, f))) = subst (Contains ps) (ap (λ w. (w, p.1)) e ∙ ap (λ w. (x, w)) f) c

      from : Contains ps (x, y) → (p : X × X) × (Contains ps p × ((p.0 ≡ x) × (p.1 ≡ y)))
      from c = ((x, y), (c, (refl, refl)))

  abbrev ends : List (X × X) → List X
  ends ps = map (λ p. p.1) ps

  -- pairs of a list that say what the steps are lead where the steps lead
  pub tells_reached : (ps : List (X × X)) (Step : X → X → Type 0) → ((x y : X) → Contains ps (x, y) ↔ Step x y) → (x y : X) → Tells (is_reached same ps x y) (Reaches Step x y)
  tells_reached ps Step is x y =
      tells_as (through_reaches Step (ends ps) x y, reaches_through Step (λ x. Unit {0}) (ends ps) keeps x y tt)
      (tells_through (λ x y. tells_as (is x y) (tells_pair ps x y)) (ends ps) x y)
    where
      keeps : (x y : X) → Unit {0} → Step x y → Unit {0} × Contains (ends ps) y
      keeps x y u s = (tt, map_in (λ p. p.1) ps (x, y) ((is x y).1 s))
