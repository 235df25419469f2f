-- Equality of queries and of meetings is equality of their contents.
use Rattle.std.proofs.Common.{◌≡◌, Bool, true, false, ◌&&◌, List, [], ◌∷◌, refl, ap, ap₂, subst, ◌↔◌}
use lib.Pointwise.{pointwise}
use Rattle.mast_cq.specs.declared.atom.Arg.{Arg}
use Rattle.mast_cq.specs.declared.atom.Atom.{Atom}
use Rattle.mast_terms.specs.Orders.{TestsEquality}
use Rattle.mast_cq.specs.declared.query.Cq.{Cq}
use Rattle.mast_cq.specs.declared.unifier.Bindings.{Bindings}
use Rattle.mast_cq.specs.declared.unifier.Met.{Met}

and_true : (a b : Bool) → (a && b) ≡ true → (a ≡ true) × (b ≡ true)
and_true true b e = (refl, e)
and_true false b e = absurd (cc)

-- lists that are equal element by element are equal
pointwise_same : {X : Type 0} (E : X → X → Bool) → ((x y : X) → (E x y ≡ true) ↔ (x ≡ y)) → (xs ys : List X) → pointwise E xs ys ≡ true → xs ≡ ys
pointwise_same E law [] [] e = refl
pointwise_same E law [] (y ∷ ys) e = cc
pointwise_same E law (x ∷ xs) [] e = cc
pointwise_same E law (x ∷ xs) (y ∷ ys) e =
    let w = and_true (E x y) (pointwise E xs ys) e in ap₂ (λ a b. a ∷ b) ((law x y).0 w.0) (pointwise_same E law xs ys w.1)

-- a list is equal to itself element by element
pointwise_self : {X : Type 0} (E : X → X → Bool) → ((x y : X) → (E x y ≡ true) ↔ (x ≡ y)) → (xs : List X) → pointwise E xs xs ≡ true
pointwise_self E law [] = refl
pointwise_self E law (x ∷ xs) = ap₂ (λ a b. a && b) ((law x x).1 refl) (pointwise_self E law xs)

-- two queries are equal exactly where both lists are, element by element
pub both_law : (E : Arg → Arg → Bool) (D : Atom → Atom → Bool) → ((x y : Arg) → (E x y ≡ true) ↔ (x ≡ y)) → ((g h : Atom) → (D g h ≡ true) ↔ (g ≡ h))
    → (xs ys : List Arg) (gs hs : List Atom) → ((pointwise E xs ys && pointwise D gs hs) ≡ true) ↔ (◌≡◌ {A = Cq} (record { answer = xs; atoms = gs }) (record { answer = ys; atoms = hs }))
both_law E D e d xs ys gs hs = (
  (λ t. let w = and_true (pointwise E xs ys) (pointwise D gs hs) t in ap₂ (λ a b. record { answer = a; atoms = b }) (pointwise_same E e xs ys w.0) (pointwise_same D d gs hs w.1)),
  (λ p. ap₂ (λ a b. a && b) (subst (λ a. pointwise E xs a ≡ true) (ap (λ q. q.answer) p) (pointwise_self E e xs)) (subst (λ a. pointwise D gs a ≡ true) (ap (λ q. q.atoms) p) (pointwise_self D d gs))),
)

-- two meetings are equal exactly where their bindings and their atoms are
pub met_law : (E : Bindings → Bindings → Bool) (D : Atom → Atom → Bool) → TestsEquality E → TestsEquality D → (r s : Bindings) (g h : Atom)
    → ((E r s && D g h) ≡ true) ↔ (◌≡◌ {A = Met} (record { replacement = r; atom = g }) (record { replacement = s; atom = h }))
met_law E D e d r s g h = (
  (λ t. let w = and_true (E r s) (D g h) t in ap₂ (λ a b. record { replacement = a; atom = b }) ((e r s).0 w.0) ((d g h).0 w.1)),
  (λ p. ap₂ (λ a b. a && b) ((e r s).1 (ap (λ m. m.replacement) p)) ((d g h).1 (ap (λ m. m.atom) p))),
)
