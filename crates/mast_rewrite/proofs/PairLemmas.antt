-- Pairs are compared part by part.
use Rattle.std.proofs.Common.{◌≡◌, Bool, true, false, ◌&&◌, ◌↔◌, refl, ap, ap₂, ◌∙◌}
use Rattle.mast_cq.specs.declared.atom.Arg.{Arg}
use Rattle.mast_cq.specs.declared.atom.Atom.{Atom}
use Rattle.mast_rewrite.specs.declared.pair.Marked.{Marked}
use Rattle.mast_rewrite.specs.declared.pair.Pair.{Pair}

both : (a b : Bool) → (a && b) ≡ true → (a ≡ true) × (b ≡ true)
both true b e = (refl, e)
both false b e = absurd (cc)

join : (a b : Bool) → a ≡ true → b ≡ true → (a && b) ≡ true
join true b e f = f
join false b e f = e

module _ (E : Arg → Arg → Bool) (D : Atom → Atom → Bool) (e : (x y : Arg) → (E x y ≡ true) ↔ (x ≡ y)) (d : (g h : Atom) → (D g h ≡ true) ↔ (g ≡ h)) where
  marked_to : (m n : Marked) → (D m.atom n.atom && (E m.first n.first && E m.second n.second)) ≡ true → m ≡ n
  marked_to m n t =
      let p = both (D m.atom n.atom) (E m.first n.first && E m.second n.second) t in
      let q = both (E m.first n.first) (E m.second n.second) p.1 in
      ap₂ (λ a b. record { atom = a; first = b; second = m.second }) ((d m.atom n.atom).0 p.0) ((e m.first n.first).0 q.0)
      ∙ ap (λ b. record { atom = n.atom; first = n.first; second = b }) ((e m.second n.second).0 q.1)

  marked_from : (m n : Marked) → m ≡ n → (D m.atom n.atom && (E m.first n.first && E m.second n.second)) ≡ true
  marked_from m n t =
      join (D m.atom n.atom) (E m.first n.first && E m.second n.second) ((d m.atom n.atom).1 (ap (λ k. k.atom) t))
      (join (E m.first n.first) (E m.second n.second) ((e m.first n.first).1 (ap (λ k. k.first) t)) ((e m.second n.second).1 (ap (λ k. k.second) t)))

  -- two pairs whose atoms and marks are equal are one, and back
  pub pair_equal : (p q : Pair) → (((D p.left.atom q.left.atom && (E p.left.first q.left.first && E p.left.second q.left.second))
      && (D p.right.atom q.right.atom && (E p.right.first q.right.first && E p.right.second q.right.second))) ≡ true) ↔ (p ≡ q)
  pair_equal p q = (
    λ t. let k = both (D p.left.atom q.left.atom && (E p.left.first q.left.first && E p.left.second q.left.second)) (D p.right.atom q.right.atom && (E p.right.first q.right.first && E p.right.second q.right.second)) t in
        ap₂ (λ a b. record { left = a; right = b }) (marked_to p.left q.left k.0) (marked_to p.right q.right k.1),
    λ t. join (D p.left.atom q.left.atom && (E p.left.first q.left.first && E p.left.second q.left.second)) (D p.right.atom q.right.atom && (E p.right.first q.right.first && E p.right.second q.right.second))
        (marked_from p.left q.left (ap (λ k. k.left) t)) (marked_from p.right q.right (ap (λ k. k.right) t)),
  )
