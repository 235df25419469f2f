-- Atoms that are sorted and distinct are in order, each once.
use Rattle.std.proofs.Common.{◌≡◌, suc, ◌+◌, Bool, true, false, List, [], ◌∷◌, slice_index_or, refl, sym, ap, subst, ◌∙◌, arith}
use Rattle.std.specs.List.{AllByRecursion, IsDistinct}
use Rattle.std.specs.List.Sorted.{IsSorted}
use Rattle.std.specs.declared.cmp.Ordering.{Ordering}
use Rattle.std.specs.declared.cmp.Ordering.TheVariants.{Less, Equal, Greater}
use Rattle.std.specs.Ordering.{is_lt, ordering_reverse}
use Rattle.std.proofs.lemmas.Cmp.{nat_list_cmp_total}
use Rattle.mast_cq.specs.declared.atom.Atom.{Atom}
use Rattle.mast_cq.specs.Queries.{atom_key, atom_order}
use Rattle.mast_cq.specs.NormalForms.{IsBefore, Ordered}
use Rattle.mast_cq.proofs.OrderLemmas.{order_equal}

-- of two different atoms, the second of which is not before the first, the first is before the second
before : (g h : Atom) (o : Ordering) → atom_order g h ≡ o → (g ≡ h → ⊥) → is_lt (atom_order h g) ≡ false → atom_order g h ≡ Less
before g h Less e n s = e
before g h Equal e n s = absurd (n (order_equal g h e))
before g h Greater e n s =
    let f : atom_order h g ≡ Less = nat_list_cmp_total.antisymm (atom_key h) (atom_key g) ∙ ap ordering_reverse e in
    absurd (let c : true ≡ false = sym (ap is_lt f) ∙ s in cc)

module _ (cmp : Atom → Atom → Ordering) (orders : (g h : Atom) → cmp g h ≡ atom_order g h) (eq : Atom → Atom → Bool) (itself : (g : Atom) → eq g g ≡ true) where
  different : (g h : Atom) → eq g h ≡ false → g ≡ h → ⊥
  different g h n e = absurd (let c : true ≡ false = sym (itself g) ∙ (ap (eq g) e ∙ n) in cc)

  first_before : (g : Atom) (gs : List Atom) → IsSorted cmp (g ∷ gs) → AllByRecursion (λ h. eq g h ≡ false) gs → IsBefore g gs
  first_before g [] s d = tt
  first_before g (h ∷ hs) s d = before g h (atom_order g h) refl (different g h d.0) (ap is_lt (sym (orders h g)) ∙ s 0 g (omega arith) (omega arith))

  after_first : (g : Atom) (gs : List Atom) → IsSorted cmp (g ∷ gs) → IsSorted cmp gs
  after_first g gs s k e l m =
      let w : is_lt (cmp (slice_index_or (g ∷ gs) (suc (k + 1)) e) (slice_index_or (g ∷ gs) (suc k) e)) ≡ false =
      subst (λ j. is_lt (cmp (slice_index_or (g ∷ gs) j e) (slice_index_or (g ∷ gs) (suc k) e)) ≡ false) (let f : suc k + 1 ≡ suc (k + 1) = omega arith in f) (s (suc k) e (omega arith) (omega arith)) in
      w

  -- a sorted list of different atoms is in order, each once
  pub sorted_ordered : (gs : List Atom) → IsSorted cmp gs → IsDistinct eq gs → Ordered gs
  unfolding IsDistinct
  sorted_ordered [] s d = tt
  sorted_ordered (g ∷ gs) s d = (first_before g gs s d.0, sorted_ordered gs (after_first g gs s) d.1)
