-- What is kept of atoms and of pairs stays exact as more is kept.
use Rattle.std.proofs.Common.{◌≡◌, ℕ, suc, ◌<◌, inl, inr, Bool, true, List, [], ◌∷◌, Option, None, refl, length, Contains, Some, slice_get, sym, ap, subst, arith}
use Rattle.std.specs.Map.{lookup, values_of}
use Rattle.std.specs.Option.{IfSome}
use Rattle.indexmap.specs.IndexMap.{values, insert_entry, index_map_len}
use Rattle.mast_cq.specs.declared.atom.Atom.{Atom}
use Rattle.mast_cq.specs.declared.unifier.Met.{Met}
use Rattle.mast_tbox.specs.declared.axiom.Inclusion.{Inclusion}
use Rattle.mast_rewrite.specs.declared.memo.Memo.{Memo}
use Rattle.mast_rewrite.specs.declared.pair.Pair.{Pair}
use Rattle.mast_rewrite.specs.inside.Leaders.{IsDownList, CountsExactly}
use Rattle.mast_rewrite.specs.inside.Memos.{IsMemo, IsPlaceOf}
use Rattle.mast_rewrite.proofs.EntryLemmas.{lookup_in, insert_in, some_at}

value_of : {K V : Type 0} (k j : K) (v w : V) → ◌≡◌ {A = K × V} (k, v) (j, w) → v ≡ w
value_of k j v w e = ap (λ p. p.1) e

key_of : {K V : Type 0} (k j : K) (v w : V) → ◌≡◌ {A = K × V} (k, v) (j, w) → k ≡ j
key_of k j v w e = ap (λ p. p.0) e

module _ (tbox : List Inclusion) where
  -- the place at which a pair is found is that of its meetings
  pub place_is : (eq : Pair → Pair → Bool) → ((x y : Pair) → eq x y ≡ true → x ≡ y) → (memo : Memo) (p : Pair) (i : ℕ) → i < length (values memo.meetings)
      → slice_get (values memo.meetings) i ≡ lookup (eq p) memo.meetings.entries → IsMemo tbox memo → IsPlaceOf tbox memo p i
  place_is eq same memo p i l e w =
      let s = some_at (values memo.meetings) i (lookup (eq p) memo.meetings.entries) e l in
      let k = lookup_in (eq p) memo.meetings.entries s.value s.is in
      (s.value, s.stands, subst (λ x. CountsExactly tbox x s.value) (sym (same p k.key k.passes)) (w.meetings k.key s.value k.stands))

  -- a list that is found for an atom is its Down
  pub below_is : (eq : Atom → Atom → Bool) → ((x y : Atom) → eq x y ≡ true → x ≡ y) → (memo : Memo) (g : Atom) (list : List Atom) → lookup (eq g) memo.below.entries ≡ Some list
      → IsMemo tbox memo → IsDownList tbox g list
  below_is eq same memo g list e w =
      let k = lookup_in (eq g) memo.below.entries list e in
      subst (λ x. IsDownList tbox x list) (sym (same g k.key k.passes)) (w.below k.key list k.stands)

  -- the meetings of a pair more
  pub memo_pair : (eq : Pair → Pair → Bool) → ((x y : Pair) → eq x y ≡ true → x ≡ y) → (old new : Memo) (p : Pair) (list : List Met) → new.below ≡ old.below
      → new.meetings.entries ≡ insert_entry eq old.meetings.entries p list → CountsExactly tbox p list → IsMemo tbox old → IsMemo tbox new
  memo_pair eq same old new p list b e c w = record {
    below = λ g l i. w.below g l (subst (λ v. Contains v.entries (g, l)) b i);
    meetings = λ q l i. elim (insert_in eq same old.meetings.entries p list (q, l) (subst (λ v. Contains v (q, l)) e i)) [
      | inl j ↦ w.meetings q l j
      | inr f ↦ subst (CountsExactly tbox q) (sym (value_of q p l list f)) (subst (λ v. CountsExactly tbox v list) (sym (key_of q p l list f)) c)
    ];
  }

  -- the list of an atom more
  pub memo_atom : (eq : Atom → Atom → Bool) → ((x y : Atom) → eq x y ≡ true → x ≡ y) → (old new : Memo) (g : Atom) (list : List Atom) → new.meetings ≡ old.meetings
      → new.below.entries ≡ insert_entry eq old.below.entries g list → IsDownList tbox g list → IsMemo tbox old → IsMemo tbox new
  memo_atom eq same old new g list b e c w = record {
    below = λ h l i. elim (insert_in eq same old.below.entries g list (h, l) (subst (λ v. Contains v (h, l)) e i)) [
      | inl j ↦ w.below h l j
      | inr f ↦ subst (IsDownList tbox h) (sym (value_of h g l list f)) (subst (λ v. IsDownList tbox v list) (sym (key_of h g l list f)) c)
    ];
    meetings = λ q l i. w.meetings q l (subst (λ v. Contains v.entries (q, l)) b i);
  }

-- where a place is found it is that of the pair's meetings
pub found_is : (tbox : List Inclusion) (eq : Pair → Pair → Bool) → ((x y : Pair) → eq x y ≡ true → x ≡ y) → (memo : Memo) (p : Pair) (o : Option ℕ) → IfSome o (λ i. i < index_map_len memo.meetings)
    → IfSome o (λ i. slice_get (values memo.meetings) i ≡ lookup (eq p) memo.meetings.entries) → IsMemo tbox memo → IfSome o (IsPlaceOf tbox memo p)
found_is tbox eq same memo p None l e w = tt
found_is tbox eq same memo p (Some i) l e w = place_is tbox eq same memo p i (let k = values_length memo.meetings.entries in omega arith) e w
  where
    values_length : (es : List (Pair × List Met)) → length (values_of es) ≡ length es
    values_length [] = refl
    values_length (x ∷ es) = ap suc (values_length es)
