-- Atoms in order go by their names, and atoms of different names do not meet.
use Rattle.std.proofs.Common.{◌≡◌, ℕ, zero, suc, ◌<◌, ◌≤◌, ◌⊎◌, inl, inr, Bool, true, false, nat_eq, List, [], ◌∷◌, take, drop, Contains, Option, None, sym, refl, ap, subst, ◌∙◌, arith}
use Rattle.std.specs.declared.cmp.Ordering.{Ordering}
use Rattle.std.specs.declared.cmp.Ordering.TheVariants.{Less, Equal, Greater}
use Rattle.std.specs.Ordering.{nat_cmp, ordering_then}
use Rattle.std.specs.Cmp.Lexicographic.{slice_cmp}
use Rattle.std.proofs.lemmas.Cmp.{ranked}
use borrow.Author.Tests.{eqb-true}
use native.Mathlib.Decide.{dec_lt}
use Rattle.mast_cq.specs.declared.atom.Arg.{Arg}
use Rattle.mast_cq.specs.declared.atom.Atom.{Atom}
use Rattle.mast_cq.specs.declared.atom.Atom.TheVariants.{Class, Role, Attr}
use Rattle.mast_cq.specs.NormalForms.{Ordered}
use Rattle.mast_cq.specs.Queries.{arg_key, atom_order}
use Rattle.mast_cq.specs.Unification.{Meeting, meeting, meeting_of_one, meeting_of_pairs, unify_args}
use Rattle.mast_tbox.proofs.MemberLemmas.{front, later, first_or}
use Rattle.mast_rewrite.specs.inside.MeetingLists.{kind_place, name_number, IsEarlier, HaveOneName, AllEarlier, NoneEarlier, found, meetings_with}
use Rattle.mast_rewrite.proofs.LeaderLemmas.{before_all}

heads : (a b c d : ℕ) (xs ys : List ℕ) → slice_cmp nat_cmp (a ∷ b ∷ xs) (c ∷ d ∷ ys) ≡ Less → (a < c) ⊎ ((a ≡ c) × (b ≤ d))
heads a b c d xs ys e = go (nat_cmp a c) refl (nat_cmp b d) refl e
  where
    go : (o : Ordering) → o ≡ nat_cmp a c → (p : Ordering) → p ≡ nat_cmp b d → ordering_then o (ordering_then p (slice_cmp nat_cmp xs ys)) ≡ Less → (a < c) ⊎ ((a ≡ c) × (b ≤ d))
    go Less f p g h = inl (ranked a c Less f)
    go Equal f Less g h = inr (ranked a c Equal f, (let l = ranked b d Less g in omega arith))
    go Equal f Equal g h = inr (ranked a c Equal f, (let l = ranked b d Equal g in omega arith))
    go Equal f Greater g h = cc
    go Greater f p g h = cc

-- an atom before another has no later name
names_ordered : (g h : Atom) → atom_order g h ≡ Less → (kind_place g < kind_place h) ⊎ ((kind_place g ≡ kind_place h) × (name_number g ≤ name_number h))
names_ordered (Class a x) (Class b z) e = heads 0 a.0 0 b.0 (arg_key x []) (arg_key z []) e
names_ordered (Class a x) (Role b z w) e = heads 0 a.0 1 b.0 (arg_key x []) (arg_key z (arg_key w [])) e
names_ordered (Class a x) (Attr b z w) e = heads 0 a.0 2 b.0 (arg_key x []) (arg_key z (arg_key w [])) e
names_ordered (Role a x y) (Class b z) e = heads 1 a.0 0 b.0 (arg_key x (arg_key y [])) (arg_key z []) e
names_ordered (Role a x y) (Role b z w) e = heads 1 a.0 1 b.0 (arg_key x (arg_key y [])) (arg_key z (arg_key w [])) e
names_ordered (Role a x y) (Attr b z w) e = heads 1 a.0 2 b.0 (arg_key x (arg_key y [])) (arg_key z (arg_key w [])) e
names_ordered (Attr a x y) (Class b z) e = heads 2 a.0 0 b.0 (arg_key x (arg_key y [])) (arg_key z []) e
names_ordered (Attr a x y) (Role b z w) e = heads 2 a.0 1 b.0 (arg_key x (arg_key y [])) (arg_key z (arg_key w [])) e
names_ordered (Attr a x y) (Attr b z w) e = heads 2 a.0 2 b.0 (arg_key x (arg_key y [])) (arg_key z (arg_key w [])) e

-- what is earlier than an atom is earlier than each atom after it
earlier_up : (r g h : Atom) → IsEarlier r g → atom_order g h ≡ Less → IsEarlier r h
earlier_up r g h e o = go e (names_ordered g h o)
  where
    go : IsEarlier r g → (kind_place g < kind_place h) ⊎ ((kind_place g ≡ kind_place h) × (name_number g ≤ name_number h)) → IsEarlier r h
    go (inl a) (inl b) = inl (omega arith)
    go (inl a) (inr b) = inl (let c = b.0 in omega arith)
    go (inr a) (inl b) = inl (let c = a.0 in omega arith)
    go (inr a) (inr b) = inr ((let c = a.0 in let d = b.0 in omega arith), (let c = a.1 in let d = b.1 in omega arith))

-- where an atom is not earlier and has another name, the other is earlier
later_or : (g h : Atom) → (IsEarlier g h → ⊥) → (HaveOneName g h → ⊥) → IsEarlier h g
later_or g h n k = go (dec_lt (kind_place g) (kind_place h)) (dec_lt (kind_place h) (kind_place g)) (dec_lt (name_number g) (name_number h)) (dec_lt (name_number h) (name_number g))
  where
    go : Dec (kind_place g < kind_place h) → Dec (kind_place h < kind_place g) → Dec (name_number g < name_number h) → Dec (name_number h < name_number g) → IsEarlier h g
    go (yes a) b c d = absurd (n (inl a))
    go (no a) (yes b) c d = inl b
    go (no a) (no b) (yes c) d = absurd (n (inr (omega arith, c)))
    go (no a) (no b) (no c) (yes d) = inr (omega arith, d)
    go (no a) (no b) (no c) (no d) = absurd (k (omega arith, omega arith))

-- what is earlier has another name
earlier_apart : (g h : Atom) → IsEarlier g h → HaveOneName h g → ⊥
earlier_apart g h (inl a) e = let c = e.0 in omega arith
earlier_apart g h (inr a) e = let c = e.1 in let d = a.1 in omega arith

class_none : (a b : ℕ) (o : Option Meeting) (c : Bool) → nat_eq a b ≡ c → (b ≡ a → ⊥) → ◌≡◌ {A = Option Meeting} (elim c [ true ↦ o | false ↦ None ]) None
class_none a b o true e n = absurd (n (sym (eqb-true a b e)))
class_none a b o false e n = refl

-- atoms of different names do not meet
apart_none : (answer : List Arg) (l r : Atom) → (HaveOneName r l → ⊥) → meeting answer l r ≡ None
apart_none answer (Class a x) (Class b y) n = class_none a.0 b.0 (meeting_of_one (Class a) x y (unify_args answer x y)) (nat_eq a.0 b.0) refl (λ e. n (refl, e))
apart_none answer (Role a x y) (Role b z w) n = class_none a.0 b.0 (meeting_of_pairs answer (Role a) x y z w (unify_args answer x z)) (nat_eq a.0 b.0) refl (λ e. n (refl, e))
apart_none answer (Attr a x y) (Attr b z w) n = class_none a.0 b.0 (meeting_of_pairs answer (Attr a) x y z w (unify_args answer x z)) (nat_eq a.0 b.0) refl (λ e. n (refl, e))
apart_none answer (Class a x) (Role b z w) n = refl
apart_none answer (Class a x) (Attr b z w) n = refl
apart_none answer (Role a x y) (Class b z) n = refl
apart_none answer (Role a x y) (Attr b z w) n = refl
apart_none answer (Attr a x y) (Class b z) n = refl
apart_none answer (Attr a x y) (Role b z w) n = refl

-- an atom meets none of a list where all have other names
pub none_with : (answer : List Arg) (l : Atom) (rs : List Atom) → ((r : Atom) → Contains rs r → HaveOneName r l → ⊥) → meetings_with answer l rs ≡ []
none_with answer l [] n = refl
none_with answer l (r ∷ rs) n =
    ap (λ o. found o (meetings_with answer l rs)) (apart_none answer l r (n r (front r rs))) ∙ none_with answer l rs (λ s c. n s (later s r rs c))

-- the meetings with a list after others that are earlier are those with all
pub skip_with : (answer : List Arg) (l : Atom) (rs : List Atom) (k : ℕ) → AllEarlier (take k rs) l → meetings_with answer l (drop k rs) ≡ meetings_with answer l rs
skip_with answer l rs zero e = refl
skip_with answer l [] (suc k) e = refl
skip_with answer l (r ∷ rs) (suc k) e =
    skip_with answer l rs k (λ g c. e g (later g r (take k rs) c))
    ∙ sym (ap (λ o. found o (meetings_with answer l rs)) (apart_none answer l r (λ h. earlier_apart r l (e r (front r (take k rs))) (sym h.0, sym h.1))))

-- from an atom of another name on, where none is earlier, none has the name
pub rest_none : (answer : List Arg) (l r : Atom) (rs : List Atom) → Ordered (r ∷ rs) → NoneEarlier (r ∷ rs) l → (HaveOneName r l → ⊥) → meetings_with answer l (r ∷ rs) ≡ []
rest_none answer l r rs o n k = none_with answer l (r ∷ rs) (λ s c h. elim (first_or r rs s c) [
  | inl e ↦ k (subst (λ v. HaveOneName v l) e h)
  | inr i ↦ earlier_apart l s (earlier_up l r s (later_or r l (n r (front r rs)) k) (before_all r rs o.0 o.1 s i)) h
])

-- the rest of an ordered list is ordered
pub ordered_drop : (gs : List Atom) (k : ℕ) → Ordered gs → Ordered (drop k gs)
ordered_drop gs zero o = o
ordered_drop [] (suc k) o = o
ordered_drop (g ∷ gs) (suc k) o = ordered_drop gs k o.1

-- an element of the rest is one of the list
pub drop_in : (gs : List Atom) (k : ℕ) (g : Atom) → Contains (drop k gs) g → Contains gs g
drop_in gs zero g c = c
drop_in [] (suc k) g c = c
drop_in (h ∷ gs) (suc k) g c = later g h gs (drop_in gs k g c)

-- what is not earlier than an atom keeps all after it from being earlier
pub none_after : (l r : Atom) (rs : List Atom) → Ordered (r ∷ rs) → (IsEarlier r l → ⊥) → NoneEarlier (r ∷ rs) l
none_after l r rs o n s c e = elim (first_or r rs s c) [
  | inl f ↦ n (subst (λ v. IsEarlier v l) f e)
  | inr i ↦ n (down r s l (before_all r rs o.0 o.1 s i) e)
]
  where
    down : (g h l : Atom) → atom_order g h ≡ Less → IsEarlier h l → IsEarlier g l
    down g h l o e = go (names_ordered g h o) e
      where
        go : (kind_place g < kind_place h) ⊎ ((kind_place g ≡ kind_place h) × (name_number g ≤ name_number h)) → IsEarlier h l → IsEarlier g l
        go (inl a) (inl b) = inl (omega arith)
        go (inl a) (inr b) = inl (let c = b.0 in omega arith)
        go (inr a) (inl b) = inl (let c = a.0 in omega arith)
        go (inr a) (inr b) = inr ((let c = a.0 in let d = b.0 in omega arith), (let c = a.1 in let d = b.1 in omega arith))

-- what is earlier than an atom of an ordered list is earlier than the later ones
pub earlier_next : (rs : List Atom) (k : ℕ) (l : Atom) (ls : List Atom) → Ordered (l ∷ ls) → AllEarlier (take k rs) l → (m : Atom) → Contains ls m → AllEarlier (take k rs) m
earlier_next rs k l ls o e m c r i = earlier_up r l m (e r i) (before_all l ls o.0 o.1 m c)
