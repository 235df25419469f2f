-- One walk over two lists of atoms in order: its steps.
use Rattle.std.proofs.Common.{◌≡◌, ℕ, ◌+◌, ◌<◌, ◌≤◌, inl, inr, List, [], ◌∷◌, ◌++◌, map, take, drop, length, slice_index_or, Contains, Some, None, sym, refl, ap, subst, ◌∙◌, append_assoc, append-nil}
use Rattle.std.proofs.lemmas.List.{drop_more, drop_all}
use Rattle.mast_cq.specs.declared.atom.Arg.{Arg}
use Rattle.mast_cq.specs.declared.atom.Atom.{Atom}
use Rattle.mast_cq.specs.declared.unifier.Met.{Met}
use Rattle.mast_cq.specs.NormalForms.{Ordered}
use Rattle.mast_cq.specs.Unification.{Meeting, meeting}
use Rattle.mast_tbox.proofs.MemberLemmas.{front, none}
use Rattle.mast_rewrite.specs.inside.MeetingLists.{met_value, found, meetings_with, all_meetings, IsEarlier, HaveOneName, AllEarlier, NoneEarlier}
use Rattle.mast_rewrite.proofs.GrowLemmas.{take_or}
use Rattle.mast_rewrite.proofs.NameLemmas.{rest_none, ordered_drop, drop_in, none_after, earlier_next}

push_value : (ms : List Met) (met : Met) → map met_value (ms ++ met ∷ []) ≡ map met_value ms ++ met_value met ∷ []
push_value [] met = refl
push_value (x ∷ ms) met = ap (λ w. met_value x ∷ w) (push_value ms met)

module _ (answer : List Arg) (l : Atom) (rs : List Atom) (i : ℕ) (d : Atom) (W : List Meeting) (ms : List Met) (within : i < length rs) where
  here : meetings_with answer l (drop i rs) ≡ found (meeting answer l (slice_index_or rs i d)) (meetings_with answer l (drop (i + 1) rs))
  here = ap (meetings_with answer l) (drop_more rs i d within)

  -- an atom that does not meet
  pub add_none : None ≡ meeting answer l (slice_index_or rs i d) → map met_value ms ++ meetings_with answer l (drop i rs) ≡ W → map met_value ms ++ meetings_with answer l (drop (i + 1) rs) ≡ W
  add_none e w = ap (λ o. map met_value ms ++ found o (meetings_with answer l (drop (i + 1) rs))) e ∙ (ap (λ v. map met_value ms ++ v) (sym here) ∙ w)

  -- an atom that meets
  pub add_some : (met : Met) → Some (met_value met) ≡ meeting answer l (slice_index_or rs i d) → map met_value ms ++ meetings_with answer l (drop i rs) ≡ W
      → map met_value (ms ++ met ∷ []) ++ meetings_with answer l (drop (i + 1) rs) ≡ W
  add_some met e w =
      ap (λ v. v ++ meetings_with answer l (drop (i + 1) rs)) (push_value ms met)
      ∙ (append_assoc (map met_value ms) (met_value met ∷ []) (meetings_with answer l (drop (i + 1) rs))
      ∙ (ap (λ o. map met_value ms ++ found o (meetings_with answer l (drop (i + 1) rs))) e ∙ (ap (λ v. map met_value ms ++ v) (sym here) ∙ w)))

  -- an atom of another name, where none is earlier: none that follows meets
  pub add_stop : Ordered rs → NoneEarlier rs l → (HaveOneName (slice_index_or rs i d) l → ⊥) → map met_value ms ++ meetings_with answer l (drop i rs) ≡ W → map met_value ms ≡ W
  add_stop o n k w =
      let s : drop i rs ≡ slice_index_or rs i d ∷ drop (i + 1) rs = drop_more rs i d within in
      let e : meetings_with answer l (drop i rs) ≡ [] =
      ap (meetings_with answer l) s
      ∙ rest_none answer l (slice_index_or rs i d) (drop (i + 1) rs) (subst Ordered s (ordered_drop rs i o))
      (subst (λ v. NoneEarlier v l) s (λ g c. n g (drop_in rs i g c))) k in
      sym (append-nil (map met_value ms)) ∙ (ap (λ v. map met_value ms ++ v) (sym e) ∙ w)

-- after the last atom
pub add_end : (answer : List Arg) (l : Atom) (rs : List Atom) (i : ℕ) (W : List Meeting) (ms : List Met) → length rs ≤ i → map met_value ms ++ meetings_with answer l (drop i rs) ≡ W → map met_value ms ≡ W
add_end answer l rs i W ms p w = sym (append-nil (map met_value ms)) ∙ (ap (λ v. map met_value ms ++ meetings_with answer l v) (sym (drop_all i rs p)) ∙ w)

-- one earlier atom more is passed
pub skip_more : (rs : List Atom) (k : ℕ) (d l : Atom) → k < length rs → AllEarlier (take k rs) l → IsEarlier (slice_index_or rs k d) l → AllEarlier (take (k + 1) rs) l
skip_more rs k d l p a e g c = elim (take_or rs k d g p c) [ inl i ↦ a g i | inr f ↦ subst (λ v. IsEarlier v l) (sym f) e ]

-- from an atom on that is not earlier none is
pub skip_here : (rs : List Atom) (k : ℕ) (d l : Atom) → k < length rs → Ordered rs → (IsEarlier (slice_index_or rs k d) l → ⊥) → NoneEarlier (drop k rs) l
skip_here rs k d l p o n =
    let s : drop k rs ≡ slice_index_or rs k d ∷ drop (k + 1) rs = drop_more rs k d p in
    subst (λ v. NoneEarlier v l) (sym s) (none_after l (slice_index_or rs k d) (drop (k + 1) rs) (subst Ordered s (ordered_drop rs k o)) n)

pub skip_past : (rs : List Atom) (k : ℕ) (l : Atom) → length rs ≤ k → NoneEarlier (drop k rs) l
skip_past rs k l p g c e = none g (subst (λ v. Contains v g) (drop_all k rs p) c)

-- before any is passed all that were passed are earlier
pub skip_none : (rs : List Atom) (l : Atom) → AllEarlier (take 0 rs) l
skip_none rs l g c = absurd (none g c)

module _ (answer : List Arg) (ls rs : List Atom) (i : ℕ) (d : Atom) (k : ℕ) (W : List Meeting) (old new : List Met) (order : Ordered ls) (within : i < length ls) where
  split : drop i ls ≡ slice_index_or ls i d ∷ drop (i + 1) ls
  split = drop_more ls i d within

  -- the atom at a place is one of the rest
  pub left_in : Contains (drop i ls) (slice_index_or ls i d)
  left_in = subst (λ v. Contains v (slice_index_or ls i d)) (sym split) (front (slice_index_or ls i d) (drop (i + 1) ls))

  -- what is earlier than the atom is earlier than those after it
  pub left_earlier : AllEarlier (take k rs) (slice_index_or ls i d) → (m : Atom) → Contains (drop (i + 1) ls) m → AllEarlier (take k rs) m
  left_earlier e m c = earlier_next rs k (slice_index_or ls i d) (drop (i + 1) ls) (subst Ordered split (ordered_drop ls i order)) e m c

  -- the meetings of one atom more
  pub left_more : map met_value new ≡ map met_value old ++ meetings_with answer (slice_index_or ls i d) rs
      → map met_value old ++ all_meetings answer (drop i ls) rs ≡ W → map met_value new ++ all_meetings answer (drop (i + 1) ls) rs ≡ W
  left_more n w =
      ap (λ v. v ++ all_meetings answer (drop (i + 1) ls) rs) n
      ∙ (append_assoc (map met_value old) (meetings_with answer (slice_index_or ls i d) rs) (all_meetings answer (drop (i + 1) ls) rs)
      ∙ (ap (λ v. map met_value old ++ all_meetings answer v rs) (sym split) ∙ w))

-- after the last atom
pub left_end : (answer : List Arg) (ls rs : List Atom) (i : ℕ) (W : List Meeting) (ms : List Met) → length ls ≤ i → map met_value ms ++ all_meetings answer (drop i ls) rs ≡ W → map met_value ms ≡ W
left_end answer ls rs i W ms p w = sym (append-nil (map met_value ms)) ∙ (ap (λ v. map met_value ms ++ all_meetings answer v rs) (sym (drop_all i ls p)) ∙ w)
