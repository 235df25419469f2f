-- The leaders of all meetings of what is below two atoms are exactly the meetings of these that count.
use Rattle.std.proofs.Common.{◌≡◌, ◌≢◌, ℕ, List, [], ◌∷◌, map, Contains, ◌⊎◌, inl, inr, Option, Some, None, sym, refl, ap, ap₂, subst, ◌∙◌}
use Rattle.std.proofs.lemmas.List.Elements.{Contains-append_left, Contains-append_right, Contains-append_cases}
use Rattle.std.specs.declared.cmp.Ordering.TheVariants.{Less}
use Rattle.mast_cq.specs.declared.atom.Arg.{Arg}
use Rattle.mast_cq.specs.declared.atom.Atom.{Atom}
use Rattle.mast_cq.specs.declared.query.Cq.{Cq}
use Rattle.mast_cq.specs.declared.unifier.Met.{Met}
use Rattle.mast_cq.specs.Meetings.{replacement_of}
use Rattle.mast_cq.specs.Queries.{atom_order}
use Rattle.mast_cq.specs.Unification.{Replacement, Meeting, meeting}
use Rattle.mast_tbox.specs.declared.axiom.Inclusion.{Inclusion}
use Rattle.mast_tbox.specs.Closure.{Down}
use Rattle.mast_tbox.proofs.MemberLemmas.{front, later, none, first_or, map_in, map_out}
use Rattle.mast_rewrite.specs.declared.pair.Pair.{Pair}
use Rattle.mast_rewrite.specs.CountingMeetings.{IsMeeting, Leads, Counts}
use Rattle.mast_rewrite.specs.inside.Leaders.{IsDownList, AreAlike, HasAtom, AreLeaders, CountsExactly}
use Rattle.mast_rewrite.specs.inside.Marks.{marks, query_of}
use Rattle.mast_rewrite.specs.inside.MeetingLists.{met_value, found, meetings_with, all_meetings}
use Rattle.mast_rewrite.proofs.SameWayLemmas.{same_atom, one_replacement, alike_all, query_all}

-- what stands before others is the meeting, if there is one, or one of them
found_or : (o : Option Meeting) (ms : List Meeting) (m : Meeting) → Contains (found o ms) m → (o ≡ Some m) ⊎ Contains ms m
found_or None ms m c = inr c
found_or (Some n) ms m c = elim (first_or n ms m c) [ inl e ↦ inl (ap Some (sym e)) | inr i ↦ inr i ]

found_first : (o : Option Meeting) (ms : List Meeting) (m : Meeting) → o ≡ Some m → Contains (found o ms) m
found_first None ms m e = cc
found_first (Some n) ms m e = let f : n ≡ m = cc in subst (λ v. Contains (n ∷ ms) v) f (front n ms)

found_rest : (o : Option Meeting) (ms : List Meeting) (m : Meeting) → Contains ms m → Contains (found o ms) m
found_rest None ms m c = c
found_rest (Some n) ms m c = later m n ms c

with_out : (answer : List Arg) (l : Atom) (rs : List Atom) (m : Meeting) → Contains (meetings_with answer l rs) m → (r : Atom) × Contains rs r × (meeting answer l r ≡ Some m)
with_out answer l [] m c = absurd (none m c)
with_out answer l (r ∷ rs) m c = elim (found_or (meeting answer l r) (meetings_with answer l rs) m c) [
  | inl e ↦ (r, front r rs, e)
  | inr i ↦ let k = with_out answer l rs m i in (k.0, later k.0 r rs k.1, k.2)
]

with_in : (answer : List Arg) (l : Atom) (rs : List Atom) (m : Meeting) (r : Atom) → Contains rs r → meeting answer l r ≡ Some m → Contains (meetings_with answer l rs) m
with_in answer l [] m r c e = absurd (none r c)
with_in answer l (s ∷ rs) m r c e = elim (first_or s rs r c) [
  | inl f ↦ found_first (meeting answer l s) (meetings_with answer l rs) m (subst (λ v. meeting answer l v ≡ Some m) f e)
  | inr i ↦ found_rest (meeting answer l s) (meetings_with answer l rs) m (with_in answer l rs m r i e)
]

all_out : (answer : List Arg) (ls rs : List Atom) (m : Meeting) → Contains (all_meetings answer ls rs) m
    → (l : Atom) × Contains ls l × (r : Atom) × Contains rs r × (meeting answer l r ≡ Some m)
all_out answer [] rs m c = absurd (none m c)
all_out answer (l ∷ ls) rs m c = elim (Contains-append_cases (meetings_with answer l rs) (all_meetings answer ls rs) m c) [
  | inl i ↦ let k = with_out answer l rs m i in (l, front l ls, k.0, k.1, k.2)
  | inr i ↦ let k = all_out answer ls rs m i in (k.0, later k.0 l ls k.1, k.2, k.3, k.4)
]

all_in : (answer : List Arg) (ls rs : List Atom) (m : Meeting) (l r : Atom) → Contains ls l → Contains rs r → meeting answer l r ≡ Some m → Contains (all_meetings answer ls rs) m
all_in answer [] rs m l r c d e = absurd (none l c)
all_in answer (k ∷ ls) rs m l r c d e = elim (first_or k ls l c) [
  | inl f ↦ Contains-append_left (meetings_with answer k rs) (all_meetings answer ls rs) m (with_in answer k rs m r d (subst (λ v. meeting answer v r ≡ Some m) f e))
  | inr i ↦ Contains-append_right (meetings_with answer k rs) (all_meetings answer ls rs) m (all_in answer ls rs m l r i d e)
]

-- two meetings with one replacement and one atom are one
one_meeting : (m n : Meeting) → m.replacement ≡ n.replacement → m.atom ≡ n.atom → m ≡ n
one_meeting m n e f = ap₂ (λ r a. record { replacement = r; atom = a }) e f

module _ (tbox : List Inclusion) (p : Pair) (lefts rights : List Atom) (all list : List Met)
    (left : IsDownList tbox p.left.atom lefts) (right : IsDownList tbox p.right.atom rights)
    (are : map met_value all ≡ all_meetings (marks p) lefts rights) (leaders : AreLeaders tbox p.left.atom p.right.atom all list) where
  q : Cq
  q = query_of p

  is_out : (m : Meeting) → Contains (map met_value all) m → IsMeeting tbox (query_of p) p.left.atom p.right.atom m
  is_out m c =
      let k = all_out (marks p) lefts rights m (subst (λ v. Contains v m) are c) in
      record { left = k.0; right = k.2; left_below = (left.exact k.0).0 k.1; right_below = (right.exact k.2).0 k.3; meets = k.4 }

  is_in : (m : Meeting) → IsMeeting tbox (query_of p) p.left.atom p.right.atom m → Contains (map met_value all) m
  is_in m w = subst (λ v. Contains v m) (sym are) (all_in (marks p) lefts rights m w.left w.right ((left.exact w.left).1 w.left_below) ((right.exact w.right).1 w.right_below) w.meets)

  value_is : (met : Met) → Contains all met → IsMeeting tbox (query_of p) p.left.atom p.right.atom (met_value met)
  value_is met c = is_out (met_value met) (map_in met_value all met c)

  alike_one : (m n : Meeting) → IsMeeting tbox (query_of p) p.left.atom p.right.atom m → IsMeeting tbox (query_of p) p.left.atom p.right.atom n
      → AreAlike p.left.atom p.right.atom m.replacement n.replacement → m.replacement ≡ n.replacement
  alike_one m n a b e = one_replacement m.replacement n.replacement (alike_all tbox (query_of p) p.left.atom p.right.atom m n a b e)

  everywhere_alike : (r s : Replacement) → ((n : ℕ) → r n ≡ s n) → AreAlike p.left.atom p.right.atom r s
  everywhere_alike r s e = (same_atom r s e p.left.atom, same_atom r s e p.right.atom)

  leads_all : (m n : Meeting) → IsMeeting tbox (query_of p) p.left.atom p.right.atom m → IsMeeting tbox (query_of p) p.left.atom p.right.atom n
      → Leads tbox (query_of p) m n → (k : ℕ) → m.replacement k ≡ n.replacement k
  leads_all m n a b l = query_all tbox (query_of p) p.left.atom p.right.atom m n a b (inl refl) (inr (inl refl)) l.alike

  -- a meeting of the list is one of all, with the replacement of another
  among_is : (met : Met) → Contains list met → (other : Met) × Contains all other × (met_value met ≡ met_value other)
  among_is met c =
      let k = leaders.from met c in
      let w = k.2.1.among in
      let e = alike_one (met_value w.0) (met_value k.0) (value_is w.0 w.1) (value_is k.0 k.1) w.2 in
      (w.0, w.1, one_meeting (met_value met) (met_value w.0) (ap replacement_of k.2.0 ∙ sym e) (sym w.3))

  list_is : (met : Met) → Contains list met → IsMeeting tbox (query_of p) p.left.atom p.right.atom (met_value met)
  list_is met c = let k = among_is met c in subst (IsMeeting tbox (query_of p) p.left.atom p.right.atom) (sym k.2) (value_is k.0 k.1)

  counts_from : (met : Met) → Contains list met → Counts tbox (query_of p) p.left.atom p.right.atom (met_value met)
  counts_from met c = record {
    is_meeting = list_is met c;
    leads_back = λ o w l. (both o w l).0;
    none_earlier = λ o w l b. (both o w b).1;
  }
    where
      both : (o : Meeting) → IsMeeting tbox (query_of p) p.left.atom p.right.atom o → Leads tbox (query_of p) o (met_value met)
          → Leads tbox (query_of p) (met_value met) o × (atom_order o.atom met.atom ≢ Less)
      both o w l =
          let k = leaders.from met c in
          let s = map_out met_value all o (is_in o w) in
          let e = leads_all o (met_value met) w (list_is met c) l in
          let f : o.replacement ≡ replacement_of k.0.replacement = one_replacement o.replacement (replacement_of met.replacement) e ∙ ap replacement_of k.2.0 in
          let g : replacement_of s.element.replacement ≡ replacement_of k.0.replacement = sym (ap (λ m. m.replacement) s.is) ∙ f in
          let d = k.2.1.leads o.atom (s.element, s.stands, everywhere_alike (replacement_of s.element.replacement) (replacement_of k.0.replacement) (λ n. ap (λ r. r n) g), sym (ap (λ m. m.atom) s.is)) l.below in
          (record { alike = λ n i. sym (e n); below = d.0 }, d.1)

  counts_to : (m : Meeting) → Counts tbox (query_of p) p.left.atom p.right.atom m → Contains (map met_value list) m
  counts_to m c = go (map_out met_value all m (is_in m c.is_meeting))
    where
      go : Rattle.mast_tbox.proofs.MemberLemmas.MapOf met_value all m → Contains (map met_value list) m
      go s =
          let k = leaders.all_are s.element s.element.atom s.stands (record { among = (s.element, s.stands, (refl, refl), refl); leads = λ a i d. lead a i d }) in
          let e = alike_one (met_value k.0) (met_value s.element) (list_is k.0 k.1) (value_is s.element s.stands) k.2 in
          subst (Contains (map met_value list)) (one_meeting (met_value k.0) (met_value s.element) e k.3 ∙ sym s.is) (map_in met_value list k.0 k.1)
        where
          lead : (a : Atom) → HasAtom p.left.atom p.right.atom all s.element.replacement a → Down tbox a s.element.atom
              → Down tbox s.element.atom a × (atom_order a s.element.atom ≢ Less)
          lead a i d =
              let w = value_is i.0 i.1 in
              let v = value_is s.element s.stands in
              let e = alike_all tbox (query_of p) p.left.atom p.right.atom (met_value i.0) (met_value s.element) w v i.2 in
              let cs : Counts tbox (query_of p) p.left.atom p.right.atom (met_value s.element) = subst (Counts tbox (query_of p) p.left.atom p.right.atom) s.is c in
              let up : Leads tbox (query_of p) (met_value i.0) (met_value s.element) = record { alike = λ n j. e n; below = subst (λ x. Down tbox x s.element.atom) (sym i.3) d } in
              let down = cs.leads_back (met_value i.0) w up in
              (subst (Down tbox s.element.atom) i.3 down.below, subst (λ x. atom_order x s.element.atom ≢ Less) i.3 (cs.none_earlier (met_value i.0) w down up))

  -- so they are exactly those
  pub counts_exactly : CountsExactly tbox p list
  counts_exactly m = (
    λ c. let s = map_out met_value list m c in subst (Counts tbox (query_of p) p.left.atom p.right.atom) (sym s.is) (counts_from s.element s.stands),
    counts_to m,
  )
