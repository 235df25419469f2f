-- Links between names: that they go both ways, that members of Down are linked with their atom, and that chiefs tell them.
use Rattle.std.proofs.Common.{◌≡◌, ℕ, ◌+◌, ◌<◌, ◌⊎◌, inl, inr, ◌↔◌, Bool, true, false, cond, ◌||◌, Option, Some, None, List, [], ◌∷◌, Contains, length, drop, slice_index_or, refl, sym, ap, subst, ◌∙◌, if◌then◌else◌}
use Rattle.std.proofs.lemmas.List.{drop_more}
use Rattle.std.proofs.lemmas.Map.Views.{list_any-from_Contains}
use Rattle.mast_cq.specs.declared.atom.Arg.{Arg}
use Rattle.mast_cq.specs.declared.atom.Arg.TheVariants.{Blank}
use Rattle.mast_cq.specs.declared.atom.Atom.{Atom}
use Rattle.mast_tbox.specs.declared.expression.RoleExpr.TheVariants.{Direct, Inverse}
use Rattle.mast_tbox.specs.declared.expression.Basic.{Basic}
use Rattle.mast_tbox.specs.declared.expression.Basic.TheVariants.{Class as BClass, Some as BSome, Subjects}
use Rattle.mast_tbox.specs.declared.expression.Prop.{Prop}
use Rattle.mast_tbox.specs.declared.expression.Prop.TheVariants.{Role as PRole, Attr as PAttr}
use Rattle.mast_tbox.specs.declared.axiom.Inclusion.{Inclusion}
use Rattle.mast_tbox.specs.declared.axiom.Inclusion.TheVariants.{Class as IClass, Exists, HasValue, Role as IRole, Attr as IAttr}
use Rattle.mast_tbox.specs.declared.groups.Groups.{Groups}
use Rattle.mast_tbox.specs.Closure.{AtomStep, Down}
use Rattle.mast_tbox.specs.Expressions.{pair, at, subjects, same_basic}
use Rattle.mast_tbox.specs.Inclusions.{Adds, States, pairs, firsts}
use Rattle.mast_tbox.specs.Lists.{Reaches, itself, onward, once}
use Rattle.mast_tbox.specs.NameLinks.{atom_name, basic_name, left_name, right_name, links, IsLinked, AreLinked}
use Rattle.mast_tbox.specs.inside.Groups.{found}
use Rattle.mast_tbox.specs.inside.Linking.{or_itself, is_among, with_root, LeadsOn, GoBothWays, AreSettled, IsSettled, TellsLinked}
use Rattle.mast_tbox.proofs.MemberLemmas.{front, later, first_or, only_one}
use Rattle.mast_tbox.proofs.EqualityLemmas.{basic_same, basic_itself, equivalence_by}
use Rattle.mast_tbox.proofs.OnceLemmas.{once_from, once_has}
use Rattle.mast_tbox.proofs.BelowLemmas.{firsts_from, firsts_has, pairs_from, pairs_has}
use Rattle.mast_tbox.proofs.NoteLemmas.{stands_or}
use Rattle.mast_tbox.proofs.WorkLemmas.{reaches_join, reaches_more, reaches_weaker}

-- where steps go both ways, so does what they reach
pub reaches_turned : {X : Type 0} {S : X → X → Type 0} → ((x y : X) → S x y → S y x) → (x y : X) → Reaches S x y → Reaches S y x
reaches_turned turn x y itself = itself
reaches_turned turn x y (onward {y = w} s d) = reaches_more y w x (reaches_turned turn w y d) (turn x w s)

-- one inclusion links both ways
link_turned : (i : Inclusion) (x y : Basic) → Contains (links i) (x, y) → Contains (links i) (y, x)
link_turned i x y c = elim (first_or (left_name i, right_name i) ((right_name i, left_name i) ∷ []) (x, y) c) [
  | inl e ↦ subst (λ (w : Basic × Basic). Contains (links i) (w.1, w.0)) (sym e) (later (right_name i, left_name i) (left_name i, right_name i) ((right_name i, left_name i) ∷ []) (front (right_name i, left_name i) []))
  | inr d ↦ subst (λ (w : Basic × Basic). Contains (links i) (w.1, w.0)) (sym (only_one (right_name i, left_name i) (x, y) d)) (front (left_name i, right_name i) ((right_name i, left_name i) ∷ []))
]

module _ (tbox : List Inclusion) where
  -- links go both ways
  pub linked_turned : (x y : Basic) → IsLinked tbox x y → IsLinked tbox y x
  linked_turned x y c = let w = pairs_from links tbox (x, y) c in pairs_has links tbox w.inclusion (y, x) w.stands (link_turned w.inclusion x y w.gives)

  -- the sides of an inclusion are linked, from the right to the left
  sides_linked : (i : Inclusion) → Contains tbox i → IsLinked tbox (right_name i) (left_name i)
  sides_linked i c = pairs_has links tbox i (right_name i, left_name i) c (later (right_name i, left_name i) (left_name i, right_name i) ((right_name i, left_name i) ∷ []) (front (right_name i, left_name i) []))

  at_name : (b : Basic) (x : Arg) → atom_name (at b x) ≡ basic_name b
  at_name (BClass a) x = refl
  at_name (BSome (Direct p)) x = refl
  at_name (BSome (Inverse p)) x = refl
  at_name (Subjects u) x = refl

  pair_name : (p : Prop) (x y : Arg) → atom_name (pair p x y) ≡ basic_name (subjects p)
  pair_name (PRole (Direct p)) x y = refl
  pair_name (PRole (Inverse p)) x y = refl
  pair_name (PAttr u) x y = refl

  added_linked : (b : Basic) (p : Prop) (k : ℕ) → Adds tbox b p k → IsLinked tbox (basic_name (subjects p)) (basic_name b)
  added_linked b (PRole r) k a = sides_linked (Exists b r a.0 k) a.1
  added_linked b (PAttr u) k a = sides_linked (HasValue b u k) a

  stated_linked : (p q : Prop) → States tbox p q → IsLinked tbox (basic_name (subjects q)) (basic_name (subjects p))
  stated_linked (PRole r) (PRole s) c = sides_linked (IRole r s) c
  stated_linked (PRole r) (PAttr v) c = absurd c
  stated_linked (PAttr u) (PRole s) c = absurd c
  stated_linked (PAttr u) (PAttr v) c = sides_linked (IAttr u v) c

  -- a step leads to a linked name
  pub step_linked : (g h : Atom) → AtomStep tbox g h → IsLinked tbox (atom_name g) (atom_name h)
  step_linked g h (AtomStep.into_class b a x s eg eh) =
      subst (λ w. IsLinked tbox (atom_name w) (atom_name h)) (sym eg) (subst (IsLinked tbox (BClass a)) (sym (ap atom_name eh ∙ at_name b x)) (sides_linked (IClass b a) s))
  step_linked g h (AtomStep.adds b p k x s eg eh) =
      subst (λ w. IsLinked tbox w (atom_name h)) (sym (ap atom_name eg ∙ pair_name p x Blank)) (subst (IsLinked tbox (basic_name (subjects p))) (sym (ap atom_name eh ∙ at_name b x)) (added_linked b p k s))
  step_linked g h (AtomStep.widens p q x y s eg eh) =
      subst (λ w. IsLinked tbox w (atom_name h)) (sym (ap atom_name eg ∙ pair_name q x y)) (subst (IsLinked tbox (basic_name (subjects q))) (sym (ap atom_name eh ∙ pair_name p x y)) (stated_linked p q s))

  -- a member of Down is linked with its atom
  pub down_linked : (g h : Atom) → Down tbox g h → AreLinked tbox g h
  down_linked g h itself = itself
  down_linked g h (onward {y = w} s d) = onward (step_linked g w s) (down_linked w h d)

  -- where members of two Downs have one name, their atoms are linked
  pub meetings_linked : (g h a b : Atom) → Down tbox g a → Down tbox h b → atom_name a ≡ atom_name b → AreLinked tbox g h
  meetings_linked g h a b d e n =
      reaches_join (atom_name g) (atom_name a) (atom_name h) (down_linked g a d)
      (reaches_turned linked_turned (atom_name h) (atom_name a) (subst (Reaches (IsLinked tbox) (atom_name h)) (sym n) (down_linked h b e)))

  module _ (groups : Groups Basic) (are : (b : Basic) → found same_basic groups b ≡ once same_basic (firsts same_basic b (pairs links tbox))) where
    -- the groups of the links lead from a name to those that are linked with it
    pub leads_linked : (x y : Basic) → LeadsOn groups x y → IsLinked tbox x y
    leads_linked x y l =
        linked_turned y x (firsts_from same_basic basic_same basic_itself x (pairs links tbox) y (once_from same_basic basic_same basic_itself (firsts same_basic x (pairs links tbox)) y (subst (λ w. Contains w y) (are x) l)))

    -- and to all of these
    pub linked_leads : (x y : Basic) → IsLinked tbox x y → LeadsOn groups x y
    linked_leads x y l =
        subst (λ w. Contains w y) (sym (are x)) (once_has same_basic basic_same basic_itself (firsts same_basic x (pairs links tbox)) y (firsts_has same_basic basic_same basic_itself x (pairs links tbox) y (linked_turned x y l)))

    -- so they lead both ways
    pub links_both_ways : GoBothWays groups
    links_both_ways x y l = linked_leads y x (linked_turned x y (leads_linked x y l))

    module _ (note : Basic → Option Basic) (s : AreSettled groups note) (all : (i : Inclusion) → Contains tbox i → (r : Basic) × (note (left_name i) ≡ Some r)) where
      chief_case : (n : Basic) (r : Option Basic) → note n ≡ r → Reaches (LeadsOn groups) (or_itself r n) n
      chief_case n None e = itself
      chief_case n (Some r) e = s.reached n r e

      chief_reaches : (n : Basic) → Reaches (IsLinked tbox) (or_itself (note n) n) n
      chief_reaches n = reaches_weaker leads_linked (or_itself (note n) n) n (chief_case n (note n) refl)

      one_link : (x y : Basic) → IsLinked tbox x y → or_itself (note x) x ≡ or_itself (note y) y
      one_link x y l =
          let w = pairs_from links tbox (x, y) l in
          let n = all w.inclusion w.stands in
          let here : note (right_name w.inclusion) ≡ Some n.0 = s.alike (left_name w.inclusion) (right_name w.inclusion) n.0 n.1 (onward (linked_leads (left_name w.inclusion) (right_name w.inclusion) (linked_turned (right_name w.inclusion) (left_name w.inclusion) (sides_linked w.inclusion w.stands))) itself) in
          elim (first_or (left_name w.inclusion, right_name w.inclusion) ((right_name w.inclusion, left_name w.inclusion) ∷ []) (x, y) w.gives) [
            | inl e ↦ both x y n.0 (ap (λ (v : Basic × Basic). note v.0) e ∙ n.1) (ap (λ (v : Basic × Basic). note v.1) e ∙ here)
            | inr d ↦ let e = only_one (right_name w.inclusion, left_name w.inclusion) (x, y) d in both x y n.0 (ap (λ (v : Basic × Basic). note v.0) e ∙ here) (ap (λ (v : Basic × Basic). note v.1) e ∙ n.1)
          ]
        where
          both : (x y r : Basic) → note x ≡ Some r → note y ≡ Some r → or_itself (note x) x ≡ or_itself (note y) y
          both x y r e f = ap (λ w. or_itself w x) e ∙ sym (ap (λ w. or_itself w y) f)

      along : (x y : Basic) → Reaches (IsLinked tbox) x y → or_itself (note x) x ≡ or_itself (note y) y
      along x y itself = refl
      along x y (onward {y = w} l d) = one_link x w l ∙ along w y d

      -- where the left sides of all inclusions have chiefs, the chiefs tell what is linked
      pub chiefs_tell : TellsLinked tbox (λ n. or_itself (note n) n)
      chiefs_tell x y = (
        λ e. reaches_join x (or_itself (note x) x) y (reaches_turned linked_turned (or_itself (note x) x) x (chief_reaches x)) (subst (λ w. Reaches (IsLinked tbox) w y) (sym e) (chief_reaches y)),
        along x y,
      )

-- before a name has a chief, all are settled
pub settled_none : (groups : Groups Basic) (note : Basic → Option Basic) → ((n : Basic) → note n ≡ None) → AreSettled groups note
settled_none groups note nothing = record {
  reached = λ n r e. absurd (let f = nothing n in cc);
  alike = λ n m r e d. absurd (let f = nothing n in cc);
}

-- a root that has a chief is passed
pub settled_there : (groups : Groups Basic) (old new : Basic → Option Basic) (root r : Basic) → AreSettled groups old → old root ≡ Some r → ((n : Basic) → new n ≡ old n) → IsSettled groups old root new
settled_there groups old new root r s e same = record {
  settled = record { reached = λ n q f. s.reached n q (sym (same n) ∙ f); alike = λ n m q f d. same m ∙ s.alike n m q (sym (same n) ∙ f) d };
  has = (r, same root ∙ e);
  kept = λ n q f. same n ∙ f;
}

module _ (groups : Groups Basic) (turn : GoBothWays groups) (old new : Basic → Option Basic) (root : Basic) (names : List Basic) (s : AreSettled groups old) (free : old root ≡ None)
    (are : (n : Basic) → Contains names n ↔ Reaches (LeadsOn groups) root n) (noted : (n : Basic) → new n ≡ with_root root names n (old n)) where
  inside : (n : Basic) → Reaches (LeadsOn groups) root n → new n ≡ Some root
  inside n r = noted n ∙ ap (λ b. if b then Some root else old n) (list_any-from_Contains (equivalence_by same_basic basic_same basic_itself) n names ((are n).1 r))

  outside : (n : Basic) → (Reaches (LeadsOn groups) root n → ⊥) → new n ≡ old n
  outside n r = noted n ∙ elim (stands_or same_basic (equivalence_by same_basic basic_same basic_itself) basic_same names n) [
    | inl w ↦ absurd (r ((are n).0 w.0))
    | inr w ↦ ap (λ b. if b then Some root else old n) w.1
  ]

  reached_or : (n : Basic) → Reaches (LeadsOn groups) root n ⊎ (Reaches (LeadsOn groups) root n → ⊥)
  reached_or n = elim (stands_or same_basic (equivalence_by same_basic basic_same basic_itself) basic_same names n) [ inl w ↦ inl ((are n).0 w.0) | inr w ↦ inr (λ r. w.0 ((are n).1 r)) ]

  -- a name that had a chief is not reached from a root that had none
  apart : (n r : Basic) → old n ≡ Some r → Reaches (LeadsOn groups) root n → ⊥
  apart n r e d = absurd (let f : Some r ≡ None = sym (s.alike n root r e (reaches_turned turn root n d)) ∙ free in cc)

  next_reached : (n r : Basic) → new n ≡ Some r → Reaches (LeadsOn groups) r n
  next_reached n r e = elim (reached_or n) [
    | inl d ↦ let f : Some root ≡ Some r = sym (inside n d) ∙ e in let g : root ≡ r = cc in subst (λ w. Reaches (LeadsOn groups) w n) g d
    | inr d ↦ s.reached n r (sym (outside n d) ∙ e)
  ]

  next_alike : (n m r : Basic) → new n ≡ Some r → Reaches (LeadsOn groups) n m → new m ≡ Some r
  next_alike n m r e d = elim (reached_or n) [
    | inl k ↦ inside m (reaches_join root n m k d) ∙ (sym (inside n k) ∙ e)
    | inr k ↦ outside m (λ j. k (reaches_join root m n j (reaches_turned turn n m d))) ∙ s.alike n m r (sym (outside n k) ∙ e) d
  ]

  -- a root that has none is noted for all that is reached from it
  pub settled_next : IsSettled groups old root new
  settled_next = record {
    settled = record { reached = next_reached; alike = next_alike };
    has = (root, inside root itself);
    kept = λ n r e. outside n (apart n r e) ∙ e;
  }

root_case : (root : Basic) (b a : Bool) (before : Option Basic) → (if a then Some root else cond b (Some root) before) ≡ (if b || a then Some root else before)
root_case root true true before = refl
root_case root true false before = refl
root_case root false true before = refl
root_case root false false before = refl

-- one name more: what is left to note falls by it
pub root_next : (root n : Basic) (names : List Basic) (i : ℕ) (d : Basic) (before after : Option Basic) → i < length names → after ≡ cond (same_basic (slice_index_or names i d) n) (Some root) before
    → with_root root (drop (i + 1) names) n after ≡ with_root root (drop i names) n before
root_next root n names i d before after l e =
    ap (with_root root (drop (i + 1) names) n) (e ∙ ap (λ b. cond b (Some root) before) ((equivalence_by same_basic basic_same basic_itself).symm (slice_index_or names i d) n))
    ∙ (root_case root (same_basic n (slice_index_or names i d)) (is_among n (drop (i + 1) names)) before
    ∙ ap (λ w. with_root root w n before) (sym (drop_more names i d l)))

-- one inclusion more: its left side has a chief too
pub sides_next : (tbox : List Inclusion) (groups : Groups Basic) (old new : Basic → Option Basic) (root : Basic) (k : ℕ) (d : Inclusion) → k < length tbox → root ≡ left_name (slice_index_or tbox k d) → IsSettled groups old root new
    → ((i : Inclusion) → Contains tbox i → Contains (drop k tbox) i ⊎ ((r : Basic) × (old (left_name i) ≡ Some r)))
    → (i : Inclusion) → Contains tbox i → Contains (drop (k + 1) tbox) i ⊎ ((r : Basic) × (new (left_name i) ≡ Some r))
sides_next tbox groups old new root k d l e s before i c = elim (before i c) [
  | inl a ↦ elim (first_or (slice_index_or tbox k d) (drop (k + 1) tbox) i (subst (λ v. Contains v i) (drop_more tbox k d l) a)) [
    | inl f ↦ inr (s.has.0, ap (λ v. new (left_name v)) f ∙ (ap new (sym e) ∙ s.has.1))
    | inr b ↦ inl b
  ]
  | inr w ↦ inr (w.0, s.kept (left_name i) w.0 w.1)
]
