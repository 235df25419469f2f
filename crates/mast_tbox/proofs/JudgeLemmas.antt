-- Judging by the chiefs finds the restriction breach.
use Rattle.std.proofs.Common.{◌≡◌, ℕ, inl, inr, ◌↔◌, Bool, true, false, ◌||◌, Option, Some, None, List, [], ◌∷◌, ◌++◌, map, Contains, refl, sym, ap, subst, ◌∙◌, if◌then◌else◌}
use Rattle.std.proofs.lemmas.List.Elements.{Contains-append_left, Contains-append_right, Contains-append_cases}
use Rattle.std.proofs.lemmas.Map.Views.{list_any-from_Contains, Contains-from_any}
use Rattle.mast_tree.specs.declared.document.DocName.TheVariants.{Ontology, Constraints}
use Rattle.mast_cq.specs.Sorts.{IsFirst}
use Rattle.mast_tbox.specs.declared.expression.Prop.{Prop}
use Rattle.mast_tbox.specs.declared.expression.Prop.TheVariants.{Role as PRole, Attr as PAttr}
use Rattle.mast_tbox.specs.declared.axiom.Inclusion.{Inclusion}
use Rattle.mast_tbox.specs.declared.axiom.Inclusion.TheVariants.{Class as IClass, Exists, HasValue, Role as IRole, Attr as IAttr, Range}
use Rattle.mast_tbox.specs.declared.axiom.Lined.{Lined}
use Rattle.mast_tbox.specs.declared.constraint.Constraint.{Constraint}
use Rattle.mast_tbox.specs.declared.constraint.Constraint.TheVariants.{Functional, Identify, Deny}
use Rattle.mast_tbox.specs.declared.restriction.RestrictionKind.{RestrictionKind}
use Rattle.mast_tbox.specs.declared.restriction.RestrictionKind.TheVariants.{FunctSpecialised, NotLocal, AnchorSpecialised}
use Rattle.mast_tbox.specs.declared.restriction.RestrictionBreach.{RestrictionBreach}
use Rattle.mast_tbox.specs.Expressions.{inverse, same_prop}
use Rattle.mast_tbox.specs.Inclusions.{Leads, States}
use Rattle.mast_tbox.specs.Lists.{itself, onward, items}
use Rattle.mast_tbox.specs.Properties.{IsBelow, AreEquivalent}
use Rattle.mast_tbox.specs.inside.Components.{TellsComponents}
use Rattle.mast_tbox.specs.inside.Judging.{unless_same, narrowed, all_narrowed, made_functional, functionals, marked, is_like, passes, narrows, first_line, judged, breach_kind, at_line, first_judged}
use Rattle.mast_tbox.specs.inside.Chosen.{is_in}
use Rattle.mast_tbox.specs.Restrictions.{IsLike, Specialises, IsSpecialised, IsFunctional, SpecialisesFunctional, with_first, anchors, AllSpecialised, Breaches, NoneOf, NoAxiom, IsAxiomBreach, BreachesSome, IsConstraintBreach, IsRestrictionBreach}
use Rattle.mast_tbox.proofs.MemberLemmas.{front, later, none, first_or, map_in, map_out}
use Rattle.mast_tbox.proofs.EqualityLemmas.{inverse_twice, prop_same, prop_equivalence}
use Rattle.mast_tbox.proofs.WorkLemmas.{all_from, all_has}
use Rattle.mast_tbox.proofs.ComponentLemmas.{equivalent_turned}

module _ (tbox : List Inclusion) where
  -- what leads from one property to another leads between their inverses
  inverses_lead : (p q : Prop) → Leads tbox p q → Leads tbox (inverse p) (inverse q)
  inverses_lead p q (inl s) = inr (subst (λ w. States tbox w (inverse (inverse q))) (sym (inverse_twice p)) (subst (States tbox p) (sym (inverse_twice q)) s))
  inverses_lead p q (inr s) = inl s

  -- being below goes over to the inverses
  pub below_inverse : (p q : Prop) → IsBelow tbox p q → IsBelow tbox (inverse p) (inverse q)
  below_inverse p q itself = itself
  below_inverse p q (onward {y = y} l d) = onward (inverses_lead p y l) (below_inverse y q d)

  -- so does being equivalent
  pub equivalent_inverse : (p q : Prop) → AreEquivalent tbox p q → AreEquivalent tbox (inverse p) (inverse q)
  equivalent_inverse p q e = (below_inverse p q e.0, below_inverse q p e.1)

  -- being like another is symmetric
  like_turned : (p q : Prop) → IsLike tbox p q → IsLike tbox q p
  like_turned p q (inl e) = inl (equivalent_turned tbox p q e)
  like_turned p q (inr e) = inr (subst (λ w. AreEquivalent tbox w (inverse p)) (inverse_twice q) (equivalent_turned tbox (inverse p) (inverse (inverse q)) (equivalent_inverse p (inverse q) e)))

-- a property that is put first, and one of the rest
made_first : (o : Option Prop) (ps : List Prop) (q : Prop) → o ≡ Some q → Contains (with_first o ps) q
made_first None ps q e = cc
made_first (Some p) ps q e = let g : p ≡ q = cc in subst (Contains (p ∷ ps)) g (front p ps)

made_rest : (o : Option Prop) (ps : List Prop) (q : Prop) → Contains ps q → Contains (with_first o ps) q
made_rest None ps q c = c
made_rest (Some p) ps q c = later q p ps c

-- some property of the list is like the one
abbrev pub LikeSome : List Inclusion → List Prop → Prop → Type 0
LikeSome tbox qs p = (q : Prop) × (Contains qs q × IsLike tbox q p)

module _ (tbox : List Inclusion) (f : Prop → Prop) (tells : TellsComponents tbox f) where
  module _ (set : List Prop) (qs : List Prop) (holds : set ≡ marked f qs) where
    key_of : (p : Prop) → is_in (f p) set ≡ true → (q : Prop) × (Contains qs q × AreEquivalent tbox q p)
    key_of p t = elim (all_from same_prop prop_same (map f qs) [] (f p) (subst (λ w. Contains w (f p)) holds (Contains-from_any prop_same (f p) set t))) [
      | inl c ↦ absurd (none (f p) c)
      | inr c ↦ let w = map_out f qs (f p) c in (w.element, (w.stands, equivalent_turned tbox p w.element ((tells p w.element).0 w.is)))
    ]

    key_has : (p q : Prop) → Contains qs q → AreEquivalent tbox q p → is_in (f p) set ≡ true
    key_has p q c e =
        list_any-from_Contains prop_equivalence (f p) set (subst (λ w. Contains w (f p)) (sym holds) (all_has same_prop prop_same (map f qs) [] (f p) (subst (Contains (map f qs)) ((tells q p).1 e) (map_in f qs q c))))

    like_case : (p : Prop) (a b : Bool) → is_in (f p) set ≡ a → is_in (f (inverse p)) set ≡ b → (a || b) ≡ true → LikeSome tbox qs p
    like_case p true b e g t = let w = key_of p e in (w.0, (w.1.0, inl w.1.1))
    like_case p false true e g t = let w = key_of (inverse p) g in (w.0, (w.1.0, inr w.1.1))
    like_case p false false e g t = cc

    or_true : (b : Bool) → (b || true) ≡ true
    or_true true = refl
    or_true false = refl

    -- the test on a set of chiefs finds whether some property is like one
    pub like_is : (p : Prop) → (is_like f set p ≡ true) ↔ LikeSome tbox qs p
    like_is p = (
      like_case p (is_in (f p) set) (is_in (f (inverse p)) set) refl refl,
      λ w. elim w.1.1 [
        | inl e ↦ ap (λ b. b || is_in (f (inverse p)) set) (key_has p w.0 w.1.0 e)
        | inr e ↦ ap (λ b. is_in (f p) set || b) (key_has (inverse p) w.0 w.1.0 e) ∙ or_true (is_in (f p) set)
      ],
    )

  unless_out : (b : Bool) (p q : Prop) → unless_same b p ≡ Some q → (b ≡ false) × (p ≡ q)
  unless_out true p q e = cc
  unless_out false p q e = (refl, cc)

  apart : (p q : Prop) → same_prop (f p) (f q) ≡ false → AreEquivalent tbox p q → ⊥
  apart p q e a = absurd (let g : true ≡ false = sym (prop_equivalence.refl (f q)) ∙ (ap (λ w. same_prop w (f q)) (sym ((tells p q).1 a)) ∙ e) in cc)

  unless_in : (p q : Prop) (b : Bool) → same_prop (f p) (f q) ≡ b → (AreEquivalent tbox p q → ⊥) → unless_same b q ≡ Some q
  unless_in p q true e n = absurd (n ((tells p q).0 (prop_same (f p) (f q) e)))
  unless_in p q false e n = refl

  -- an inclusion specialises exactly what is like the property that it narrows
  pub specialises_in : (i : Inclusion) (p q : Prop) → narrowed f i ≡ Some q → IsLike tbox p q → Specialises tbox i p
  specialises_in (IClass b a) p q e l = cc
  specialises_in (Exists b r None k) p q e l = cc
  specialises_in (Exists b r (Some a) k) p q e l = let g : PRole r ≡ q = cc in subst (IsLike tbox p) (sym g) l
  specialises_in (HasValue b u k) p q e l = cc
  specialises_in (IRole r s) p q e l = let g = unless_out (same_prop (f (PRole r)) (f (PRole s))) (PRole s) q e in (apart (PRole r) (PRole s) g.0, subst (IsLike tbox p) (sym g.1) l)
  specialises_in (IAttr u v) p q e l = let g = unless_out (same_prop (f (PAttr u)) (f (PAttr v))) (PAttr v) q e in (apart (PAttr u) (PAttr v) g.0, subst (IsLike tbox p) (sym g.1) l)
  specialises_in (Range u kind) p q e l = cc

  pub specialises_out : (i : Inclusion) (p : Prop) → Specialises tbox i p → (q : Prop) × ((narrowed f i ≡ Some q) × IsLike tbox p q)
  specialises_out (IClass b a) p s = absurd s
  specialises_out (Exists b r None k) p s = absurd s
  specialises_out (Exists b r (Some a) k) p s = (PRole r, (refl, s))
  specialises_out (HasValue b u k) p s = absurd s
  specialises_out (IRole r t) p s = (PRole t, (unless_in (PRole r) (PRole t) (same_prop (f (PRole r)) (f (PRole t))) refl s.0, s.1))
  specialises_out (IAttr u v) p s = (PAttr v, (unless_in (PAttr u) (PAttr v) (same_prop (f (PAttr u)) (f (PAttr v))) refl s.0, s.1))
  specialises_out (Range u kind) p s = absurd s

  passes_out : (test : Prop → Bool) (o : Option Prop) → passes test o ≡ true → (q : Prop) × ((o ≡ Some q) × (test q ≡ true))
  passes_out test None t = cc
  passes_out test (Some q) t = (q, (refl, t))

  -- so the test on an inclusion finds whether it specialises a functional property
  pub axiom_is : (set qs : List Prop) → set ≡ marked f qs → (F : Prop → Type 0) → ((p : Prop) → Contains qs p ↔ F p)
      → (l : Lined Inclusion) → (narrows f set l.item ≡ true) ↔ SpecialisesFunctional tbox F l
  axiom_is set qs holds F is l = (
    λ t. let w = passes_out (is_like f set) (narrowed f l.item) t in
        let v = (like_is set qs holds w.0).0 w.1.1 in
        (v.0, ((is v.0).0 v.1.0, specialises_in l.item v.0 w.0 w.1.0 v.1.1)),
    λ s. let w = specialises_out l.item s.0 s.1.1 in
        ap (passes (is_like f set)) w.1.0 ∙ (like_is set qs holds w.0).1 (s.0, ((is s.0).1 s.1.0, w.1.1)),
  )

  narrowed_case : (l : Lined Inclusion) (ls : List (Lined Inclusion)) (q : Prop) (o : Option Prop) → narrowed f l.item ≡ o
      → (Contains (all_narrowed f ls) q → (i : Inclusion) × (Contains (items ls) i × (narrowed f i ≡ Some q))) → Contains (with_first o (all_narrowed f ls)) q
      → (i : Inclusion) × (Contains (items (l ∷ ls)) i × (narrowed f i ≡ Some q))
  narrowed_case l ls q None e ih c = let w = ih c in (w.0, (later w.0 l.item (items ls) w.1.0, w.1.1))
  narrowed_case l ls q (Some p) e ih c = elim (first_or p (all_narrowed f ls) q c) [
    | inl g ↦ (l.item, (front l.item (items ls), e ∙ ap Some (sym g)))
    | inr d ↦ let w = ih d in (w.0, (later w.0 l.item (items ls) w.1.0, w.1.1))
  ]

  narrowed_from : (ls : List (Lined Inclusion)) (q : Prop) → Contains (all_narrowed f ls) q → (i : Inclusion) × (Contains (items ls) i × (narrowed f i ≡ Some q))
  narrowed_from [] q c = absurd (none q c)
  narrowed_from (l ∷ ls) q c = narrowed_case l ls q (narrowed f l.item) refl (narrowed_from ls q) c

  narrowed_has : (ls : List (Lined Inclusion)) (i : Inclusion) (q : Prop) → Contains (items ls) i → narrowed f i ≡ Some q → Contains (all_narrowed f ls) q
  narrowed_has [] i q c e = absurd (none i c)
  narrowed_has (l ∷ ls) i q c e = elim (first_or l.item (items ls) i c) [
    | inl g ↦ made_first (narrowed f l.item) (all_narrowed f ls) q (ap (narrowed f) (sym g) ∙ e)
    | inr d ↦ made_rest (narrowed f l.item) (all_narrowed f ls) q (narrowed_has ls i q d e)
  ]

-- a property is functional exactly where it stands in the two lists
functional_out : (c : Constraint) (p : Prop) → made_functional c ≡ Some p → c ≡ Functional p
functional_out (Functional q) p e = let g : q ≡ p = cc in ap Functional g
functional_out (Identify b paths) p e = cc
functional_out (Deny atoms) p e = cc

functional_case : (l : Lined Constraint) (ls : List (Lined Constraint)) (p : Prop) (o : Option Prop) → made_functional l.item ≡ o → (Contains (functionals ls) p → Contains (items ls) (Functional p)) → Contains (with_first o (functionals ls)) p
    → Contains (items (l ∷ ls)) (Functional p)
functional_case l ls p None e ih c = later (Functional p) l.item (items ls) (ih c)
functional_case l ls p (Some q) e ih c = elim (first_or q (functionals ls) p c) [
  | inl g ↦ subst (Contains (items (l ∷ ls))) (functional_out l.item p (e ∙ ap Some (sym g))) (front l.item (items ls))
  | inr d ↦ later (Functional p) l.item (items ls) (ih d)
]

functionals_from : (ls : List (Lined Constraint)) (p : Prop) → Contains (functionals ls) p → Contains (items ls) (Functional p)
functionals_from [] p c = absurd (none p c)
functionals_from (l ∷ ls) p c = functional_case l ls p (made_functional l.item) refl (functionals_from ls p) c

functionals_has : (ls : List (Lined Constraint)) (p : Prop) → Contains (items ls) (Functional p) → Contains (functionals ls) p
functionals_has [] p c = absurd (none (Functional p) c)
functionals_has (l ∷ ls) p c = elim (first_or l.item (items ls) (Functional p) c) [
  | inl g ↦ made_first (made_functional l.item) (functionals ls) p (ap made_functional (sym g))
  | inr d ↦ made_rest (made_functional l.item) (functionals ls) p (functionals_has ls p d)
]

-- the functional properties are those of the ontology and those of the constraints
pub functional_is : (functional : List (Lined Prop)) (constraints : List (Lined Constraint)) (p : Prop) → Contains (items functional ++ functionals constraints) p ↔ IsFunctional functional constraints p
functional_is functional constraints p = (
  λ c. elim (Contains-append_cases (items functional) (functionals constraints) p c) [ inl i ↦ inl i | inr i ↦ inr (functionals_from constraints p i) ],
  λ c. elim c [
    | inl i ↦ Contains-append_left (items functional) (functionals constraints) p i
    | inr i ↦ Contains-append_right (items functional) (functionals constraints) p (functionals_has constraints p i)
  ],
)

-- the first line that passes the test is the first with the property
pub record FirstLine {X : Type 0} (P : Lined X → Type 0) (ls : List (Lined X)) (n : ℕ) : Type 0 where
  pub line : Lined X
  pub first : IsFirst P ls line
  pub number : n ≡ line.line

module _ {X : Type 0} (test : X → Bool) (P : Lined X → Type 0) (is : (l : Lined X) → (test l.item ≡ true) ↔ P l) where
  fails : (l : Lined X) → test l.item ≡ false → P l → ⊥
  fails l e p = absurd (let g : true ≡ false = sym ((is l).1 p) ∙ e in cc)

  first_case : (l : Lined X) (ls : List (Lined X)) (n : ℕ) (b : Bool) → test l.item ≡ b → (first_line test ls ≡ Some n → FirstLine P ls n) → (if b then Some l.line else first_line test ls) ≡ Some n → FirstLine P (l ∷ ls) n
  first_case l ls n true e ih g = record { line = l; first = inl (refl, (is l).0 e); number = (let h : l.line ≡ n = cc in sym h) }
  first_case l ls n false e ih g = let w = ih g in record { line = w.line; first = inr (fails l e, w.first); number = w.number }

  pub first_is : (ls : List (Lined X)) (n : ℕ) → first_line test ls ≡ Some n → FirstLine P ls n
  first_is [] n e = cc
  first_is (l ∷ ls) n e = first_case l ls n (test l.item) refl (first_is ls n) e

  none_case : (l : Lined X) (ls : List (Lined X)) (b : Bool) → test l.item ≡ b → (first_line test ls ≡ None → NoneOf P ls) → (if b then Some l.line else first_line test ls) ≡ None → NoneOf P (l ∷ ls)
  none_case l ls true e ih g = cc
  none_case l ls false e ih g = λ x c p. elim (first_or l ls x c) [ inl h ↦ fails l e (subst P h p) | inr d ↦ ih g x d p ]

  pub none_is : (ls : List (Lined X)) → first_line test ls ≡ None → NoneOf P ls
  none_is [] e = λ x c p. none x c
  none_is (l ∷ ls) e = none_case l ls (test l.item) refl (none_is ls) e

module _ (tbox : List Inclusion) (test : Prop → Bool) (is : (p : Prop) → (test p ≡ true) ↔ IsSpecialised tbox p) where
  all_case : (p : Prop) (ps : List Prop) (kind : RestrictionKind) (b : Bool) → test p ≡ b → (judged test true ps ≡ Some kind → (kind ≡ AnchorSpecialised) × ((q : Prop) → Contains ps q → IsSpecialised tbox q))
      → (if b then judged test true ps else None) ≡ Some kind → (kind ≡ AnchorSpecialised) × ((q : Prop) → Contains (p ∷ ps) q → IsSpecialised tbox q)
  all_case p ps kind true e ih g = let w = ih g in
      (w.0, λ q c. elim (first_or p ps q c) [ inl h ↦ subst (IsSpecialised tbox) (sym h) ((is p).0 e) | inr d ↦ w.1 q d ])
  all_case p ps kind false e ih g = cc

  all_pass : (ps : List Prop) (kind : RestrictionKind) → judged test true ps ≡ Some kind → (kind ≡ AnchorSpecialised) × ((q : Prop) → Contains ps q → IsSpecialised tbox q)
  all_pass [] kind e = ((let g : AnchorSpecialised ≡ kind = cc in sym g), λ q c. absurd (none q c))
  all_pass (p ∷ ps) kind e = all_case p ps kind (test p) refl (all_pass ps kind) e

  fail_case : (p : Prop) (ps : List Prop) (b : Bool) → test p ≡ b → (judged test true ps ≡ None → ((q : Prop) → Contains ps q → IsSpecialised tbox q) → ⊥) → (if b then judged test true ps else None) ≡ None
      → ((q : Prop) → Contains (p ∷ ps) q → IsSpecialised tbox q) → ⊥
  fail_case p ps true e ih g h = ih g (λ q c. h q (later q p ps c))
  fail_case p ps false e ih g h = absurd (let k : true ≡ false = sym ((is p).1 (h p (front p ps))) ∙ e in cc)

  some_fail : (ps : List Prop) → judged test true ps ≡ None → ((q : Prop) → Contains ps q → IsSpecialised tbox q) → ⊥
  some_fail [] e h = cc
  some_fail (p ∷ ps) e h = fail_case p ps (test p) refl (some_fail ps) e h

  -- the kind of breach of an identification with these anchors
  abbrev AnchorBreach : RestrictionKind → List Prop → Type 0
  AnchorBreach FunctSpecialised ps = ⊥
  AnchorBreach NotLocal ps = ps ≡ []
  AnchorBreach AnchorSpecialised ps = AllSpecialised tbox ps

  judged_some : (ps : List Prop) (kind : RestrictionKind) → judged test false ps ≡ Some kind → AnchorBreach kind ps
  judged_some [] kind e = let g : NotLocal ≡ kind = cc in subst (λ w. AnchorBreach w []) g refl
  judged_some (p ∷ ps) kind e = let w = all_case p ps kind (test p) refl (all_pass ps kind) e in subst (λ v. AnchorBreach v (p ∷ ps)) (sym w.0) w.1

  judged_none : (ps : List Prop) (kind : RestrictionKind) → judged test false ps ≡ None → AnchorBreach kind ps → ⊥
  judged_none [] kind e b = cc
  judged_none (p ∷ ps) FunctSpecialised e b = b
  judged_none (p ∷ ps) NotLocal e b = cc
  judged_none (p ∷ ps) AnchorSpecialised e b = fail_case p ps (test p) refl (some_fail ps) e b

  kind_some : (c : Constraint) (kind : RestrictionKind) → breach_kind test c ≡ Some kind → Breaches tbox kind c
  kind_some (Functional p) kind e = cc
  kind_some (Identify b paths) FunctSpecialised e = judged_some (anchors paths) FunctSpecialised e
  kind_some (Identify b paths) NotLocal e = judged_some (anchors paths) NotLocal e
  kind_some (Identify b paths) AnchorSpecialised e = judged_some (anchors paths) AnchorSpecialised e
  kind_some (Deny atoms) kind e = cc

  kind_none : (c : Constraint) (kind : RestrictionKind) → breach_kind test c ≡ None → Breaches tbox kind c → ⊥
  kind_none c FunctSpecialised e b = b
  kind_none (Functional p) NotLocal e b = b
  kind_none (Functional p) AnchorSpecialised e b = b
  kind_none (Identify d paths) NotLocal e b = judged_none (anchors paths) NotLocal e b
  kind_none (Identify d paths) AnchorSpecialised e b = judged_none (anchors paths) AnchorSpecialised e b
  kind_none (Deny atoms) NotLocal e b = b
  kind_none (Deny atoms) AnchorSpecialised e b = b

  breach_case : (l : Lined Constraint) (ls : List (Lined Constraint)) (b : RestrictionBreach) (o : Option RestrictionKind) → breach_kind test l.item ≡ o → (first_judged test ls ≡ Some b → IsConstraintBreach tbox ls b)
      → at_line test o l.line (first_judged test ls) ≡ Some b → IsConstraintBreach tbox (l ∷ ls) b
  breach_case l ls b None e ih g = let w = ih g in record { line = w.line; first = inr (λ s. kind_none l.item s.0 e s.1, w.first); breaches = w.breaches; is = w.is }
  breach_case l ls b (Some kind) e ih g =
      let h : record { doc = Constraints; line = l.line; kind = kind } ≡ b = cc in
      subst (IsConstraintBreach tbox (l ∷ ls)) h (record { line = l; first = inl (refl, (kind, kind_some l.item kind e)); breaches = kind_some l.item kind e; is = refl })

  pub breach_is : (ls : List (Lined Constraint)) (b : RestrictionBreach) → first_judged test ls ≡ Some b → IsConstraintBreach tbox ls b
  breach_is [] b e = cc
  breach_is (l ∷ ls) b e = breach_case l ls b (breach_kind test l.item) refl (breach_is ls b) e

  no_case : (l : Lined Constraint) (ls : List (Lined Constraint)) (o : Option RestrictionKind) → breach_kind test l.item ≡ o → (first_judged test ls ≡ None → NoneOf (BreachesSome tbox) ls) → at_line test o l.line (first_judged test ls) ≡ None
      → NoneOf (BreachesSome tbox) (l ∷ ls)
  no_case l ls (Some kind) e ih g = cc
  no_case l ls None e ih g = λ x c s. elim (first_or l ls x c) [ inl h ↦ kind_none l.item s.0 e (subst (λ w. Breaches tbox s.0 w.item) h s.1) | inr d ↦ ih g x d s ]

  pub no_breach : (ls : List (Lined Constraint)) → first_judged test ls ≡ None → NoneOf (BreachesSome tbox) ls
  no_breach [] e = λ x c s. none x c
  no_breach (l ∷ ls) e = no_case l ls (breach_kind test l.item) refl (no_breach ls) e

-- a property is specialised exactly where it is like one that is narrowed
pub special_is : (lines : List (Lined Inclusion)) (f : Prop → Prop) → TellsComponents (items lines) f → (set : List Prop) → set ≡ marked f (all_narrowed f lines) → (p : Prop) → (is_like f set p ≡ true) ↔ IsSpecialised (items lines) p
special_is lines f tells set holds p = (
  λ t. let w = (like_is (items lines) f tells set (all_narrowed f lines) holds p).0 t in
      let v = narrowed_from (items lines) f tells lines w.0 w.1.0 in
      (v.0, (v.1.0, specialises_in (items lines) f tells v.0 p w.0 v.1.1 (like_turned (items lines) w.0 p w.1.1))),
  λ s. let w = specialises_out (items lines) f tells s.0 p s.1.1 in
      (like_is (items lines) f tells set (all_narrowed f lines) holds p).1
      (w.0, (narrowed_has (items lines) f tells lines s.0 w.0 s.1.0 w.1.0, like_turned (items lines) p w.0 w.1.1)),
)

-- the breach by an axiom, and by a constraint where there is none
pub axiom_breach : (inclusions : List (Lined Inclusion)) (F : Prop → Type 0) (n : ℕ) → FirstLine (SpecialisesFunctional (items inclusions) F) inclusions n
    → IsAxiomBreach inclusions F (record { doc = Ontology; line = n; kind = FunctSpecialised })
axiom_breach inclusions F n w = record { line = w.line; first = w.first; is = ap (λ k. record { doc = Ontology; line = k; kind = FunctSpecialised }) w.number }

pub constraint_breach : (inclusions : List (Lined Inclusion)) (functional : List (Lined Prop)) (constraints : List (Lined Constraint)) (test : Prop → Bool) → ((p : Prop) → (test p ≡ true) ↔ IsSpecialised (items inclusions) p)
    → NoAxiom inclusions (IsFunctional functional constraints) → (o : Option RestrictionBreach) → o ≡ first_judged test constraints → IsRestrictionBreach inclusions functional constraints o
constraint_breach inclusions functional constraints test is n None e = (n, no_breach (items inclusions) test is constraints (sym e))
constraint_breach inclusions functional constraints test is n (Some b) e = inr (n, breach_is (items inclusions) test is constraints b (sym e))

module _ (lines : List (Lined Inclusion)) (functional : List (Lined Prop)) (constraints : List (Lined Constraint)) (f : Prop → Prop) (tells : TellsComponents (items lines) f) (set : List Prop)
    (holds : set ≡ marked f (items functional ++ functionals constraints)) where
  line_is : (l : Lined Inclusion) → (narrows f set l.item ≡ true) ↔ SpecialisesFunctional (items lines) (IsFunctional functional constraints) l
  line_is l = axiom_is (items lines) f tells set (items functional ++ functionals constraints) holds (IsFunctional functional constraints) (functional_is functional constraints) l

  -- where a line is found it is the breach
  pub found_breach : (n : ℕ) → first_line (narrows f set) lines ≡ Some n → IsRestrictionBreach lines functional constraints (Some (record { doc = Ontology; line = n; kind = FunctSpecialised }))
  found_breach n e = inl (axiom_breach lines (IsFunctional functional constraints) n (first_is (narrows f set) (SpecialisesFunctional (items lines) (IsFunctional functional constraints)) line_is lines n e))

  -- and where none is, it is that of the constraints
  pub judged_breach : first_line (narrows f set) lines ≡ None → (special : List Prop) → special ≡ marked f (all_narrowed f lines) → (o : Option RestrictionBreach) → o ≡ first_judged (is_like f special) constraints
      → IsRestrictionBreach lines functional constraints o
  judged_breach e special h o g =
      constraint_breach lines functional constraints (is_like f special) (special_is lines f tells special h) (none_is (narrows f set) (SpecialisesFunctional (items lines) (IsFunctional functional constraints)) line_is lines e) o g
