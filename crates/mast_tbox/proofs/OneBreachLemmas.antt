-- The restriction breach has one answer: a breach or none, and always one of these.
use Rattle.std.proofs.Common.{◌≡◌, ◌⊎◌, inl, inr, Option, Some, None, List, [], ◌∷◌, ◌++◌, Contains, refl, sym, ap, subst, ◌∙◌}
use Rattle.mast_tree.specs.declared.document.DocName.TheVariants.{Ontology, Constraints}
use Rattle.mast_cq.specs.Sorts.{IsFirst}
use Rattle.mast_tbox.specs.declared.expression.Prop.{Prop}
use Rattle.mast_tbox.specs.declared.axiom.Inclusion.{Inclusion}
use Rattle.mast_tbox.specs.declared.axiom.Lined.{Lined}
use Rattle.mast_tbox.specs.declared.constraint.Constraint.{Constraint}
use Rattle.mast_tbox.specs.declared.constraint.Constraint.TheVariants.{Functional, Identify, Deny}
use Rattle.mast_tbox.specs.declared.restriction.RestrictionKind.{RestrictionKind}
use Rattle.mast_tbox.specs.declared.restriction.RestrictionKind.TheVariants.{FunctSpecialised, NotLocal, AnchorSpecialised}
use Rattle.mast_tbox.specs.declared.restriction.RestrictionBreach.{RestrictionBreach}
use Rattle.mast_tbox.specs.inside.Judging.{functionals}
use Rattle.mast_tbox.specs.Laws.{Decided, HasOneAnswer}
use Rattle.mast_tbox.specs.Lists.{items}
use Rattle.mast_tbox.specs.Restrictions.{IsFunctional, SpecialisesFunctional, anchors, AllSpecialised, Breaches, NoneOf, NoAxiom, IsAxiomBreach, BreachesSome, IsConstraintBreach, IsRestrictionBreach}
use Rattle.mast_tbox.proofs.JudgeLemmas.{functional_is}
use Rattle.mast_tbox.proofs.MemberLemmas.{front, later, none, first_or}
use Rattle.mast_tbox.proofs.OrderLemmas.{specialises_decided, specialised_decided}
use Rattle.mast_tbox.proofs.ThroughLemmas.{dec_as, dec_some, dec_each}

module _ {X : Type 0} (P : X → Type 0) where
  -- the first is one
  first_one : (xs : List X) (x y : X) → IsFirst P xs x → IsFirst P xs y → x ≡ y
  first_one [] x y f g = absurd f
  first_one (z ∷ zs) x y (inl a) (inl b) = a.0 ∙ sym b.0
  first_one (z ∷ zs) x y (inl a) (inr b) = absurd (b.0 a.1)
  first_one (z ∷ zs) x y (inr a) (inl b) = absurd (a.0 b.1)
  first_one (z ∷ zs) x y (inr a) (inr b) = first_one zs x y a.1 b.1

  -- it is one of the list, and has the property
  first_is : (xs : List X) (x : X) → IsFirst P xs x → Contains xs x × P x
  first_is [] x f = absurd f
  first_is (z ∷ zs) x (inl a) = (subst (Contains (z ∷ zs)) (sym a.0) (front z zs), subst P (sym a.0) a.1)
  first_is (z ∷ zs) x (inr a) = let w = first_is zs x a.1 in (later x z zs w.0, w.1)

  -- there is a first or none, where the property is decided
  first_or_none : ((x : X) → Decided (P x)) → (xs : List X) → ((x : X) × IsFirst P xs x) ⊎ NoneOf P xs
  first_or_none dec [] = inr (λ x c p. none x c)
  first_or_none dec (z ∷ zs) = go (dec z) (first_or_none dec zs)
    where
      go : Decided (P z) → ((x : X) × IsFirst P zs x) ⊎ NoneOf P zs → ((x : X) × IsFirst P (z ∷ zs) x) ⊎ NoneOf P (z ∷ zs)
      go (inl p) d = inl (z, inl (refl, p))
      go (inr n) (inl w) = inl (w.0, inr (n, w.1))
      go (inr n) (inr m) = inr (λ x c p. elim (first_or z zs x c) [ inl e ↦ n (subst P e p) | inr i ↦ m x i p ])

module _ (tbox : List Inclusion) where
  not_both : (c : Constraint) → Breaches tbox NotLocal c → Breaches tbox AnchorSpecialised c → ⊥
  not_both (Functional p) b d = b
  not_both (Identify b paths) e s = subst (AllSpecialised tbox) e s
  not_both (Deny atoms) b d = b

  -- a constraint breaches in one way
  one_kind : (c : Constraint) (j k : RestrictionKind) → Breaches tbox j c → Breaches tbox k c → j ≡ k
  one_kind c FunctSpecialised k a b = absurd a
  one_kind c NotLocal FunctSpecialised a b = absurd b
  one_kind c NotLocal NotLocal a b = refl
  one_kind c NotLocal AnchorSpecialised a b = absurd (not_both c a b)
  one_kind c AnchorSpecialised FunctSpecialised a b = absurd b
  one_kind c AnchorSpecialised NotLocal a b = absurd (not_both c b a)
  one_kind c AnchorSpecialised AnchorSpecialised a b = refl

  -- it breaches in some way or in none
  no_kind : (c : Constraint) → (Breaches tbox NotLocal c → ⊥) → (Breaches tbox AnchorSpecialised c → ⊥) → (k : RestrictionKind) → Breaches tbox k c → ⊥
  no_kind c n a FunctSpecialised b = b
  no_kind c n a NotLocal b = n b
  no_kind c n a AnchorSpecialised b = a b

  all_decided : (ps : List Prop) → Decided (AllSpecialised tbox ps)
  all_decided [] = inr (λ a. a)
  all_decided (p ∷ ps) = dec_each (specialised_decided tbox) (p ∷ ps)

  local_decided : (ps : List Prop) → Decided (ps ≡ [])
  local_decided [] = inl refl
  local_decided (p ∷ ps) = inr (λ e. cc)

  breach_decided : (c : Constraint) → Decided ((k : RestrictionKind) × Breaches tbox k c)
  breach_decided (Functional p) = inr (λ w. no_kind (Functional p) (λ b. b) (λ b. b) w.0 w.1)
  breach_decided (Identify b paths) = go (local_decided (anchors paths)) (all_decided (anchors paths))
    where
      go : Decided (anchors paths ≡ []) → Decided (AllSpecialised tbox (anchors paths)) → Decided ((k : RestrictionKind) × Breaches tbox k (Identify b paths))
      go (inl e) d = inl (NotLocal, e)
      go (inr n) (inl a) = inl (AnchorSpecialised, a)
      go (inr n) (inr m) = inr (λ w. no_kind (Identify b paths) n m w.0 w.1)
  breach_decided (Deny atoms) = inr (λ w. no_kind (Deny atoms) (λ b. b) (λ b. b) w.0 w.1)

module _ (lines : List (Lined Inclusion)) (functional : List (Lined Prop)) (constraints : List (Lined Constraint)) where
  abbrev IsFunct : Prop → Type 0
  IsFunct = IsFunctional functional constraints

  axiom_decided : (l : Lined Inclusion) → Decided (SpecialisesFunctional (items lines) IsFunct l)
  axiom_decided l = dec_as (
    λ w. (w.0, ((functional_is functional constraints w.0).0 w.1.0, w.1.1)),
    λ s. (s.0, ((functional_is functional constraints s.0).1 s.1.0, s.1.1)),
  ) (dec_some (λ p. specialises_decided (items lines) l.item p) (items functional ++ functionals constraints))

  -- a breach by an axiom is one, and by a constraint
  one_axiom : (a b : RestrictionBreach) → IsAxiomBreach lines IsFunct a → IsAxiomBreach lines IsFunct b → a ≡ b
  one_axiom a b v w =
      v.is
      ∙ (ap (λ l. record { doc = Ontology; line = l.line; kind = FunctSpecialised }) (first_one (SpecialisesFunctional (items lines) IsFunct) lines v.line w.line v.first w.first)
      ∙ sym w.is)

  one_constraint : (a b : RestrictionBreach) → IsConstraintBreach (items lines) constraints a → IsConstraintBreach (items lines) constraints b → a ≡ b
  one_constraint a b v w =
      let e : v.line ≡ w.line = first_one (BreachesSome (items lines)) constraints v.line w.line v.first w.first in
      let k : a.kind ≡ b.kind = one_kind (items lines) w.line.item a.kind b.kind (subst (λ l. Breaches (items lines) a.kind l.item) e v.breaches) w.breaches in
      v.is
      ∙ (ap (λ l. record { doc = Constraints; line = l.line; kind = a.kind }) e ∙ (ap (λ m. record { doc = Constraints; line = w.line.line; kind = m }) k ∙ sym w.is))

  axiom_not : (b : RestrictionBreach) → NoAxiom lines IsFunct → IsAxiomBreach lines IsFunct b → ⊥
  axiom_not b n w = let f = first_is (SpecialisesFunctional (items lines) IsFunct) lines w.line w.first in n w.line f.0 f.1

  constraint_not : (b : RestrictionBreach) → NoneOf (BreachesSome (items lines)) constraints → IsConstraintBreach (items lines) constraints b → ⊥
  constraint_not b n w = let f = first_is (BreachesSome (items lines)) constraints w.line w.first in n w.line f.0 f.1

  one_some : (a b : RestrictionBreach) → IsRestrictionBreach lines functional constraints (Some a) → IsRestrictionBreach lines functional constraints (Some b) → a ≡ b
  one_some a b (inl v) (inl w) = one_axiom a b v w
  one_some a b (inl v) (inr w) = absurd (axiom_not a w.0 v)
  one_some a b (inr v) (inl w) = absurd (axiom_not b v.0 w)
  one_some a b (inr v) (inr w) = one_constraint a b v.1 w.1

  some_not : (b : RestrictionBreach) → IsRestrictionBreach lines functional constraints None → IsRestrictionBreach lines functional constraints (Some b) → ⊥
  some_not b n (inl w) = axiom_not b n.0 w
  some_not b n (inr w) = constraint_not b n.1 w.1

  one_answer : (a b : Option RestrictionBreach) → IsRestrictionBreach lines functional constraints a → IsRestrictionBreach lines functional constraints b → a ≡ b
  one_answer None None v w = refl
  one_answer None (Some b) v w = absurd (some_not b v w)
  one_answer (Some a) None v w = absurd (some_not a w v)
  one_answer (Some a) (Some b) v w = ap Some (one_some a b v w)

  by_constraint : NoAxiom lines IsFunct → ((l : Lined Constraint) × IsFirst (BreachesSome (items lines)) constraints l) ⊎ NoneOf (BreachesSome (items lines)) constraints
      → HasOneAnswer (IsRestrictionBreach lines functional constraints)
  by_constraint n (inl w) =
      let s = (first_is (BreachesSome (items lines)) constraints w.0 w.1).1 in record {
        answer = Some (record { doc = Constraints; line = w.0.line; kind = s.0 });
        is = inr (n, record { line = w.0; first = w.1; breaches = s.1; is = refl });
        one = one_answer;
      }
  by_constraint n (inr m) = record { answer = None; is = (n, m); one = one_answer }

  by_axiom : ((l : Lined Inclusion) × IsFirst (SpecialisesFunctional (items lines) IsFunct) lines l) ⊎ NoneOf (SpecialisesFunctional (items lines) IsFunct) lines
      → HasOneAnswer (IsRestrictionBreach lines functional constraints)
  by_axiom (inl w) = record {
    answer = Some (record { doc = Ontology; line = w.0.line; kind = FunctSpecialised });
    is = inl (record { line = w.0; first = w.1; is = refl });
    one = one_answer;
  }
  by_axiom (inr n) = by_constraint n (first_or_none (BreachesSome (items lines)) (λ l. breach_decided (items lines) l.item) constraints)

  -- words of the restriction breach have one answer
  pub one_breach : HasOneAnswer (IsRestrictionBreach lines functional constraints)
  one_breach = by_axiom (first_or_none (SpecialisesFunctional (items lines) IsFunct) axiom_decided lines)
