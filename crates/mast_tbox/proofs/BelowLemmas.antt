-- What the lists by right sides hold: the basic concepts directly below one, and the properties that lead to one.
use Rattle.std.proofs.Common.{◌≡◌, ℕ, ◌⊎◌, inl, inr, ◌↔◌, Bool, true, false, List, [], ◌∷◌, Contains, refl, sym, ap, subst, ◌∙◌, if◌then◌else◌}
use Rattle.std.proofs.lemmas.List.Elements.{Contains-append_left, Contains-append_right, Contains-append_cases}
use Rattle.mast_tbox.specs.declared.expression.RoleExpr.{RoleExpr}
use Rattle.mast_tbox.specs.declared.expression.Basic.{Basic}
use Rattle.mast_tbox.specs.declared.expression.Basic.TheVariants.{Class as BClass, Some as BSome, Subjects}
use Rattle.mast_tbox.specs.declared.expression.Prop.{Prop}
use Rattle.mast_tbox.specs.declared.expression.Prop.TheVariants.{Role as PRole, Attr as PAttr}
use Rattle.mast_tbox.specs.declared.axiom.Inclusion.{Inclusion}
use Rattle.mast_tbox.specs.declared.axiom.Inclusion.TheVariants.{Class as IClass, Exists, HasValue, Role as IRole, Attr as IAttr, Range}
use Rattle.mast_tbox.specs.Expressions.{inverse_role, inverse, subjects, same_basic, same_prop}
use Rattle.mast_tbox.specs.Inclusions.{Adds, States, Leads, IsDirectlyBelow, by_class, by_filler, by_property, concept_pairs, pairs, firsts, directly_below}
use Rattle.mast_tbox.specs.inside.StepLists.{prop_pairs, leading_to}
use Rattle.mast_tbox.proofs.MemberLemmas.{front, later, none, first_or, only_one}
use Rattle.mast_tbox.proofs.EqualityLemmas.{basic_same, basic_itself, prop_same, prop_itself, inverse_role_twice}
use Rattle.mast_tbox.proofs.OnceLemmas.{once_from, once_has}

module _ {X : Type 0} (eq : X → X → Bool) (same : (x y : X) → eq x y ≡ true → x ≡ y) (itself : (x : X) → eq x x ≡ true) where
  from_case : (x : X) (p : X × X) (ps : List (X × X)) (y : X) (b : Bool) → eq p.1 x ≡ b → (Contains (firsts eq x ps) y → Contains ps (y, x)) → Contains (if b then p.0 ∷ firsts eq x ps else firsts eq x ps) y
      → Contains (p ∷ ps) (y, x)
  from_case x p ps y true e ih c = elim (first_or p.0 (firsts eq x ps) y c) [
    | inl f ↦ subst (Contains (p ∷ ps)) (ap (λ w. (p.0, w)) (same p.1 x e) ∙ ap (λ w. (w, x)) (sym f)) (front p ps)
    | inr i ↦ later (y, x) p ps (ih i)
  ]
  from_case x p ps y false e ih c = later (y, x) p ps (ih c)

  -- the first ones of the pairs whose second is x
  pub firsts_from : (x : X) (ps : List (X × X)) (y : X) → Contains (firsts eq x ps) y → Contains ps (y, x)
  firsts_from x [] y c = absurd (none y c)
  firsts_from x (p ∷ ps) y c = from_case x p ps y (eq p.1 x) refl (firsts_from x ps y) c

  has_case : (x : X) (p : X × X) (os : List X) (y : X) (b : Bool) → eq p.1 x ≡ b → (((y, x) ≡ p) ⊎ Contains os y) → Contains (if b then p.0 ∷ os else os) y
  has_case x p os y true e (inl f) = subst (λ w. Contains (p.0 ∷ os) w) (sym (ap (λ w. w.0) f)) (front p.0 os)
  has_case x p os y true e (inr i) = later y p.0 os i
  has_case x p os y false e (inl f) = absurd (let g : true ≡ false = sym (itself x) ∙ (ap (λ w. eq w.1 x) f ∙ e) in cc)
  has_case x p os y false e (inr i) = i

  pub firsts_has : (x : X) (ps : List (X × X)) (y : X) → Contains ps (y, x) → Contains (firsts eq x ps) y
  firsts_has x [] y c = absurd (none (y, x) c)
  firsts_has x (p ∷ ps) y c = has_case x p (firsts eq x ps) y (eq p.1 x) refl (elim (first_or p ps (y, x) c) [ inl f ↦ inl f | inr i ↦ inr (firsts_has x ps y i) ])

-- the inclusion that a pair comes from
pub record PairOf {X : Type 0} (f : Inclusion → List (X × X)) (tbox : List Inclusion) (p : X × X) : Type 0 where
  pub inclusion : Inclusion
  pub stands : Contains tbox inclusion
  pub gives : Contains (f inclusion) p

module _ {X : Type 0} (f : Inclusion → List (X × X)) where
  pub pairs_from : (tbox : List Inclusion) (p : X × X) → Contains (pairs f tbox) p → PairOf f tbox p
  pairs_from [] p c = absurd (none p c)
  pairs_from (i ∷ is) p c = elim (Contains-append_cases (f i) (pairs f is) p c) [
    | inl a ↦ record { inclusion = i; stands = front i is; gives = a }
    | inr a ↦ let w = pairs_from is p a in record { inclusion = w.inclusion; stands = later w.inclusion i is w.stands; gives = w.gives }
  ]

  -- what one inclusion gives is among the pairs of all
  pub pairs_has : (tbox : List Inclusion) (i : Inclusion) (p : X × X) → Contains tbox i → Contains (f i) p → Contains (pairs f tbox) p
  pairs_has [] i p c g = absurd (none i c)
  pairs_has (j ∷ is) i p c g = elim (first_or j is i c) [
    | inl e ↦ Contains-append_left (f j) (pairs f is) p (subst (λ w. Contains (f w) p) e g)
    | inr a ↦ Contains-append_right (f j) (pairs f is) p (pairs_has is i p a g)
  ]

module _ (tbox : List Inclusion) where
  -- an inclusion of roles leads between them, and between their inverses
  pub leads_inverse : (r s : RoleExpr) → Contains tbox (IRole r s) → Leads tbox (PRole (inverse_role r)) (PRole (inverse_role s))
  leads_inverse r s c = inr (subst (λ w. Contains tbox (IRole w (inverse_role (inverse_role s)))) (sym (inverse_role_twice r)) (subst (λ w. Contains tbox (IRole r w)) (sym (inverse_role_twice s)) c))

  prop_pair_of : (i : Inclusion) (p q : Prop) → Contains tbox i → Contains (prop_pairs i) (p, q) → Leads tbox p q
  prop_pair_of (IClass b a) p q c g = absurd (none (p, q) g)
  prop_pair_of (Exists b r end k) p q c g = absurd (none (p, q) g)
  prop_pair_of (HasValue b u k) p q c g = absurd (none (p, q) g)
  prop_pair_of (IRole r s) p q c g = elim (first_or (PRole r, PRole s) ((PRole (inverse_role r), PRole (inverse_role s)) ∷ []) (p, q) g) [
    | inl e ↦ subst (λ w. Leads tbox w.0 w.1) (sym e) (inl c)
    | inr a ↦ subst (λ w. Leads tbox w.0 w.1) (sym (only_one (PRole (inverse_role r), PRole (inverse_role s)) (p, q) a)) (leads_inverse r s c)
  ]
  prop_pair_of (IAttr u v) p q c g = subst (λ w. Leads tbox w.0 w.1) (sym (only_one (PAttr u, PAttr v) (p, q) g)) (inl c)
  prop_pair_of (Range u kind) p q c g = absurd (none (p, q) g)

  -- the inclusion that leads from one property to another, among its pairs
  states_pair : (p q : Prop) → States tbox p q → PairOf prop_pairs tbox (p, q)
  states_pair (PRole r) (PRole s) c = record { inclusion = IRole r s; stands = c; gives = front (PRole r, PRole s) ((PRole (inverse_role r), PRole (inverse_role s)) ∷ []) }
  states_pair (PRole r) (PAttr v) c = absurd c
  states_pair (PAttr u) (PRole s) c = absurd c
  states_pair (PAttr u) (PAttr v) c = record { inclusion = IAttr u v; stands = c; gives = front (PAttr u, PAttr v) [] }

  inverse_pair : (p q : Prop) → States tbox (inverse p) (inverse q) → PairOf prop_pairs tbox (p, q)
  inverse_pair (PRole r) (PRole s) c = record {
    inclusion = IRole (inverse_role r) (inverse_role s);
    stands = c;
    gives = later (PRole r, PRole s) (PRole (inverse_role r), PRole (inverse_role s)) ((PRole (inverse_role (inverse_role r)), PRole (inverse_role (inverse_role s))) ∷ [])
        (subst (λ w. Contains ((PRole (inverse_role (inverse_role r)), PRole (inverse_role (inverse_role s))) ∷ []) w)
        (ap (λ w. (PRole w, PRole (inverse_role (inverse_role s)))) (inverse_role_twice r) ∙ ap (λ w. (PRole r, PRole w)) (inverse_role_twice s))
        (front (PRole (inverse_role (inverse_role r)), PRole (inverse_role (inverse_role s))) []));
  }
  inverse_pair (PRole r) (PAttr v) c = absurd c
  inverse_pair (PAttr u) (PRole s) c = absurd c
  inverse_pair (PAttr u) (PAttr v) c = record { inclusion = IAttr u v; stands = c; gives = front (PAttr u, PAttr v) [] }

  -- the inclusion that leads from one property to another, among its pairs
  pub leads_pair : (p q : Prop) → Leads tbox p q → PairOf prop_pairs tbox (p, q)
  leads_pair p q (inl s) = states_pair p q s
  leads_pair p q (inr s) = inverse_pair p q s

  -- the properties that lead to one are those of the list
  pub leading_is : (q p : Prop) → Contains (leading_to tbox q) p ↔ Leads tbox p q
  leading_is q p = (
    λ c. let w = pairs_from prop_pairs tbox (p, q) (firsts_from same_prop prop_same prop_itself q (pairs prop_pairs tbox) p (once_from same_prop prop_same prop_itself (firsts same_prop q (pairs prop_pairs tbox)) p c)) in
        prop_pair_of w.inclusion p q w.stands w.gives,
    λ l. let w = leads_pair p q l in
        once_has same_prop prop_same prop_itself (firsts same_prop q (pairs prop_pairs tbox)) p (firsts_has same_prop prop_same prop_itself q (pairs prop_pairs tbox) p (pairs_has prop_pairs tbox w.inclusion (p, q) w.stands w.gives)),
  )

  below_pair_of : (i : Inclusion) (c b : Basic) → Contains tbox i → Contains (concept_pairs i) (c, b) → IsDirectlyBelow tbox c b
  below_pair_of (IClass d a) c b s g = let e = only_one (d, BClass a) (c, b) g in
      by_class a (subst (λ w. Contains tbox (IClass w a)) (sym (ap (λ w. w.0) e)) s) (ap (λ w. w.1) e)
  below_pair_of (Exists d r end k) c b s g = let e = only_one (d, BSome r) (c, b) g in
      by_filler (PRole r) k (end, subst (λ w. Contains tbox (Exists w r end k)) (sym (ap (λ w. w.0) e)) s) (ap (λ w. w.1) e)
  below_pair_of (HasValue d u k) c b s g = let e = only_one (d, Subjects u) (c, b) g in
      by_filler (PAttr u) k (subst (λ w. Contains tbox (HasValue w u k)) (sym (ap (λ w. w.0) e)) s) (ap (λ w. w.1) e)
  below_pair_of (IRole r t) c b s g = elim (first_or (BSome r, BSome t) ((BSome (inverse_role r), BSome (inverse_role t)) ∷ []) (c, b) g) [
    | inl e ↦ by_property (PRole r) (PRole t) (inl s) (ap (λ w. w.0) e) (ap (λ w. w.1) e)
    | inr a ↦ let e = only_one (BSome (inverse_role r), BSome (inverse_role t)) (c, b) a in
        by_property (PRole (inverse_role r)) (PRole (inverse_role t)) (leads_inverse r t s) (ap (λ w. w.0) e) (ap (λ w. w.1) e)
  ]
  below_pair_of (IAttr u v) c b s g = let e = only_one (Subjects u, Subjects v) (c, b) g in
      by_property (PAttr u) (PAttr v) (inl s) (ap (λ w. w.0) e) (ap (λ w. w.1) e)
  below_pair_of (Range u kind) c b s g = absurd (none (c, b) g)

  adds_pair : (p : Prop) (k : ℕ) (c : Basic) → Adds tbox c p k → PairOf concept_pairs tbox (c, subjects p)
  adds_pair (PRole r) k c a = record { inclusion = Exists c r a.0 k; stands = a.1; gives = front (c, BSome r) [] }
  adds_pair (PAttr u) k c a = record { inclusion = HasValue c u k; stands = a; gives = front (c, Subjects u) [] }

  subject_pairs : (i : Inclusion) (p q : Prop) → Contains (prop_pairs i) (p, q) → Contains (concept_pairs i) (subjects p, subjects q)
  subject_pairs (IClass b a) p q g = absurd (none (p, q) g)
  subject_pairs (Exists b r end k) p q g = absurd (none (p, q) g)
  subject_pairs (HasValue b u k) p q g = absurd (none (p, q) g)
  subject_pairs (IRole r s) p q g = elim (first_or (PRole r, PRole s) ((PRole (inverse_role r), PRole (inverse_role s)) ∷ []) (p, q) g) [
    | inl e ↦ subst (λ w. Contains (concept_pairs (IRole r s)) (subjects w.0, subjects w.1)) (sym e) (front (BSome r, BSome s) ((BSome (inverse_role r), BSome (inverse_role s)) ∷ []))
    | inr a ↦ subst (λ w. Contains (concept_pairs (IRole r s)) (subjects w.0, subjects w.1)) (sym (only_one (PRole (inverse_role r), PRole (inverse_role s)) (p, q) a))
        (later (BSome (inverse_role r), BSome (inverse_role s)) (BSome r, BSome s) ((BSome (inverse_role r), BSome (inverse_role s)) ∷ []) (front (BSome (inverse_role r), BSome (inverse_role s)) []))
  ]
  subject_pairs (IAttr u v) p q g = subst (λ w. Contains (concept_pairs (IAttr u v)) (subjects w.0, subjects w.1)) (sym (only_one (PAttr u, PAttr v) (p, q) g)) (front (Subjects u, Subjects v) [])
  subject_pairs (Range u kind) p q g = absurd (none (p, q) g)

  -- the inclusion that puts a basic concept directly below another, among its pairs
  pub directly_pair : (c b : Basic) → IsDirectlyBelow tbox c b → PairOf concept_pairs tbox (c, b)
  directly_pair c b (IsDirectlyBelow.by_class a s e) = subst (λ w. PairOf concept_pairs tbox (c, w)) (sym e) (record { inclusion = IClass c a; stands = s; gives = front (c, BClass a) [] })
  directly_pair c b (IsDirectlyBelow.by_filler p k a e) = subst (λ w. PairOf concept_pairs tbox (c, w)) (sym e) (adds_pair p k c a)
  directly_pair c b (IsDirectlyBelow.by_property p q l f e) =
      let w = leads_pair p q l in
      subst (λ v. PairOf concept_pairs tbox (v, b)) (sym f) (subst (λ v. PairOf concept_pairs tbox (subjects p, v)) (sym e)
      (record { inclusion = w.inclusion; stands = w.stands; gives = subject_pairs w.inclusion p q w.gives }))

  -- the basic concepts directly below one are those of the list
  pub directly_is : (b c : Basic) → Contains (directly_below tbox b) c ↔ IsDirectlyBelow tbox c b
  directly_is b c = (
    λ i. let w = pairs_from concept_pairs tbox (c, b) (firsts_from same_basic basic_same basic_itself b (pairs concept_pairs tbox) c (once_from same_basic basic_same basic_itself (firsts same_basic b (pairs concept_pairs tbox)) c i)) in
        below_pair_of w.inclusion c b w.stands w.gives,
    λ d. let w = directly_pair c b d in
        once_has same_basic basic_same basic_itself (firsts same_basic b (pairs concept_pairs tbox)) c (firsts_has same_basic basic_same basic_itself b (pairs concept_pairs tbox) c (pairs_has concept_pairs tbox w.inclusion (c, b) w.stands w.gives)),
  )
