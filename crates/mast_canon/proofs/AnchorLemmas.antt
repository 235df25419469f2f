-- Anchors: an identification of a specification has a path along one unspecialised property.
use Rattle.std.proofs.Common.{◌≡◌, ◌⊎◌, inl, inr, List, [], ◌∷◌, Option, Some, None, Contains, refl, sym, ap, ◌∙◌, subst}
use Rattle.mast_cq.specs.Meanings.{Fact}
use Rattle.mast_cq.specs.Queries.{In}
use Rattle.mast_tbox.specs.declared.axiom.Inclusion.{Inclusion}
use Rattle.mast_tbox.specs.declared.axiom.Lined.{Lined}
use Rattle.mast_tbox.specs.declared.constraint.Constraint.{Constraint}
use Rattle.mast_tbox.specs.declared.constraint.Constraint.TheVariants.{Identify}
use Rattle.mast_tbox.specs.declared.constraint.Step.{Step}
use Rattle.mast_tbox.specs.declared.constraint.Step.TheVariants.{Role as SRole, Test, Attr as SAttr}
use Rattle.mast_tbox.specs.declared.expression.Basic.{Basic}
use Rattle.mast_tbox.specs.declared.expression.Prop.{Prop}
use Rattle.mast_tbox.specs.declared.expression.Prop.TheVariants.{Role as PRole, Attr as PAttr}
use Rattle.mast_tbox.specs.declared.restriction.RestrictionKind.TheVariants.{NotLocal, AnchorSpecialised}
use Rattle.mast_tbox.specs.Lists.{items}
use Rattle.mast_tbox.specs.Restrictions.{IsSpecialised, along, single, with_first, anchors, AllSpecialised, Breaches, BreachesSome, NoneOf}
use Rattle.mast_tbox.proofs.MemberLemmas.{front, later, none, first_or, map_out}
use Rattle.mast_tbox.proofs.OrderLemmas.{specialised_decided}
use Rattle.mast_canon.specs.Memberships.{pair_fact, LeadsTo}

-- the path goes along the one property
pub record IsAlong (paths : List (List Step)) (p : Prop) : Type 0 where
  pub path : List Step
  pub among : In path paths
  pub is : along path ≡ p ∷ []

single_is : (ps : List Prop) (p : Prop) → single ps ≡ Some p → ps ≡ p ∷ []
single_is [] p e = cc
single_is (q ∷ []) p e = let w : q ≡ p = cc in ap (λ z. z ∷ []) w
single_is (q ∷ r ∷ more) p e = cc

anchor_along : (paths : List (List Step)) (p : Prop) → Contains (anchors paths) p → IsAlong paths p
anchor_along [] p c = absurd (none p c)
anchor_along (path ∷ paths) p c = at (single (along path)) refl c (anchor_along paths p)
  where
    rest : IsAlong paths p → IsAlong (path ∷ paths) p
    rest w = record { path = w.path; among = inr w.among; is = w.is }

    at : (o : Option Prop) → single (along path) ≡ o → Contains (with_first o (anchors paths)) p → (Contains (anchors paths) p → IsAlong paths p) → IsAlong (path ∷ paths) p
    at None e d again = rest (again d)
    at (Some q) e d again = elim (first_or q (anchors paths) p d) [
      | inl f ↦ record { path = path; among = inl refl; is = single_is (along path) p (e ∙ ap Some (sym f)) }
      | inr g ↦ rest (again g)
    ]

-- an element of the list is unspecialised
pub record SomeUnspecialised (tbox : List Inclusion) (ps : List Prop) : Type 0 where
  pub prop : Prop
  pub stands : Contains ps prop
  pub is : IsSpecialised tbox prop → ⊥

search_unspecialised : (tbox : List Inclusion) (ps : List Prop) → SomeUnspecialised tbox ps ⊎ ((p : Prop) → Contains ps p → IsSpecialised tbox p)
search_unspecialised tbox [] = inr (λ p c. absurd (none p c))
search_unspecialised tbox (q ∷ ps) = at (specialised_decided tbox q) (search_unspecialised tbox ps)
  where
    at : IsSpecialised tbox q ⊎ (IsSpecialised tbox q → ⊥) → SomeUnspecialised tbox ps ⊎ ((p : Prop) → Contains ps p → IsSpecialised tbox p)
        → SomeUnspecialised tbox (q ∷ ps) ⊎ ((p : Prop) → Contains (q ∷ ps) p → IsSpecialised tbox p)
    at (inr n) w = inl (record { prop = q; stands = front q ps; is = n })
    at (inl s) (inl w) = inl (record { prop = w.prop; stands = later w.prop q ps w.stands; is = w.is })
    at (inl s) (inr w) = inr (λ p c. elim (first_or q ps p c) [ inl e ↦ subst (IsSpecialised tbox) (sym e) s | inr d ↦ w p d ])

-- an identification that breaches nothing has an anchor: a path along one unspecialised property
pub record HasAnchor (tbox : List Inclusion) (paths : List (List Step)) : Type 0 where
  pub prop : Prop
  pub unspecialised : IsSpecialised tbox prop → ⊥
  pub path : IsAlong paths prop

anchor_of : (tbox : List Inclusion) (paths : List (List Step)) (ps : List Prop) → anchors paths ≡ ps → (anchors paths ≡ [] → ⊥) → (AllSpecialised tbox (anchors paths) → ⊥) → HasAnchor tbox paths
anchor_of tbox paths [] e local free = absurd (local e)
anchor_of tbox paths (q ∷ ps) e local free = elim (search_unspecialised tbox (q ∷ ps)) [
  | inl w ↦ record { prop = w.prop; unspecialised = w.is; path = anchor_along paths w.prop (subst (λ z. Contains z w.prop) (sym e) w.stands) }
  | inr all ↦ absurd (free (subst (AllSpecialised tbox) (sym e) all))
]

-- an identification without a restriction breach has a path that no inclusion specialises
pub has_anchor : (tbox : List Inclusion) (constraints : List (Lined Constraint)) → NoneOf (BreachesSome tbox) constraints → (b : Basic) (paths : List (List Step))
    → Contains (items constraints) (Identify b paths) → HasAnchor tbox paths
has_anchor tbox constraints none_breach b paths c =
    let m = map_out (λ z. z.item) constraints (Identify b paths) c in
    anchor_of tbox paths (anchors paths) refl
    (λ e. none_breach m.element m.stands (NotLocal, subst (λ z. Breaches tbox NotLocal z) m.is e))
    (λ e. none_breach m.element m.stands (AnchorSpecialised, subst (λ z. Breaches tbox AnchorSpecialised z) m.is e))

-- a path of tests stays where it is, and one along a property leads over a pair of it
module _ {X : Type 0} (T : Fact X → Type 0) where
  tests_stay : (path : List Step) (t u : X) → along path ≡ [] → LeadsTo T path t u → t ≡ u
  tests_stay [] t u e l = l
  tests_stay (SRole r ∷ path) t u e l = cc
  tests_stay (Test a ∷ path) t u e l = tests_stay path t u e l.1
  tests_stay (SAttr a ∷ path) t u e l = cc

  pub along_pair : (path : List Step) (p : Prop) (t u : X) → along path ≡ p ∷ [] → LeadsTo T path t u → T (pair_fact p t u)
  along_pair [] p t u e l = cc
  along_pair (SRole r ∷ path) p t u e l =
      let w : PRole r ≡ p = cc in
      let rest : along path ≡ [] = cc in
      subst (λ z. T (pair_fact z t u)) w (subst (λ z. T (pair_fact (PRole r) t z)) (tests_stay path l.0 u rest l.1.1) l.1.0)
  along_pair (Test a ∷ path) p t u e l = along_pair path p t u e l.1
  along_pair (SAttr a ∷ path) p t u e l =
      let w : PAttr a ≡ p = cc in
      let rest : along path ≡ [] = cc in
      subst (λ z. T (pair_fact z t u)) w (subst (λ z. T (pair_fact (PAttr a) t z)) (tests_stay path l.0 u rest l.1.1) l.1.0)
