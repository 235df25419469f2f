-- The steps by inclusions on an atom give exactly the atoms of the list.
use Rattle.std.proofs.Common.{◌≡◌, ℕ, inl, inr, ◌↔◌, List, Contains, refl, sym, ap, subst, ◌∙◌}
use Rattle.std.proofs.lemmas.List.Elements.{Contains-append_left, Contains-append_right, Contains-append_cases}
use Rattle.mast_terms.specs.declared.name.Name.{Name}
use Rattle.mast_cq.specs.declared.atom.Arg.{Arg}
use Rattle.mast_cq.specs.declared.atom.Arg.TheVariants.{Blank, Var, Constant}
use Rattle.mast_cq.specs.declared.atom.Atom.{Atom}
use Rattle.mast_cq.specs.declared.atom.Atom.TheVariants.{Class, Role, Attr}
use Rattle.mast_tbox.specs.declared.expression.RoleExpr.{RoleExpr}
use Rattle.mast_tbox.specs.declared.expression.RoleExpr.TheVariants.{Direct, Inverse}
use Rattle.mast_tbox.specs.declared.expression.Basic.{Basic}
use Rattle.mast_tbox.specs.declared.expression.Basic.TheVariants.{Class as BClass, Some as BSome, Subjects}
use Rattle.mast_tbox.specs.declared.expression.Prop.{Prop}
use Rattle.mast_tbox.specs.declared.expression.Prop.TheVariants.{Role as PRole, Attr as PAttr}
use Rattle.mast_tbox.specs.declared.axiom.Inclusion.{Inclusion}
use Rattle.mast_tbox.specs.Expressions.{inverse_role, subjects, pair, at}
use Rattle.mast_tbox.specs.Inclusions.{Adds, States, Leads, IsDirectlyBelow, by_class, by_filler, directly_below}
use Rattle.mast_tbox.specs.inside.StepLists.{leading_to}
use Rattle.mast_tbox.specs.Closure.{AtomStep, into_class, adds, widens}
use Rattle.mast_tbox.specs.inside.StepLists.{if_blank, members, narrower, steps_of}
use Rattle.mast_tbox.proofs.MemberLemmas.{none, map_in, map_out}
use Rattle.mast_tbox.proofs.EqualityLemmas.{inverse_twice}
use Rattle.mast_tbox.proofs.BelowLemmas.{leading_is, directly_is}

-- a pair of the inverse is a pair with its places changed
pair_inverse : (r : RoleExpr) (x y : Arg) → pair (PRole (inverse_role r)) x y ≡ pair (PRole r) y x
pair_inverse (Direct p) x y = refl
pair_inverse (Inverse p) x y = refl

-- the subjects of a property are the firsts of its pairs
pub at_subjects : (p : Prop) (x : Arg) → at (subjects p) x ≡ pair p x Blank
at_subjects (PRole r) x = refl
at_subjects (PAttr u) x = refl

module _ (tbox : List Inclusion) where
  -- where an inclusion leads from one property to another, a pair of the second becomes one of the first
  pub leads_step : (p q : Prop) (x y : Arg) → Leads tbox p q → AtomStep tbox (pair q x y) (pair p x y)
  leads_step p q x y (inl s) = widens p q x y s refl refl
  leads_step (PRole r) (PRole t) x y (inr s) = widens (PRole (inverse_role r)) (PRole (inverse_role t)) y x s (sym (pair_inverse t y x)) (sym (pair_inverse r y x))
  leads_step (PRole r) (PAttr v) x y (inr s) = absurd s
  leads_step (PAttr u) (PRole t) x y (inr s) = absurd s
  leads_step (PAttr u) (PAttr v) x y (inr s) = widens (PAttr u) (PAttr v) x y s refl refl

  -- where a basic concept is directly below another, a member of the second becomes one of the first
  pub below_step : (c b : Basic) (x : Arg) → IsDirectlyBelow tbox c b → AtomStep tbox (at b x) (at c x)
  below_step c b x (IsDirectlyBelow.by_class a s e) = into_class c a x s (ap (λ w. at w x) e) refl
  below_step c b x (IsDirectlyBelow.by_filler p k s e) = adds c p k x s (ap (λ w. at w x) e ∙ at_subjects p x) refl
  below_step c b x (IsDirectlyBelow.by_property p q l f e) =
      subst (λ w. AtomStep tbox w (at c x)) (sym (ap (λ w. at w x) e ∙ at_subjects q x))
      (subst (AtomStep tbox (pair q x Blank)) (sym (ap (λ w. at w x) f ∙ at_subjects p x)) (leads_step p q x Blank l))

  members_step : (b : Basic) (x : Arg) (h : Atom) → Contains (members tbox b x) h → AtomStep tbox (at b x) h
  members_step b x h c =
      let w = map_out (λ d. at d x) (directly_below tbox b) h c in
      subst (AtomStep tbox (at b x)) (sym w.is) (below_step w.element b x ((directly_is tbox b w.element).0 w.stands))

  narrower_step : (q : Prop) (x y : Arg) (h : Atom) → Contains (narrower tbox q x y) h → AtomStep tbox (pair q x y) h
  narrower_step q x y h c =
      let w = map_out (λ p. pair p x y) (leading_to tbox q) h c in
      subst (AtomStep tbox (pair q x y)) (sym w.is) (leads_step w.element q x y ((leading_is tbox q w.element).0 w.stands))

  -- where the other argument is `_`
  blank_step : (b : Basic) (x : Arg) (g : Arg → Atom) (y : Arg) (h : Atom) → g Blank ≡ at b x → Contains (if_blank y (members tbox b x)) h → AtomStep tbox (g y) h
  blank_step b x g Blank h e c = subst (λ w. AtomStep tbox w h) (sym e) (members_step b x h c)
  blank_step b x g (Var n) h e c = absurd (none h c)
  blank_step b x g (Constant n) h e c = absurd (none h c)

  -- each atom of the list is one that a step gives
  steps_from : (g h : Atom) → Contains (steps_of tbox g) h → AtomStep tbox g h
  steps_from (Class a x) h c = members_step (BClass a) x h c
  steps_from (Role p x y) h c = elim (Contains-append_cases (if_blank y (members tbox (BSome (Direct p)) x)) _ h c) [
    | inl i ↦ blank_step (BSome (Direct p)) x (λ w. Role p x w) y h refl i
    | inr d ↦ elim (Contains-append_cases (if_blank x (members tbox (BSome (Inverse p)) y)) _ h d) [
      | inl i ↦ blank_step (BSome (Inverse p)) y (λ w. Role p w y) x h refl i
      | inr i ↦ narrower_step (PRole (Direct p)) x y h i
    ]
  ]
  steps_from (Attr u x y) h c = elim (Contains-append_cases (if_blank y (members tbox (Subjects u) x)) _ h c) [
    | inl i ↦ blank_step (Subjects u) x (λ w. Attr u x w) y h refl i
    | inr i ↦ narrower_step (PAttr u) x y h i
  ]

  members_has : (c b : Basic) (x : Arg) → IsDirectlyBelow tbox c b → Contains (members tbox b x) (at c x)
  members_has c b x d = map_in (λ w. at w x) (directly_below tbox b) c ((directly_is tbox b c).1 d)

  narrower_has : (p q : Prop) (x y : Arg) → Leads tbox p q → Contains (narrower tbox q x y) (pair p x y)
  narrower_has p q x y l = map_in (λ w. pair w x y) (leading_to tbox q) p ((leading_is tbox q p).1 l)

  adds_has : (b : Basic) (p : Prop) (k : ℕ) (x : Arg) → Adds tbox b p k → Contains (steps_of tbox (pair p x Blank)) (at b x)
  adds_has b (PRole (Direct p)) k x a = Contains-append_left (members tbox (BSome (Direct p)) x) _ (at b x) (members_has b (BSome (Direct p)) x (by_filler (PRole (Direct p)) k a refl))
  adds_has b (PRole (Inverse p)) k x a =
      Contains-append_right (if_blank x (members tbox (BSome (Direct p)) Blank)) _ (at b x)
      (Contains-append_left (members tbox (BSome (Inverse p)) x) _ (at b x) (members_has b (BSome (Inverse p)) x (by_filler (PRole (Inverse p)) k a refl)))
  adds_has b (PAttr u) k x a = Contains-append_left (members tbox (Subjects u) x) _ (at b x) (members_has b (Subjects u) x (by_filler (PAttr u) k a refl))

  role_has : (n : Name) (p : Prop) (x y : Arg) → Leads tbox p (PRole (Direct n)) → Contains (steps_of tbox (Role n x y)) (pair p x y)
  role_has n p x y l =
      Contains-append_right (if_blank y (members tbox (BSome (Direct n)) x)) _ (pair p x y)
      (Contains-append_right (if_blank x (members tbox (BSome (Inverse n)) y)) _ (pair p x y) (narrower_has p (PRole (Direct n)) x y l))

  widens_has : (p q : Prop) (x y : Arg) → States tbox p q → Contains (steps_of tbox (pair q x y)) (pair p x y)
  widens_has (PRole r) (PRole (Direct n)) x y s = role_has n (PRole r) x y (inl s)
  widens_has (PRole r) (PRole (Inverse n)) x y s =
      subst (Contains (steps_of tbox (Role n y x))) (pair_inverse r y x)
      (role_has n (PRole (inverse_role r)) y x (inr (subst (λ w. States tbox w (PRole (Inverse n))) (sym (inverse_twice (PRole r))) s)))
  widens_has (PRole r) (PAttr v) x y s = absurd s
  widens_has (PAttr u) (PRole t) x y s = absurd s
  widens_has (PAttr u) (PAttr v) x y s = Contains-append_right (if_blank y (members tbox (Subjects v) x)) _ (Attr u x y) (narrower_has (PAttr u) (PAttr v) x y (inl s))

  -- and each atom that a step gives is one of the list
  steps_has : (g h : Atom) → AtomStep tbox g h → Contains (steps_of tbox g) h
  steps_has g h (AtomStep.into_class b a x s eg eh) =
      subst (λ w. Contains (steps_of tbox w) h) (sym eg) (subst (Contains (members tbox (BClass a) x)) (sym eh) (members_has b (BClass a) x (by_class a s refl)))
  steps_has g h (AtomStep.adds b p k x s eg eh) =
      subst (λ w. Contains (steps_of tbox w) h) (sym eg) (subst (Contains (steps_of tbox (pair p x Blank))) (sym eh) (adds_has b p k x s))
  steps_has g h (AtomStep.widens p q x y s eg eh) =
      subst (λ w. Contains (steps_of tbox w) h) (sym eg) (subst (Contains (steps_of tbox (pair q x y))) (sym eh) (widens_has p q x y s))

  -- the list of an atom's steps has exactly the atoms that a step gives
  pub steps_are : (g h : Atom) → Contains (steps_of tbox g) h ↔ AtomStep tbox g h
  steps_are g h = (steps_from g h, steps_has g h)
