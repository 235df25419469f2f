-- The patterns of negatives, ranges and functional properties: what facts break them.
use Rattle.std.proofs.Common.{◌≡◌, ℕ, zero, suc, List, [], ◌∷◌, refl, sym, ap, ◌∙◌, subst}
use Rattle.std.specs.List.{AllByRecursion}
use Rattle.mast_terms.specs.declared.name.Name.{Name}
use Rattle.mast_cq.specs.declared.atom.Arg.{Arg}
use Rattle.mast_cq.specs.declared.atom.Arg.TheVariants.{Var}
use Rattle.mast_cq.specs.declared.atom.Atom.{Atom}
use Rattle.mast_cq.specs.declared.atom.Atom.TheVariants.{Role}
use Rattle.mast_cq.specs.Meanings.{Fact, InRole, InAttr, Fits, MetBy}
use Rattle.mast_tbox.specs.declared.axiom.Negative.{Negative}
use Rattle.mast_tbox.specs.declared.axiom.Negative.TheVariants.{Concepts, Roles, Attrs, Irreflexive}
use Rattle.mast_tbox.specs.declared.expression.Prop.{Prop}
use Rattle.mast_tbox.specs.declared.expression.Prop.TheVariants.{Role as PRole, Attr as PAttr}
use Rattle.mast_tbox.specs.declared.expression.RoleExpr.TheVariants.{Direct, Inverse}
use Rattle.mast_canon.specs.Memberships.{pair_fact, IsIn}
use Rattle.mast_canon.specs.NoModels.{BreaksNegative}
use Rattle.mast_violate.specs.Patterns.{subject, filler, shared_pair, negative_pattern, value_pattern, shared_value, two_fillers}
use Rattle.mast_violate.proofs.MetLemmas.{pair_met, meets_pair, vars_met, meets_vars, at_met, meets_at}

module _ {X : Type 0} (constant : ℕ → X) (P : Fact X → Type 0) where
  -- the patterns' atoms are met under the assignment
  abbrev pub AreMet : (ℕ → X) → List Atom → Type 0
  AreMet s atoms = AllByRecursion (MetBy constant P s) atoms

  -- the assignment of three terms
  abbrev pub three : X → X → X → ℕ → X
  three t u w zero = t
  three t u w (suc zero) = u
  three t u w (suc (suc n)) = w

  -- and of what has fillers by the property, and two fillers
  abbrev pub to_ends : Prop → X → X → X → ℕ → X
  to_ends (PRole (Direct p)) t u w = three t u w
  to_ends (PRole (Inverse p)) t u w = three u t w
  to_ends (PAttr v) t u w = three t u w

  pub subject_fits : (p : Prop) (t u w : X) → Fits constant (to_ends p t u w) (subject p) t
  subject_fits (PRole (Direct p)) t u w = refl
  subject_fits (PRole (Inverse p)) t u w = refl
  subject_fits (PAttr v) t u w = refl

  pub filler_fits : (p : Prop) (t u w : X) → Fits constant (to_ends p t u w) (filler p) u
  filler_fits (PRole (Direct p)) t u w = refl
  filler_fits (PRole (Inverse p)) t u w = refl
  filler_fits (PAttr v) t u w = refl

  pub third_fits : (p : Prop) (t u w : X) → Fits constant (to_ends p t u w) (Var 2) w
  third_fits (PRole (Direct p)) t u w = refl
  third_fits (PRole (Inverse p)) t u w = refl
  third_fits (PAttr v) t u w = refl

  pub one_subject : (p : Prop) (s : ℕ → X) (t u : X) → Fits constant s (subject p) t → Fits constant s (subject p) u → t ≡ u
  one_subject (PRole (Direct p)) s t u f g = f ∙ sym g
  one_subject (PRole (Inverse p)) s t u f g = f ∙ sym g
  one_subject (PAttr v) s t u f g = f ∙ sym g

  pub one_filler : (p : Prop) (s : ℕ → X) (t u : X) → Fits constant s (filler p) t → Fits constant s (filler p) u → t ≡ u
  one_filler (PRole (Direct p)) s t u f g = f ∙ sym g
  one_filler (PRole (Inverse p)) s t u f g = f ∙ sym g
  one_filler (PAttr v) s t u f g = f ∙ sym g

  -- a pair of both properties
  abbrev SharePair : Prop → Prop → Type 0
  SharePair p q = (t : X) × ((u : X) × (P (pair_fact p t u) × P (pair_fact q t u)))

  shared_met : (p q : Prop) (s : ℕ → X) → AreMet s (shared_pair p q) → SharePair p q
  shared_met p q s m =
      let v = pair_met constant P s p (subject p) (filler p) m.0 in
      let w = pair_met constant P s q (subject p) (filler p) m.1.0 in (
        v.one,
        (
          v.other,
          (
            v.holds,
            subst (λ z. P (pair_fact q z v.other)) (one_subject p s w.one v.one w.one_fits v.one_fits)
                (subst (λ z. P (pair_fact q w.one z)) (one_filler p s w.other v.other w.other_fits v.other_fits) w.holds),
          ),
        ),
      )

  meets_shared : (p q : Prop) → SharePair p q → (s : ℕ → X) × AreMet s (shared_pair p q)
  meets_shared p q (t, (u, (h, k))) =
      let s = to_ends p t u u in (
        s,
        (
          meets_pair constant P s p (subject p) (filler p) t u (subject_fits p t u u) (filler_fits p t u u) h,
          (meets_pair constant P s q (subject p) (filler p) t u (subject_fits p t u u) (filler_fits p t u u) k, tt),
        ),
      )

  -- the pattern of a negative is met where the negative is broken
  pub negative_met : (n : Negative) (s : ℕ → X) → AreMet s (negative_pattern n) → BreaksNegative P n
  negative_met (Concepts left right) s m = (s 0, (at_met constant P s left 0 m.0, at_met constant P s right 0 m.1.0))
  negative_met (Roles left right) s m = shared_met (PRole left) (PRole right) s m
  negative_met (Attrs left right) s m = shared_met (PAttr left) (PAttr right) s m
  negative_met (Irreflexive role) s m = (s 0, vars_met constant P s (PRole (Direct role)) 0 0 m.0)

  -- and there alone
  pub meets_negative : (n : Negative) → BreaksNegative P n → (s : ℕ → X) × AreMet s (negative_pattern n)
  meets_negative (Concepts left right) (t, (h, k)) = let s = λ (n : ℕ). t in (s, (meets_at constant P s left 0 h, (meets_at constant P s right 0 k, tt)))
  meets_negative (Roles left right) h = meets_shared (PRole left) (PRole right) h
  meets_negative (Attrs left right) h = meets_shared (PAttr left) (PAttr right) h
  meets_negative (Irreflexive role) (t, h) = let s = λ (n : ℕ). t in (s, (meets_vars constant P s (PRole (Direct role)) 0 0 h, tt))

  -- a value of an attribute
  pub value_met : (u : Name) (s : ℕ → X) → AreMet s (value_pattern u) → P (InAttr u (s 0) (s 1))
  value_met u s m = vars_met constant P s (PAttr u) 0 1 m.0

  pub meets_value : (u : Name) (s : ℕ → X) → P (InAttr u (s 0) (s 1)) → AreMet s (value_pattern u)
  meets_value u s h = (meets_vars constant P s (PAttr u) 0 1 h, tt)

  -- a value of two attributes
  pub shared_value_met : (u v : Name) (s : ℕ → X) → AreMet s (shared_value u v) → P (InAttr u (s 0) (s 1)) × P (InAttr v (s 2) (s 1))
  shared_value_met u v s m = (vars_met constant P s (PAttr u) 0 1 m.0, vars_met constant P s (PAttr v) 2 1 m.1.0)

  pub meets_shared_value : (u v : Name) (s : ℕ → X) → P (InAttr u (s 0) (s 1)) → P (InAttr v (s 2) (s 1)) → AreMet s (shared_value u v)
  meets_shared_value u v s h k = (meets_vars constant P s (PAttr u) 0 1 h, (meets_vars constant P s (PAttr v) 2 1 k, tt))

  -- two fillers of one
  pub fillers_met : (p : Prop) (s : ℕ → X) (t u w : X) → Fits constant s (subject p) t → Fits constant s (filler p) u → Fits constant s (Var 2) w
      → AreMet s (two_fillers p) → P (pair_fact p t u) × P (pair_fact p t w)
  fillers_met p s t u w f g k m =
      let a = pair_met constant P s p (subject p) (filler p) m.0 in
      let b = pair_met constant P s p (subject p) (Var 2) m.1.0 in (
        subst (λ z. P (pair_fact p z u)) (one_subject p s a.one t a.one_fits f)
            (subst (λ z. P (pair_fact p a.one z)) (one_filler p s a.other u a.other_fits g) a.holds),
        subst (λ z. P (pair_fact p z w)) (one_subject p s b.one t b.one_fits f)
            (subst (λ z. P (pair_fact p b.one z)) (b.other_fits ∙ sym k) b.holds),
      )

  pub meets_fillers : (p : Prop) (t u w : X) → P (pair_fact p t u) → P (pair_fact p t w) → AreMet (to_ends p t u w) (two_fillers p)
  meets_fillers p t u w h k =
      let s = to_ends p t u w in (
        meets_pair constant P s p (subject p) (filler p) t u (subject_fits p t u w) (filler_fits p t u w) h,
        (meets_pair constant P s p (subject p) (Var 2) t w (subject_fits p t u w) (third_fits p t u w) k, tt),
      )
