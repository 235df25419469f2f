-- Atoms and the facts that they are: at(B, x), pairs of a property, and the two readings of a pair.
use Rattle.std.proofs.Common.{◌≡◌, ℕ, refl, sym, ap}
use Rattle.mast_terms.specs.declared.name.Name.{Name}
use Rattle.mast_cq.specs.declared.atom.Arg.{Arg}
use Rattle.mast_cq.specs.declared.atom.Arg.TheVariants.{Blank}
use Rattle.mast_cq.specs.declared.atom.Atom.{Atom}
use Rattle.mast_cq.specs.declared.atom.Atom.TheVariants.{Class, Role, Attr}
use Rattle.mast_cq.specs.Meanings.{Fact, InClass, InRole, InAttr, Fits, Match}
use Rattle.mast_cq.proofs.PropertyLemmas.{pair_in, pair_out}
use Rattle.mast_tbox.specs.declared.expression.Basic.{Basic}
use Rattle.mast_tbox.specs.declared.expression.Basic.TheVariants.{Class as BClass, Some as BSome, Subjects}
use Rattle.mast_tbox.specs.declared.expression.Prop.{Prop}
use Rattle.mast_tbox.specs.declared.expression.Prop.TheVariants.{Role as PRole, Attr as PAttr}
use Rattle.mast_tbox.specs.declared.expression.RoleExpr.{RoleExpr}
use Rattle.mast_tbox.specs.declared.expression.RoleExpr.TheVariants.{Direct, Inverse}
use Rattle.mast_tbox.specs.Expressions.{property, pair, at, inverse_role}
use Rattle.mast_canon.specs.Memberships.{pair_fact, shows}

module _ {X : Type 0} where
  -- a pair of the inverse role is a pair with its places changed
  pub pair_turned : (r : RoleExpr) (t u : X) → pair_fact (PRole (inverse_role r)) t u ≡ pair_fact (PRole r) u t
  pair_turned (Direct p) t u = refl
  pair_turned (Inverse p) t u = refl

  -- a pair of terms read as one of p and of q: they are one property, or one is the inverse role of the other and the places are changed
  pub data Readings (p q : Prop) (t u x y : X) : Type 0 where
    same : p ≡ q → t ≡ x → u ≡ y → Readings p q t u x y
    turned : (r : RoleExpr) → p ≡ PRole (inverse_role r) → q ≡ PRole r → t ≡ y → u ≡ x → Readings p q t u x y

  pub readings : (p q : Prop) (t u x y : X) → pair_fact p t u ≡ pair_fact q x y → Readings p q t u x y
  readings (PRole (Direct p)) (PRole (Direct q)) t u x y e =
      let w : p ≡ q = cc in let i : t ≡ x = cc in let j : u ≡ y = cc in same (ap (λ n. PRole (Direct n)) w) i j
  readings (PRole (Direct p)) (PRole (Inverse q)) t u x y e =
      let w : p ≡ q = cc in let i : t ≡ y = cc in let j : u ≡ x = cc in turned (Inverse q) (ap (λ n. PRole (Direct n)) w) refl i j
  readings (PRole (Direct p)) (PAttr v) t u x y e = absurd (cc e)
  readings (PRole (Inverse p)) (PRole (Direct q)) t u x y e =
      let w : p ≡ q = cc in let i : t ≡ y = cc in let j : u ≡ x = cc in turned (Direct q) (ap (λ n. PRole (Inverse n)) w) refl i j
  readings (PRole (Inverse p)) (PRole (Inverse q)) t u x y e =
      let w : p ≡ q = cc in let i : t ≡ x = cc in let j : u ≡ y = cc in same (ap (λ n. PRole (Inverse n)) w) i j
  readings (PRole (Inverse p)) (PAttr v) t u x y e = absurd (cc e)
  readings (PAttr v) (PRole (Direct q)) t u x y e = absurd (cc e)
  readings (PAttr v) (PRole (Inverse q)) t u x y e = absurd (cc e)
  readings (PAttr v) (PAttr w) t u x y e =
      let k : v ≡ w = cc in let i : t ≡ x = cc in let j : u ≡ y = cc in same (ap PAttr k) i j

  -- no pair is the membership of a class
  pub no_class : (p : Prop) (t u x : X) (a : Name) → pair_fact p t u ≡ InClass a x → ⊥
  no_class (PRole (Direct p)) t u x a e = cc
  no_class (PRole (Inverse p)) t u x a e = cc
  no_class (PAttr v) t u x a e = cc

module _ {X : Type 0} (constant : ℕ → X) (s : ℕ → X) where
  -- a term that fits x makes at(B, x) the fact that shows it in B
  pub at_in : (b : Basic) (x : Arg) (t u : X) → Fits constant s x t → Match constant s (at b x) (shows b t u)
  at_in (BClass a) x t u f = (refl, f)
  at_in (BSome r) x t u f = pair_in constant s (property (PRole r)) x Blank t u f tt
  at_in (Subjects v) x t u f = pair_in constant s (property (PAttr v)) x Blank t u f tt

  -- the fact shows a term that fits x in B
  pub record Shown (b : Basic) (x : Arg) (f : Fact X) : Type 0 where
    pub one : X
    pub other : X
    pub is : f ≡ shows b one other
    pub fits : Fits constant s x one

  -- and a fact that at(B, x) is shows such a term
  pub at_out : (b : Basic) (x : Arg) (f : Fact X) → Match constant s (at b x) f → Shown b x f
  at_out (BClass a) x (InClass b t) m = record { one = t; other = t; is = ap (λ n. InClass n t) (sym m.0); fits = m.1 }
  at_out (BClass a) x (InRole b t u) m = absurd m
  at_out (BClass a) x (InAttr b t u) m = absurd m
  at_out (BSome r) x f m = let w = pair_out constant s (property (PRole r)) x Blank f m in record { one = w.one; other = w.other; is = w.is; fits = w.one_fits }
  at_out (Subjects v) x f m = let w = pair_out constant s (property (PAttr v)) x Blank f m in record { one = w.one; other = w.other; is = w.is; fits = w.one_fits }

  -- the atom asks for members of the class, and its argument fits the term
  pub record ClassAtom (g : Atom) (a : Name) (t : X) : Type 0 where
    pub arg : Arg
    pub is : g ≡ Class a arg
    pub fits : Fits constant s arg t

  -- so does each atom that a membership of the class is
  pub class_of : (g : Atom) (a : Name) (t : X) → Match constant s g (InClass a t) → ClassAtom g a t
  class_of (Class b x) a t m = record { arg = x; is = ap (λ n. Class n x) m.0; fits = m.1 }
  class_of (Role b x y) a t m = absurd m
  class_of (Attr b x y) a t m = absurd m

  -- the atom asks for pairs of the property, and its arguments fit the two terms
  pub record PairAtom (g : Atom) (p : Prop) (t u : X) : Type 0 where
    pub from : Arg
    pub to : Arg
    pub is : g ≡ pair p from to
    pub from_fits : Fits constant s from t
    pub to_fits : Fits constant s to u

  -- so does each atom that a pair of the property is
  pub pair_of : (g : Atom) (p : Prop) (t u : X) → Match constant s g (pair_fact p t u) → PairAtom g p t u
  pair_of (Role b x y) (PRole (Direct a)) t u m = record { from = x; to = y; is = ap (λ n. Role n x y) m.0; from_fits = m.1; to_fits = m.2 }
  pair_of (Role b x y) (PRole (Inverse a)) t u m = record { from = y; to = x; is = ap (λ n. Role n x y) m.0; from_fits = m.2; to_fits = m.1 }
  pair_of (Attr b x y) (PAttr a) t u m = record { from = x; to = y; is = ap (λ n. Attr n x y) m.0; from_fits = m.1; to_fits = m.2 }
  pair_of (Class b x) (PRole (Direct a)) t u m = absurd m
  pair_of (Class b x) (PRole (Inverse a)) t u m = absurd m
  pair_of (Class b x) (PAttr a) t u m = absurd m
  pair_of (Role b x y) (PAttr a) t u m = absurd m
  pair_of (Attr b x y) (PRole (Direct a)) t u m = absurd m
  pair_of (Attr b x y) (PRole (Inverse a)) t u m = absurd m
