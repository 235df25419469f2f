-- The tests of equality hold exactly of equal expressions.
use borrow.Author.Tests.{eqb-true, eq-eqb}
use Rattle.std.proofs.Common.{◌≡◌, Bool, true, false, nat_eq, refl, sym, ap, ◌∙◌}
use Rattle.std.specs.Cmp.{IsEquivalence}
use Rattle.mast_terms.specs.declared.name.Name.{Name}
use Rattle.mast_tbox.specs.declared.expression.RoleExpr.{RoleExpr}
use Rattle.mast_tbox.specs.declared.expression.RoleExpr.TheVariants.{Direct, Inverse}
use Rattle.mast_tbox.specs.declared.expression.Basic.{Basic}
use Rattle.mast_tbox.specs.declared.expression.Basic.TheVariants.{Class as BClass, Some as BSome, Subjects}
use Rattle.mast_tbox.specs.declared.expression.Prop.{Prop}
use Rattle.mast_tbox.specs.declared.expression.Prop.TheVariants.{Role as PRole, Attr as PAttr}
use Rattle.mast_tbox.specs.Expressions.{same_role, same_prop, same_basic, inverse_role, inverse}

name_same : (a b : Name) → nat_eq a.0 b.0 ≡ true → a ≡ b
name_same a b e = ap (λ n. record { 0 = n }) (eqb-true a.0 b.0 e)

role_same : (r s : RoleExpr) → same_role r s ≡ true → r ≡ s
role_same (Direct p) (Direct q) e = ap Direct (name_same p q e)
role_same (Direct p) (Inverse q) e = cc
role_same (Inverse p) (Direct q) e = cc
role_same (Inverse p) (Inverse q) e = ap Inverse (name_same p q e)

-- two properties that the test finds the same are one
pub prop_same : (p q : Prop) → same_prop p q ≡ true → p ≡ q
prop_same (PRole r) (PRole s) e = ap PRole (role_same r s e)
prop_same (PRole r) (PAttr b) e = cc
prop_same (PAttr a) (PRole s) e = cc
prop_same (PAttr a) (PAttr b) e = ap PAttr (name_same a b e)

-- two basic concepts that the test finds the same are one
pub basic_same : (b c : Basic) → same_basic b c ≡ true → b ≡ c
basic_same (BClass a) (BClass b) e = ap BClass (name_same a b e)
basic_same (BClass a) (BSome s) e = cc
basic_same (BClass a) (Subjects b) e = cc
basic_same (BSome r) (BClass b) e = cc
basic_same (BSome r) (BSome s) e = ap BSome (role_same r s e)
basic_same (BSome r) (Subjects b) e = cc
basic_same (Subjects a) (BClass b) e = cc
basic_same (Subjects a) (BSome s) e = cc
basic_same (Subjects a) (Subjects b) e = ap Subjects (name_same a b e)

role_itself : (r : RoleExpr) → same_role r r ≡ true
role_itself (Direct p) = eq-eqb p.0 p.0 refl
role_itself (Inverse p) = eq-eqb p.0 p.0 refl

-- the test finds a property the same as itself
pub prop_itself : (p : Prop) → same_prop p p ≡ true
prop_itself (PRole r) = role_itself r
prop_itself (PAttr a) = eq-eqb a.0 a.0 refl

-- the test finds a basic concept the same as itself
pub basic_itself : (b : Basic) → same_basic b b ≡ true
basic_itself (BClass a) = eq-eqb a.0 a.0 refl
basic_itself (BSome r) = role_itself r
basic_itself (Subjects a) = eq-eqb a.0 a.0 refl

-- a test that holds exactly of equal ones is an equivalence
pub equivalence_by : {X : Type 0} (eq : X → X → Bool) → ((x y : X) → eq x y ≡ true → x ≡ y) → ((x : X) → eq x x ≡ true) → IsEquivalence eq
equivalence_by {X} eq same itself = record { refl = itself; symm = λ x y. both_ways x y (eq x y) (eq y x) refl refl; congr = λ x y z e. ap (λ w. eq w z) (same x y e) }
  where
    both_ways : (x y : X) (a b : Bool) → eq x y ≡ a → eq y x ≡ b → eq x y ≡ eq y x
    both_ways x y true b e f = let p = same x y e in ap (λ w. eq w y) p ∙ sym (ap (eq y) p)
    both_ways x y false true e f = let p = same y x f in ap (eq x) p ∙ sym (ap (λ w. eq w x) p)
    both_ways x y false false e f = e ∙ sym f

-- the test of properties is an equivalence
pub prop_equivalence : IsEquivalence same_prop
prop_equivalence = equivalence_by same_prop prop_same prop_itself

-- the inverse of the inverse
pub inverse_role_twice : (r : RoleExpr) → inverse_role (inverse_role r) ≡ r
inverse_role_twice (Direct p) = refl
inverse_role_twice (Inverse p) = refl

-- the inverse of the inverse of a property
pub inverse_twice : (p : Prop) → inverse (inverse p) ≡ p
inverse_twice (PRole r) = ap PRole (inverse_role_twice r)
inverse_twice (PAttr a) = refl
