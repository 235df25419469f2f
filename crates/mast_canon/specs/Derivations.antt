-- Derivations: the facts that follow from given ones by inclusions. They are the canonical interpretation.
use Rattle.std.specs.Prelude.{◌≡◌, ℕ, List, Contains, Some}
use Rattle.mast_terms.specs.declared.name.Name.{Name}
use Rattle.mast_terms.specs.declared.term.Term.{Term}
use Rattle.mast_cq.specs.Meanings.{Fact, InClass}
use Rattle.mast_tbox.specs.declared.axiom.Inclusion.{Inclusion}
use Rattle.mast_tbox.specs.declared.axiom.Inclusion.TheVariants.{Class as IClass, Exists}
use Rattle.mast_tbox.specs.declared.expression.Basic.{Basic}
use Rattle.mast_tbox.specs.declared.expression.Prop.{Prop}
use Rattle.mast_tbox.specs.declared.expression.RoleExpr.{RoleExpr}
use Rattle.mast_tbox.specs.Inclusions.{Adds, States}
use Rattle.mast_canon.specs.Elements.{Element, Named, Successor, map_fact}
use Rattle.mast_canon.specs.Memberships.{pair_fact, shows}

-- a step: the second fact follows from the first by one inclusion. A member of B is in A by B ⊑ A. By an existential inclusion of number k it
-- has its successor as filler, which is in the class of a qualified one. A pair of the narrower property is one of the wider
pub data FactStep (tbox : List Inclusion) (f g : Fact Element) : Type 0 where
  into_class : (b : Basic) (a : Name) (t u : Element) → Contains tbox (IClass b a) → f ≡ shows b t u → g ≡ InClass a t → FactStep tbox f g
  adds : (b : Basic) (p : Prop) (k : ℕ) (t u : Element) → Adds tbox b p k → f ≡ shows b t u → g ≡ pair_fact p t (Successor t k) → FactStep tbox f g
  ends : (b : Basic) (r : RoleExpr) (a : Name) (k : ℕ) (t u : Element) → Contains tbox (Exists b r (Some a) k)
      → f ≡ shows b t u → g ≡ InClass a (Successor t k) → FactStep tbox f g
  widens : (p q : Prop) (t u : Element) → States tbox p q → f ≡ pair_fact p t u → g ≡ pair_fact q t u → FactStep tbox f g

-- the fact is one of F, which are over named terms
pub record IsSource (F : Fact Term → Type 0) (f : Fact Element) : Type 0 where
  pub fact : Fact Term
  pub given : F fact
  pub is : f ≡ map_fact Named fact

-- the fact holds: a list of steps, which may be empty, leads to it from a fact of F
pub data Holds (tbox : List Inclusion) (F : Fact Term → Type 0) : Fact Element → Type 0 where
  source : {f : Fact Element} → IsSource F f → Holds tbox F f
  follows : {f g : Fact Element} → Holds tbox F f → FactStep tbox f g → Holds tbox F g
