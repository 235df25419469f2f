-- What it says of facts that an atom of a pattern is met.
use Rattle.std.proofs.Common.{◌≡◌, ℕ, List, [], ◌∷◌, refl, sym, ap, subst}
use Rattle.mast_terms.specs.declared.name.Name.{Name}
use Rattle.mast_cq.specs.declared.atom.Arg.{Arg}
use Rattle.mast_cq.specs.declared.atom.Arg.TheVariants.{Blank, Var, Constant}
use Rattle.mast_cq.specs.declared.atom.Atom.{Atom}
use Rattle.mast_cq.specs.declared.atom.Atom.TheVariants.{Class, Role, Attr}
use Rattle.mast_cq.specs.Meanings.{Fact, InClass, InRole, InAttr, Fits, Match, MetBy}
use Rattle.mast_cq.specs.Properties.{prop_fact, IsPair}
use Rattle.mast_cq.proofs.PropertyLemmas.{pair_in, pair_out}
use Rattle.mast_tbox.specs.declared.expression.Basic.{Basic}
use Rattle.mast_tbox.specs.declared.expression.Basic.TheVariants.{Class as BClass, Some as BSome, Subjects}
use Rattle.mast_tbox.specs.declared.expression.Prop.{Prop}
use Rattle.mast_tbox.specs.declared.expression.Prop.TheVariants.{Role as PRole, Attr as PAttr}
use Rattle.mast_tbox.specs.Expressions.{property, pair, at}
use Rattle.mast_canon.specs.Memberships.{pair_fact, shows, IsIn}

module _ {X : Type 0} (constant : ℕ → X) (P : Fact X → Type 0) (s : ℕ → X) where
  -- two terms that the arguments may stand for are a pair of the property
  pub record IsMetPair (p : Prop) (x y : Arg) : Type 0 where
    pub one : X
    pub other : X
    pub one_fits : Fits constant s x one
    pub other_fits : Fits constant s y other
    pub holds : P (pair_fact p one other)

  -- so it is where the atom of a pair is met, and there alone
  pub pair_met : (p : Prop) (x y : Arg) → MetBy constant P s (pair p x y) → IsMetPair p x y
  pair_met p x y m =
      let w = pair_out constant s (property p) x y m.fact m.matches in
      record { one = w.one; other = w.other; one_fits = w.one_fits; other_fits = w.other_fits; holds = subst P w.is m.holds }

  pub meets_pair : (p : Prop) (x y : Arg) (t u : X) → Fits constant s x t → Fits constant s y u → P (pair_fact p t u) → MetBy constant P s (pair p x y)
  meets_pair p x y t u f g h = record { fact = pair_fact p t u; matches = pair_in constant s (property p) x y t u f g; holds = h }

  -- between two variables
  pub vars_met : (p : Prop) (x y : ℕ) → MetBy constant P s (pair p (Var x) (Var y)) → P (pair_fact p (s x) (s y))
  vars_met p x y m =
      let w = pair_met p (Var x) (Var y) m in
      subst (λ z. P (pair_fact p z (s y))) w.one_fits (subst (λ z. P (pair_fact p w.one z)) w.other_fits w.holds)

  pub meets_vars : (p : Prop) (x y : ℕ) → P (pair_fact p (s x) (s y)) → MetBy constant P s (pair p (Var x) (Var y))
  meets_vars p x y h = meets_pair p (Var x) (Var y) (s x) (s y) refl refl h

  -- a variable in a class
  pub class_met : (a : Name) (x : ℕ) → MetBy constant P s (Class a (Var x)) → P (InClass a (s x))
  class_met a x m = go m.fact m.matches m.holds
    where
      go : (f : Fact X) → Match constant s (Class a (Var x)) f → P f → P (InClass a (s x))
      go (InClass b t) e h = subst (λ z. P (InClass z (s x))) (sym e.0) (subst (λ z. P (InClass b z)) e.1 h)
      go (InRole p t u) e h = absurd e
      go (InAttr u t v) e h = absurd e

  pub meets_class : (a : Name) (x : ℕ) → P (InClass a (s x)) → MetBy constant P s (Class a (Var x))
  meets_class a x h = record { fact = InClass a (s x); matches = (refl, refl); holds = h }

  -- a variable in a basic concept
  pub at_met : (b : Basic) (x : ℕ) → MetBy constant P s (at b (Var x)) → IsIn P b (s x)
  at_met (BClass a) x m = (s x, class_met a x m)
  at_met (BSome r) x m =
      let w = pair_met (PRole r) (Var x) Blank m in (w.other, subst (λ z. P (pair_fact (PRole r) z w.other)) w.one_fits w.holds)
  at_met (Subjects u) x m =
      let w = pair_met (PAttr u) (Var x) Blank m in (w.other, subst (λ z. P (pair_fact (PAttr u) z w.other)) w.one_fits w.holds)

  pub meets_at : (b : Basic) (x : ℕ) → IsIn P b (s x) → MetBy constant P s (at b (Var x))
  meets_at (BClass a) x h = meets_class a x h.1
  meets_at (BSome r) x h = meets_pair (PRole r) (Var x) Blank (s x) h.0 refl tt h.1
  meets_at (Subjects u) x h = meets_pair (PAttr u) (Var x) Blank (s x) h.0 refl tt h.1
