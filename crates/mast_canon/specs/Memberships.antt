-- Memberships: the facts that show a pair in a property and a term in a basic concept. Terms are any here.
use Rattle.std.specs.Prelude.{◌≡◌, List, [], ◌∷◌}
use Rattle.mast_cq.specs.Meanings.{Fact, InClass, InAttr}
use Rattle.mast_cq.specs.Properties.{prop_fact}
use Rattle.mast_tbox.specs.declared.constraint.Step.{Step}
use Rattle.mast_tbox.specs.declared.constraint.Step.TheVariants.{Role as SRole, Test, Attr as SAttr}
use Rattle.mast_tbox.specs.declared.expression.Basic.{Basic}
use Rattle.mast_tbox.specs.declared.expression.Basic.TheVariants.{Class as BClass, Some as BSome, Subjects}
use Rattle.mast_tbox.specs.declared.expression.Prop.{Prop}
use Rattle.mast_tbox.specs.declared.expression.Prop.TheVariants.{Role as PRole, Attr as PAttr}
use Rattle.mast_tbox.specs.Expressions.{property}

-- the fact that t and u are a pair of the property: u is a filler of t
abbrev pub pair_fact : {X : Type 0} → Prop → X → X → Fact X
pair_fact p t u = prop_fact (property p) t u

-- the fact that shows t in the basic concept: in A, or in ∃Q or δ(U) by the filler u
abbrev pub shows : {X : Type 0} → Basic → X → X → Fact X
shows (BClass a) t u = InClass a t
shows (BSome r) t u = pair_fact (PRole r) t u
shows (Subjects v) t u = pair_fact (PAttr v) t u

module _ {X : Type 0} (P : Fact X → Type 0) where
  -- by the facts with P, t is in the basic concept
  abbrev pub IsIn : Basic → X → Type 0
  IsIn b t = (u : X) × P (shows b t u)

  -- by the facts with P, the path leads from t to u: a test stays at a member of its class
  abbrev pub LeadsTo : List Step → X → X → Type 0
  LeadsTo [] t u = t ≡ u
  LeadsTo (SRole r ∷ path) t u = (v : X) × (P (pair_fact (PRole r) t v) × LeadsTo path v u)
  LeadsTo (Test a ∷ path) t u = P (InClass a t) × LeadsTo path t u
  LeadsTo (SAttr a ∷ path) t u = (v : X) × (P (InAttr a t v) × LeadsTo path v u)

  -- by the facts with P, the path leads from both terms to one end
  abbrev pub ShareEnd : X → X → List Step → Type 0
  ShareEnd t u path = (end : X) × (LeadsTo path t end × LeadsTo path u end)
