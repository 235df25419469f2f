-- Judging the restrictions by the chiefs of properties.
use Rattle.std.specs.Prelude.{ℕ, List, [], ◌∷◌, Option, Some, None, Bool, true, false, ◌||◌, if◌then◌else◌, map}
use Rattle.indexmap.specs.IndexSet.{insert_all}
use Rattle.mast_tree.specs.declared.document.DocName.TheVariants.{Constraints}
use Rattle.mast_tbox.specs.declared.expression.Prop.{Prop}
use Rattle.mast_tbox.specs.declared.expression.Prop.TheVariants.{Role as PRole, Attr as PAttr}
use Rattle.mast_tbox.specs.declared.axiom.Inclusion.{Inclusion}
use Rattle.mast_tbox.specs.declared.axiom.Inclusion.TheVariants.{Class as IClass, Exists, HasValue, Role as IRole, Attr as IAttr, Range}
use Rattle.mast_tbox.specs.declared.axiom.Lined.{Lined}
use Rattle.mast_tbox.specs.declared.constraint.Step.{Step}
use Rattle.mast_tbox.specs.declared.constraint.Step.TheVariants.{Role as SRole, Test, Attr as SAttr}
use Rattle.mast_tbox.specs.declared.constraint.Constraint.{Constraint}
use Rattle.mast_tbox.specs.declared.constraint.Constraint.TheVariants.{Functional, Identify, Deny}
use Rattle.mast_tbox.specs.declared.restriction.RestrictionKind.{RestrictionKind}
use Rattle.mast_tbox.specs.declared.restriction.RestrictionKind.TheVariants.{NotLocal, AnchorSpecialised}
use Rattle.mast_tbox.specs.declared.restriction.RestrictionBreach.{RestrictionBreach}
use Rattle.mast_tbox.specs.Expressions.{inverse, same_prop}
use Rattle.mast_tbox.specs.Restrictions.{anchors, with_first}
use Rattle.mast_tbox.specs.inside.Chosen.{is_in}

-- the property, unless the two are the same
abbrev pub unless_same : Bool → Prop → Option Prop
unless_same true p = None
unless_same false p = Some p

module _ (f : Prop → Prop) where
  -- the property that the inclusion specialises: the wider one, where the chiefs of its sides differ
  abbrev pub narrowed : Inclusion → Option Prop
  narrowed (IClass b a) = None
  narrowed (Exists b r None k) = None
  narrowed (Exists b r (Some a) k) = Some (PRole r)
  narrowed (HasValue b u k) = None
  narrowed (IRole r s) = unless_same (same_prop (f (PRole r)) (f (PRole s))) (PRole s)
  narrowed (IAttr u v) = unless_same (same_prop (f (PAttr u)) (f (PAttr v))) (PAttr v)
  narrowed (Range u kind) = None

  -- the properties that inclusions specialise
  abbrev pub all_narrowed : List (Lined Inclusion) → List Prop
  all_narrowed [] = []
  all_narrowed (l ∷ ls) = with_first (narrowed l.item) (all_narrowed ls)

-- the property that a constraint makes functional
abbrev pub made_functional : Constraint → Option Prop
made_functional (Functional p) = Some p
made_functional (Identify b paths) = None
made_functional (Deny atoms) = None

-- the properties that constraints make functional
abbrev pub functionals : List (Lined Constraint) → List Prop
functionals [] = []
functionals (l ∷ ls) = with_first (made_functional l.item) (functionals ls)

-- the set after the chiefs of properties were added
abbrev pub marking : (Prop → Prop) → List Prop → List Prop → List Prop
marking f set ps = insert_all same_prop set (map f ps)

-- the chiefs of properties, in their order, each once
abbrev pub marked : (Prop → Prop) → List Prop → List Prop
marked f ps = marking f [] ps

-- the chief of the property or of its inverse stands in the set
abbrev pub is_like : (Prop → Prop) → List Prop → Prop → Bool
is_like f set p = is_in (f p) set || is_in (f (inverse p)) set

-- the test, of a property that is there
abbrev pub passes : (Prop → Bool) → Option Prop → Bool
passes test None = false
passes test (Some p) = test p

-- the inclusion specialises a property whose chief stands in the set
abbrev pub narrows : (Prop → Prop) → List Prop → Inclusion → Bool
narrows f set i = passes (is_like f set) (narrowed f i)

-- the line of the first item that passes the test
abbrev pub first_line : {X : Type 0} → (X → Bool) → List (Lined X) → Option ℕ
first_line test [] = None
first_line test (l ∷ ls) = if test l.item then Some l.line else first_line test ls

-- the property of a step that is one along a property
abbrev pub step_prop : Step → Option Prop
step_prop (SRole r) = Some (PRole r)
step_prop (Test a) = None
step_prop (SAttr u) = Some (PAttr u)

module _ (test : Prop → Bool) where
  -- how an identification with these anchors breaches, where some have passed before
  abbrev pub judged : Bool → List Prop → Option RestrictionKind
  judged true [] = Some AnchorSpecialised
  judged false [] = Some NotLocal
  judged before (p ∷ ps) = if test p then judged true ps else None

  -- how a constraint breaches
  abbrev pub breach_kind : Constraint → Option RestrictionKind
  breach_kind (Functional p) = None
  breach_kind (Identify b paths) = judged false (anchors paths)
  breach_kind (Deny atoms) = None

  -- a breach of a kind at a line, or else the rest
  abbrev pub at_line : Option RestrictionKind → ℕ → Option RestrictionBreach → Option RestrictionBreach
  at_line None line rest = rest
  at_line (Some kind) line rest = Some (record { doc = Constraints; line = line; kind = kind })

  -- the first constraint that breaches
  abbrev pub first_judged : List (Lined Constraint) → Option RestrictionBreach
  first_judged [] = None
  first_judged (l ∷ ls) = at_line (breach_kind l.item) l.line (first_judged ls)

-- the one property of a list, where the first so far is known
abbrev pub single_after : Option Prop → List Prop → Option Prop
single_after first [] = first
single_after None (p ∷ ps) = single_after (Some p) ps
single_after (Some q) (p ∷ ps) = None
