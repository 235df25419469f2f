-- Names and constants that stand in a vocabulary stand in each one that begins with it.
use Rattle.std.proofs.Common.{ℕ, ◌<◌, List, length, length-append, subst, sym, arith}
use Rattle.std.specs.List.{AllByRecursion}
use Rattle.std.specs.Prelude.{Option, Some, None}
use Rattle.mast_terms.specs.declared.name.Name.{Name}
use Rattle.mast_terms.specs.declared.name.NameKind.{NameKind}
use Rattle.mast_terms.specs.declared.name.NameKind.TheVariants as kinds
use Rattle.mast_terms.specs.Vocabularies.{Lists}
use Rattle.mast_cq.specs.declared.atom.Arg.{Arg}
use Rattle.mast_cq.specs.declared.atom.Arg.TheVariants.{Blank, Var, Constant}
use Rattle.mast_cq.specs.declared.atom.Atom.{Atom}
use Rattle.mast_cq.specs.declared.atom.Atom.TheVariants as atom
use Rattle.mast_cq.specs.Origins.{Named}
use Rattle.mast_cq.specs.UnifierMeanings.{IsBelow, KnownArg, KnownAtom}
use Rattle.mast_mapping.specs.declared.map.Head.{Head}
use Rattle.mast_mapping.specs.declared.map.Head.TheVariants as head
use Rattle.mast_mapping.specs.declared.split_map.SplitMap.{SplitMap}
use Rattle.mast_mapping.specs.InRange.{IsHeadIn}
use Rattle.mast_tbox.specs.declared.axiom.Inclusion.{Inclusion}
use Rattle.mast_tbox.specs.declared.axiom.Inclusion.TheVariants as inclusion
use Rattle.mast_tbox.specs.declared.axiom.Lined.{Lined}
use Rattle.mast_tbox.specs.declared.axiom.Negative.{Negative}
use Rattle.mast_tbox.specs.declared.axiom.Negative.TheVariants.{Concepts, Roles, Attrs, Irreflexive}
use Rattle.mast_tbox.specs.declared.constraint.Constraint.{Constraint}
use Rattle.mast_tbox.specs.declared.constraint.Constraint.TheVariants.{Functional, Identify, Deny}
use Rattle.mast_tbox.specs.declared.constraint.Step.{Step}
use Rattle.mast_tbox.specs.declared.constraint.Step.TheVariants as step
use Rattle.mast_tbox.specs.declared.expression.Basic.{Basic}
use Rattle.mast_tbox.specs.declared.expression.Basic.TheVariants as basic
use Rattle.mast_tbox.specs.declared.expression.Prop.{Prop}
use Rattle.mast_tbox.specs.declared.expression.Prop.TheVariants as prop
use Rattle.mast_tbox.specs.declared.expression.RoleExpr.{RoleExpr}
use Rattle.mast_tbox.specs.declared.expression.RoleExpr.TheVariants.{Direct, Inverse}
use Rattle.mast_tbox.specs.Lists.{items}
use Rattle.mast_tbox.specs.Names.{RoleNamed, PropNamed, BasicNamed, EndNamed, InclusionNamed, NegativeNamed, StepNamed, ConstraintNamed}
use Rattle.mast_tbox.specs.Vocabularies.{ConstantsStandIn, AxiomsInRange, ConstraintsInRange}
use Rattle.mast_tree.specs.Names.{StandsIn}
use Rattle.mast_canon.specs.Conditions.{SplitInRange}
use Rattle.mast_tree.specs.Growing.{BeginsWith, Begins}
use Rattle.mast_canon.proofs.SupportLemmas.{each_weaker}

-- a place of a list is a place of each that begins with it
pub place_stays : {A : Type 0} (new old : List A) (n : ℕ) → BeginsWith new old → n < length old → n < length new
place_stays {A} new old n b h = subst (λ (l : List A). n < length l) (sym b.1) (omega (arith, h, length-append old b.0))

-- a name that stands in a vocabulary stands in each that begins with it
pub name_stays : (new old : Lists) → Begins new old → (kind : NameKind) (n : ℕ) → StandsIn old kind n → StandsIn new kind n
name_stays new old b kinds.Class n h = place_stays new.classes old.classes n b.classes h
name_stays new old b kinds.Role n h = place_stays new.roles old.roles n b.roles h
name_stays new old b kinds.Attr n h = place_stays new.attributes old.attributes n b.attributes h

-- what holds of the names holds of them where it is weaker
module _ (P Q : NameKind → ℕ → Type 0) (k : (kind : NameKind) (n : ℕ) → P kind n → Q kind n) where
  role_weaker : (r : RoleExpr) → RoleNamed P r → RoleNamed Q r
  role_weaker (Direct p) h = k kinds.Role p.0 h
  role_weaker (Inverse p) h = k kinds.Role p.0 h

  prop_weaker : (p : Prop) → PropNamed P p → PropNamed Q p
  prop_weaker (prop.Role r) h = role_weaker r h
  prop_weaker (prop.Attr u) h = k kinds.Attr u.0 h

  basic_weaker : (b : Basic) → BasicNamed P b → BasicNamed Q b
  basic_weaker (basic.Class a) h = k kinds.Class a.0 h
  basic_weaker (basic.Some r) h = role_weaker r h
  basic_weaker (basic.Subjects u) h = k kinds.Attr u.0 h

  end_weaker : (end : Option Name) → EndNamed P end → EndNamed Q end
  end_weaker None h = tt
  end_weaker (Some a) h = k kinds.Class a.0 h

  pub inclusion_weaker : (i : Inclusion) → InclusionNamed P i → InclusionNamed Q i
  inclusion_weaker (inclusion.Class b a) h = (basic_weaker b h.0, k kinds.Class a.0 h.1)
  inclusion_weaker (inclusion.Exists b r end n) h = (basic_weaker b h.0, (role_weaker r h.1.0, end_weaker end h.1.1))
  inclusion_weaker (inclusion.HasValue b u n) h = (basic_weaker b h.0, k kinds.Attr u.0 h.1)
  inclusion_weaker (inclusion.Role r s) h = (role_weaker r h.0, role_weaker s h.1)
  inclusion_weaker (inclusion.Attr u v) h = (k kinds.Attr u.0 h.0, k kinds.Attr v.0 h.1)
  inclusion_weaker (inclusion.Range u kind) h = k kinds.Attr u.0 h

  negative_weaker : (n : Negative) → NegativeNamed P n → NegativeNamed Q n
  negative_weaker (Concepts b c) h = (basic_weaker b h.0, basic_weaker c h.1)
  negative_weaker (Roles r s) h = (role_weaker r h.0, role_weaker s h.1)
  negative_weaker (Attrs u v) h = (k kinds.Attr u.0 h.0, k kinds.Attr v.0 h.1)
  negative_weaker (Irreflexive p) h = k kinds.Role p.0 h

  step_weaker : (s : Step) → StepNamed P s → StepNamed Q s
  step_weaker (step.Role r) h = role_weaker r h
  step_weaker (step.Test a) h = k kinds.Class a.0 h
  step_weaker (step.Attr u) h = k kinds.Attr u.0 h

  atom_weaker : (g : Atom) → Named P g → Named Q g
  atom_weaker (atom.Class a x) h = k kinds.Class a.0 h
  atom_weaker (atom.Role p x y) h = k kinds.Role p.0 h
  atom_weaker (atom.Attr u x y) h = k kinds.Attr u.0 h

  constraint_weaker : (c : Constraint) → ConstraintNamed P c → ConstraintNamed Q c
  constraint_weaker (Functional p) h = prop_weaker p h
  constraint_weaker (Identify b paths) h = (basic_weaker b h.0, each_weaker (AllByRecursion (StepNamed P)) (AllByRecursion (StepNamed Q)) (each_weaker (StepNamed P) (StepNamed Q) step_weaker) paths h.1)
  constraint_weaker (Deny atoms) h = each_weaker (Named P) (Named Q) atom_weaker atoms h

arg_known : (m n : ℕ) → ((c : ℕ) → c < m → c < n) → (x : Arg) → KnownArg (IsBelow m) x → KnownArg (IsBelow n) x
arg_known m n k Blank h = tt
arg_known m n k (Var x) h = tt
arg_known m n k (Constant c) h = k c h

atom_known : (m n : ℕ) → ((c : ℕ) → c < m → c < n) → (g : Atom) → KnownAtom (IsBelow m) g → KnownAtom (IsBelow n) g
atom_known m n k (atom.Class a x) h = arg_known m n k x h
atom_known m n k (atom.Role a x y) h = (arg_known m n k x h.0, arg_known m n k y h.1)
atom_known m n k (atom.Attr a x y) h = (arg_known m n k x h.0, arg_known m n k y h.1)

constants_stay : (new old : Lists) → Begins new old → (c : Constraint) → ConstantsStandIn old c → ConstantsStandIn new c
constants_stay new old b (Functional p) h = tt
constants_stay new old b (Identify e paths) h = tt
constants_stay new old b (Deny atoms) h =
    each_weaker (KnownAtom (IsBelow (length old.constants))) (KnownAtom (IsBelow (length new.constants)))
    (atom_known (length old.constants) (length new.constants) (λ c. place_stays new.constants old.constants c b.constants)) atoms h

-- what is in range of a vocabulary is in range of each that begins with it
module _ (new old : Lists) (b : Begins new old) where
  -- axioms
  pub axioms_stay : (inclusions : List (Lined Inclusion)) (negatives : List (Lined Negative)) (functional : List (Lined Prop)) → AxiomsInRange old inclusions negatives functional → AxiomsInRange new inclusions negatives functional
  axioms_stay inclusions negatives functional h = record {
    of_inclusions = each_weaker (InclusionNamed (StandsIn old)) (InclusionNamed (StandsIn new)) (inclusion_weaker (StandsIn old) (StandsIn new) (name_stays new old b)) (items inclusions) h.of_inclusions;
    of_negatives = each_weaker (NegativeNamed (StandsIn old)) (NegativeNamed (StandsIn new)) (negative_weaker (StandsIn old) (StandsIn new) (name_stays new old b)) (items negatives) h.of_negatives;
    of_functional = each_weaker (PropNamed (StandsIn old)) (PropNamed (StandsIn new)) (prop_weaker (StandsIn old) (StandsIn new) (name_stays new old b)) (items functional) h.of_functional;
  }

  -- constraints
  pub constraints_stay : (constraints : List (Lined Constraint)) → ConstraintsInRange old constraints → ConstraintsInRange new constraints
  constraints_stay constraints h = record {
    names = each_weaker (ConstraintNamed (StandsIn old)) (ConstraintNamed (StandsIn new)) (constraint_weaker (StandsIn old) (StandsIn new) (name_stays new old b)) (items constraints) h.names;
    constants = each_weaker (ConstantsStandIn old) (ConstantsStandIn new) (constants_stay new old b) (items constraints) h.constants;
  }

  head_stays : (h : Head) → IsHeadIn old h → IsHeadIn new h
  head_stays (head.Class name subject) h = name_stays new old b kinds.Class name.0 h
  head_stays (head.Role name from to) h = name_stays new old b kinds.Role name.0 h
  head_stays (head.Attr name from value) h = name_stays new old b kinds.Attr name.0 h

  -- split mappings
  pub maps_stay : (maps : List SplitMap) → SplitInRange old maps → SplitInRange new maps
  maps_stay maps h = each_weaker (λ (m : SplitMap). IsHeadIn old m.head) (λ (m : SplitMap). IsHeadIn new m.head) (λ m. head_stays m.head) maps h
