-- The theory of a specification is restricted, and over names that documents may use; the facts of tables are those of a list.
use Rattle.std.proofs.Common.{ℕ, inl, inr, List, [], ◌∷◌, Option, Some, None, Contains, sym, subst, arith}
use Rattle.std.proofs.Math.Logic.{∥∥₁_elim}
use Rattle.std.specs.Coded.{×_prop, Π_prop, →_prop, Unit-prop, le_prop}
use Rattle.std.specs.List.{AllByRecursion}
use Rattle.mast_terms.specs.declared.name.Name.{Name}
use Rattle.mast_terms.specs.declared.name.NameKind.{NameKind}
use Rattle.mast_terms.specs.declared.name.NameKind.TheVariants as kinds
use Rattle.mast_terms.specs.declared.term.Term.{Term}
use Rattle.mast_terms.specs.Vocabularies.{Lists, IsVocabulary}
use Rattle.mast_cq.specs.Meanings.{Fact, InClass, InRole, InAttr}
use Rattle.mast_mapping.specs.declared.map.Head.{Head}
use Rattle.mast_mapping.specs.declared.map.Head.TheVariants as head
use Rattle.mast_mapping.specs.declared.split_map.SplitMap.{SplitMap}
use Rattle.mast_mapping.specs.InRange.{IsHeadIn}
use Rattle.mast_tables.specs.Rows.{Row}
use Rattle.mast_tbox.specs.declared.axiom.Inclusion.{Inclusion}
use Rattle.mast_tbox.specs.declared.axiom.Inclusion.TheVariants.{Class as IClass, Exists, HasValue, Role as IRole, Attr as IAttr, Range}
use Rattle.mast_tbox.specs.declared.axiom.Lined.{Lined}
use Rattle.mast_tbox.specs.declared.axiom.Negative.{Negative}
use Rattle.mast_tbox.specs.declared.constraint.Constraint.{Constraint}
use Rattle.mast_tbox.specs.declared.expression.Basic.{Basic}
use Rattle.mast_tbox.specs.declared.expression.Basic.TheVariants.{Class as BClass, Some as BSome, Subjects}
use Rattle.mast_tbox.specs.declared.expression.Prop.{Prop}
use Rattle.mast_tbox.specs.declared.expression.RoleExpr.{RoleExpr}
use Rattle.mast_tbox.specs.declared.expression.RoleExpr.TheVariants.{Direct, Inverse}
use Rattle.mast_tbox.specs.Lists.{items}
use Rattle.mast_tbox.specs.Names.{RoleNamed, BasicNamed, EndNamed, InclusionNamed, IsStatable, AreInRange}
use Rattle.mast_tbox.specs.Restrictions.{IsRestrictionBreach, NoneOf}
use Rattle.mast_tbox.proofs.MemberLemmas.{none, first_or}
use Rattle.mast_tbox.specs.Vocabularies.{AxiomsInRange}
use Rattle.mast_tree.specs.Names.{StandsIn}
use Rattle.mast_canon.specs.declared.rows.RowId.{RowId}
use Rattle.mast_canon.specs.declared.spec.Spec.{Spec}
use Rattle.mast_canon.specs.Conditions.{SplitInRange}
use Rattle.mast_canon.specs.Facts.{IsOfTables}
use Rattle.mast_canon.specs.KeptMembers.{listed}
use Rattle.mast_canon.specs.SpecFacts.{FactsOf, AllFacts}
use Rattle.mast_canon.specs.Theories.{theory_of}
use Rattle.mast_canon.specs.TheoryPremises.{AreSorted, FactInRange, FactsInRange, IsRestricted, IsStated}
use Rattle.mast_canon.specs.WorldLaws.{IsListed}
use Rattle.mast_canon.proofs.FactListLemmas.{IsHeadStatable, facts_are, facts_sorted, facts_in_range}
use Rattle.mast_canon.proofs.GrowthLemmas.{inclusion_weaker}
use Rattle.mast_canon.proofs.SupportLemmas.{each_weaker}

bottom_prop : IsProp ⊥
bottom_prop a b = absurd a

none_prop : {X : Type 0} (P : X → Type 0) (xs : List X) → IsProp (NoneOf P xs)
none_prop P xs = Π_prop (λ x. →_prop (→_prop bottom_prop))

-- what a specification keeps of restrictions is told whole
unbreached : (inclusions : List (Lined Inclusion)) (functional : List (Lined Prop)) (constraints : List (Lined Constraint)) → ∥ IsRestrictionBreach inclusions functional constraints None ∥₁ → IsRestrictionBreach inclusions functional constraints None
unbreached inclusions functional constraints t = ∥∥₁_elim t (×_prop (none_prop _ inclusions) (none_prop _ constraints)) (λ h. h)

-- a specification has no restriction breach, and its existentials are numbered
pub spec_restricted : (spec : Spec) → IsRestricted (theory_of spec)
spec_restricted spec = record { numbered = spec.tbox.numbered; unbreached = unbreached spec.tbox.inclusions spec.tbox.functional spec.constraints spec.unbreached }

-- the facts of all rows stand in a list
abbrev pub all_listed : (spec : Spec) (tables : List (List Row)) → IsListed (AllFacts spec tables)
all_listed spec tables = record { list = listed spec tables; are = facts_are spec.tables tables spec.maps }

-- the facts of all rows have objects and values in their places
pub all_sorted : (spec : Spec) (tables : List (List Row)) → AreSorted (AllFacts spec tables)
all_sorted spec tables = facts_sorted spec.tables tables spec.maps (IsOfTables tables)

-- names of a vocabulary are those that documents may use
stands_statable : (lists : Lists) → IsVocabulary lists → (kind : NameKind) (n : ℕ) → StandsIn lists kind n → IsStatable kind n
stands_statable lists v kinds.Class n h = omega (arith, h, v.classes.few)
stands_statable lists v kinds.Role n h = omega (arith, h, v.roles.few)
stands_statable lists v kinds.Attr n h = omega (arith, h, v.attributes.few)

-- what all of a list have, each contained one has
pub each_contains : {X : Type 0} (P : X → Type 0) (xs : List X) → AllByRecursion P xs → (x : X) → Contains xs x → P x
each_contains P [] h x c = absurd (none x c)
each_contains P (y ∷ xs) h x c = elim (first_or y xs x c) [ inl e ↦ subst P (sym e) h.0 | inr d ↦ each_contains P xs h.1 x d ]

name_prop : (kind : NameKind) (n : ℕ) → IsProp (IsStatable kind n)
name_prop kind n = hlevel le_prop

role_prop : (r : RoleExpr) → IsProp (RoleNamed IsStatable r)
role_prop (Direct p) = name_prop kinds.Role p.0
role_prop (Inverse p) = name_prop kinds.Role p.0

basic_prop : (b : Basic) → IsProp (BasicNamed IsStatable b)
basic_prop (BClass a) = name_prop kinds.Class a.0
basic_prop (BSome r) = role_prop r
basic_prop (Subjects v) = name_prop kinds.Attr v.0

end_prop : (end : Option Name) → IsProp (EndNamed IsStatable end)
end_prop None = Unit-prop
end_prop (Some a) = name_prop kinds.Class a.0

inclusion_prop : (i : Inclusion) → IsProp (InclusionNamed IsStatable i)
inclusion_prop (IClass b a) = ×_prop (basic_prop b) (name_prop kinds.Class a.0)
inclusion_prop (Exists b r end k) = ×_prop (basic_prop b) (×_prop (role_prop r) (end_prop end))
inclusion_prop (HasValue b v k) = ×_prop (basic_prop b) (name_prop kinds.Attr v.0)
inclusion_prop (IRole r s) = ×_prop (role_prop r) (role_prop s)
inclusion_prop (IAttr u v) = ×_prop (name_prop kinds.Attr u.0) (name_prop kinds.Attr v.0)
inclusion_prop (Range u kind) = name_prop kinds.Attr u.0

in_range : (lists : Lists) → IsVocabulary lists → (inclusions : List (Lined Inclusion)) (negatives : List (Lined Negative)) (functional : List (Lined Prop))
    → ∥ AxiomsInRange lists inclusions negatives functional ∥₁ → AreInRange (items inclusions)
in_range lists v inclusions negatives functional t = ∥∥₁_elim t (Π_prop (λ i. →_prop (inclusion_prop i)))
    (λ h i c. inclusion_weaker (StandsIn lists) IsStatable (stands_statable lists v) i (each_contains (InclusionNamed (StandsIn lists)) (items inclusions) h.of_inclusions i c))

-- the inclusions of a specification are over names that documents may use
pub spec_stated : (spec : Spec) → IsVocabulary spec.vocab → IsStated (theory_of spec)
spec_stated spec v = record { numbered = spec.tbox.numbered; inclusions = in_range spec.vocab v spec.tbox.inclusions spec.tbox.negatives spec.tbox.functional spec.axioms_in_range }

fact_prop : (f : Fact Term) → IsProp (FactInRange f)
fact_prop (InClass a t) = name_prop kinds.Class a.0
fact_prop (InRole p t u) = name_prop kinds.Role p.0
fact_prop (InAttr v t u) = name_prop kinds.Attr v.0

head_statable : (lists : Lists) → IsVocabulary lists → (h : Head) → IsHeadIn lists h → IsHeadStatable h
head_statable lists v (head.Class name subject) h = stands_statable lists v kinds.Class name.0 h
head_statable lists v (head.Role name from to) h = stands_statable lists v kinds.Role name.0 h
head_statable lists v (head.Attr name from value) h = stands_statable lists v kinds.Attr name.0 h

heads_statable : (lists : Lists) → IsVocabulary lists → (maps : List SplitMap) → SplitInRange lists maps → AllByRecursion (λ m. IsHeadStatable m.head) maps
heads_statable lists v maps h = each_weaker (λ (m : SplitMap). IsHeadIn lists m.head) (λ (m : SplitMap). IsHeadStatable m.head) (λ m. head_statable lists v m.head) maps h

-- so are the facts of rows
pub rows_in_range : (spec : Spec) (tables : List (List Row)) (X : RowId → Type 0) → IsVocabulary spec.vocab → FactsInRange (FactsOf spec tables X)
rows_in_range spec tables X v = ∥∥₁_elim spec.maps_in_range (Π_prop (λ f. →_prop (fact_prop f)))
    (λ h. facts_in_range spec.tables tables spec.maps X (heads_statable spec.vocab v spec.maps h))
