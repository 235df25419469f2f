-- What stands in a violation list.
use Rattle.std.proofs.Common.{◌≡◌, ◌≢◌, ℕ, Bool, true, false, if◌then◌else◌, List, [], ◌∷◌, ◌++◌, ◌⊎◌, inl, inr, Contains, refl, sym, ap, ◌∙◌, subst}
use Rattle.mast_terms.specs.declared.name.Name.{Name}
use Rattle.mast_terms.specs.declared.value.Kind.{Kind}
use Rattle.mast_terms.specs.declared.value.Kind.TheVariants.{Text, Integer, Date}
use Rattle.mast_cq.specs.Queries.{In}
use Rattle.mast_cq.proofs.ListLemmas.{in_append, append_left, append_right}
use Rattle.mast_tbox.specs.declared.axiom.Inclusion.{Inclusion}
use Rattle.mast_tbox.specs.declared.axiom.Inclusion.TheVariants.{Class as IClass, Exists, HasValue, Role as IRole, Attr as IAttr, Range}
use Rattle.mast_tbox.specs.declared.axiom.Lined.{Lined}
use Rattle.mast_tbox.specs.Lists.{items}
use Rattle.mast_tbox.proofs.MemberLemmas.{front, later, none, first_or}
use Rattle.mast_violate.specs.declared.violation.Violation.{Violation}
use Rattle.mast_violate.specs.ViolationLists.{same_kind, clash, clashes, of_inclusion, of_inclusions}

-- what stands at a place of a list is an element, and each element stands at a place
pub place_in : {X : Type 0} (xs : List X) (x : X) → Contains xs x → In x xs
place_in [] x c = none x c
place_in (y ∷ xs) x c = elim (first_or y xs x c) [ inl e ↦ inl e | inr d ↦ inr (place_in xs x d) ]

-- an element of a list has a place there
pub in_place : {X : Type 0} (xs : List X) (x : X) → In x xs → Contains xs x
in_place [] x i = absurd i
in_place (y ∷ xs) x (inl e) = subst (Contains (y ∷ xs)) (sym e) (front y xs)
in_place (y ∷ xs) x (inr i) = later x y xs (in_place xs x i)

-- behind a list nothing changes it
pub append_nothing : {X : Type 0} (xs : List X) → xs ++ [] ≡ xs
append_nothing [] = refl
append_nothing (x ∷ xs) = ap (λ z. x ∷ z) (append_nothing xs)

pub append_more : {X : Type 0} (xs : List X) (y : X) (zs : List X) → (xs ++ y ∷ []) ++ zs ≡ xs ++ y ∷ zs
append_more [] y zs = refl
append_more (x ∷ xs) y zs = ap (λ z. x ∷ z) (append_more xs y zs)

-- kinds that are not the same differ, and kinds that differ are not the same
kinds_differ : (kind its : Kind) → same_kind kind its ≡ false → its ≢ kind
kinds_differ Text Text e f = cc
kinds_differ Text Integer e f = cc
kinds_differ Text Date e f = cc
kinds_differ Integer Text e f = cc
kinds_differ Integer Integer e f = cc
kinds_differ Integer Date e f = cc
kinds_differ Date Text e f = cc
kinds_differ Date Integer e f = cc
kinds_differ Date Date e f = cc

differ_kinds : (kind its : Kind) → its ≢ kind → same_kind kind its ≡ false
differ_kinds Text Text n = absurd (n refl)
differ_kinds Text Integer n = refl
differ_kinds Text Date n = refl
differ_kinds Integer Text n = refl
differ_kinds Integer Integer n = absurd (n refl)
differ_kinds Integer Date n = refl
differ_kinds Date Text n = refl
differ_kinds Date Integer n = refl
differ_kinds Date Date n = absurd (n refl)

picked : (same : Bool) (v u : Name) → In u (if same then [] else v ∷ []) → (same ≡ false) × (u ≡ v)
picked true v u i = absurd i
picked false v u (inl e) = (refl, e)
picked false v u (inr i) = absurd i

picks : (same : Bool) (v : Name) → same ≡ false → In v (if same then [] else v ∷ [])
picks true v e = absurd (cc e)
picks false v e = inl refl

-- a range of another kind among inclusions
pub record IsClash (kind : Kind) (is : List Inclusion) (u : Name) : Type 0 where
  pub its : Kind
  pub stands : Contains is (Range u its)
  pub differ : its ≢ kind

clash_of : (kind : Kind) (i : Inclusion) (u : Name) → In u (clash kind i) → (its : Kind) × ((Range u its ≡ i) × (its ≢ kind))
clash_of kind (IClass b a) u h = absurd h
clash_of kind (Exists b r end k) u h = absurd h
clash_of kind (HasValue b v k) u h = absurd h
clash_of kind (IRole r s) u h = absurd h
clash_of kind (IAttr v w) u h = absurd h
clash_of kind (Range v its) u h = let p = picked (same_kind kind its) v u h in (its, (ap (λ z. Range z its) p.1, kinds_differ kind its p.0))

-- the clashes of a kind are ranges of other kinds, and all of them
pub clashes_are : (kind : Kind) (is : List Inclusion) (u : Name) → In u (clashes kind is) → IsClash kind is u
clashes_are kind [] u h = absurd h
clashes_are kind (i ∷ is) u h = elim (in_append u (clash kind i) (clashes kind is) h) [
  | inl a ↦ (let w = clash_of kind i u a in record { its = w.0; stands = subst (Contains (i ∷ is)) (sym w.1.0) (front i is); differ = w.1.1 })
  | inr b ↦ (let w = clashes_are kind is u b in record { its = w.its; stands = later (Range u w.its) i is w.stands; differ = w.differ })
]

-- an attribute with a range of another kind is among the clashes of a kind
pub are_clashes : (kind : Kind) (is : List Inclusion) (u : Name) (its : Kind) → Contains is (Range u its) → its ≢ kind → In u (clashes kind is)
are_clashes kind [] u its c n = absurd (none (Range u its) c)
are_clashes kind (i ∷ is) u its c n = elim (first_or i is (Range u its) c) [
  | inl e ↦ append_left u (clash kind i) (clashes kind is) (subst (λ z. In u (clash kind z)) e (picks (same_kind kind its) u (differ_kinds kind its n)))
  | inr d ↦ append_right u (clash kind i) (clashes kind is) (are_clashes kind is u its d n)
]

-- the violation is one of an inclusion of the list, which stands after some
pub record IsOfLine (before : List Inclusion) (ls : List (Lined Inclusion)) (v : Violation) : Type 0 where
  pub first : List (Lined Inclusion)
  pub line : Lined Inclusion
  pub rest : List (Lined Inclusion)
  pub parted : ls ≡ first ++ line ∷ rest
  pub stands : In v (of_inclusion (before ++ items first) line.line line.item)

-- each violation of inclusions is one of a line, and these are all
pub of_some_line : (before : List Inclusion) (ls : List (Lined Inclusion)) (v : Violation) → In v (of_inclusions before ls) → IsOfLine before ls v
of_some_line before [] v h = absurd h
of_some_line before (l ∷ ls) v h = elim (in_append v (of_inclusion before l.line l.item) (of_inclusions (before ++ l.item ∷ []) ls) h) [
  | inl a ↦ record {
    first = [];
    line = l;
    rest = ls;
    parted = refl;
    stands = subst (λ z. In v (of_inclusion z l.line l.item)) (sym (append_nothing before)) a;
  }
  | inr b ↦ (let w = of_some_line (before ++ l.item ∷ []) ls v b in
      record {
        first = l ∷ w.first;
        line = w.line;
        rest = w.rest;
        parted = ap (λ z. l ∷ z) w.parted;
        stands = subst (λ z. In v (of_inclusion z w.line.line w.line.item)) (append_more before l.item (items w.first)) w.stands;
      })
]

-- a violation of one line of the inclusions is one of all of them
pub of_each_line : (before : List Inclusion) (first : List (Lined Inclusion)) (l : Lined Inclusion) (rest : List (Lined Inclusion)) (v : Violation)
    → In v (of_inclusion (before ++ items first) l.line l.item) → In v (of_inclusions before (first ++ l ∷ rest))
of_each_line before [] l rest v h =
    append_left v (of_inclusion before l.line l.item) (of_inclusions (before ++ l.item ∷ []) rest) (subst (λ z. In v (of_inclusion z l.line l.item)) (append_nothing before) h)
of_each_line before (m ∷ first) l rest v h =
    append_right v (of_inclusion before m.line m.item) (of_inclusions (before ++ m.item ∷ []) (first ++ l ∷ rest))
    (of_each_line (before ++ m.item ∷ []) first l rest v (subst (λ z. In v (of_inclusion z l.line l.item)) (sym (append_more before m.item (items first))) h))
