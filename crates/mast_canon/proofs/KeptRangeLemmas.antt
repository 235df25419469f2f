-- Kinds in a kept interpretation: each value has the kind of each of its ranges, where the facts have a model.
use Rattle.std.proofs.Common.{◌≡◌, ◌≢◌, ℕ, ◌⊎◌, inl, inr, Bool, true, false, List, [], ◌∷◌, ◌++◌, Option, Some, Contains, refl, sym, ap, ◌∙◌, subst}
use Rattle.std.proofs.lemmas.Bool.{false≢true}
use Rattle.mast_terms.specs.declared.name.Name.{Name}
use Rattle.mast_terms.specs.declared.term.Object.{Object}
use Rattle.mast_terms.specs.declared.term.Term.{Term}
use Rattle.mast_terms.specs.declared.term.Term.TheVariants as term
use Rattle.mast_terms.specs.declared.value.Kind.{Kind}
use Rattle.mast_terms.specs.Orders.{TestsEquality}
use Rattle.mast_terms.proofs.OrderLemmas.{kind_equality_test}
use Rattle.mast_terms.specs.contracts.value.KindPartialEq.TheImpl as kind_eq
use Rattle.mast_tables.specs.Whole.{value_kind}
use Rattle.mast_cq.specs.Meanings.{Fact, InClass, InRole, InAttr}
use Rattle.mast_tbox.specs.declared.axiom.Inclusion.{Inclusion}
use Rattle.mast_tbox.specs.declared.axiom.Inclusion.TheVariants.{Class as IClass, Exists, HasValue, Role as IRole, Attr as IAttr, Range}
use Rattle.mast_tbox.specs.declared.axiom.Lined.{Lined}
use Rattle.mast_tbox.specs.declared.expression.Prop.{Prop}
use Rattle.mast_tbox.specs.declared.expression.Prop.TheVariants.{Role as PRole, Attr as PAttr}
use Rattle.mast_tbox.specs.declared.expression.RoleExpr.{RoleExpr}
use Rattle.mast_tbox.specs.declared.expression.RoleExpr.TheVariants.{Direct, Inverse}
use Rattle.mast_tbox.specs.Inclusions.{States}
use Rattle.mast_tbox.specs.Lists.{items}
use Rattle.mast_tbox.proofs.MemberLemmas.{front, later, none, first_or, map_out}
use Rattle.mast_canon.specs.CertainAnswers.{HoldsBy}
use Rattle.mast_canon.specs.Derivations.{FactStep, Holds, source, follows}
use Rattle.mast_canon.specs.Elements.{Element, Named, Successor, map_fact}
use Rattle.mast_canon.specs.KeptWorlds.{IsValueOf, IsRangeKind, IsKindOf}
use Rattle.mast_canon.specs.Memberships.{pair_fact}
use Rattle.mast_canon.specs.NoModels.{wrong, two, range, NoModel}
use Rattle.mast_canon.specs.Theories.{Theory, stated}
use Rattle.mast_canon.specs.TheoryPremises.{IsSorted, AreSorted}

-- where a test tells equal things, it is decided whether two are one
pub decide : {A : Type 0} (same : A → A → Bool) → TestsEquality same → (a b : A) → (a ≡ b) ⊎ (a ≢ b)
decide same tests a b = go (same a b) refl
  where
    go : (x : Bool) → same a b ≡ x → (a ≡ b) ⊎ (a ≢ b)
    go true e = inl ((tests a b).0 e)
    go false e = inr (λ f. false≢true (sym e ∙ (tests a b).1 f))

-- an element of a list splits it
pub record IsSplit {X : Type 0} (xs : List X) (x : X) : Type 0 where
  pub before : List X
  pub after : List X
  pub is : xs ≡ before ++ x ∷ after

pub split_at : {X : Type 0} (xs : List X) (x : X) → Contains xs x → IsSplit xs x
split_at [] x c = absurd (none x c)
split_at (y ∷ xs) x c = elim (first_or y xs x c) [
  | inl e ↦ record { before = []; after = xs; is = ap (λ z. z ∷ xs) (sym e) }
  | inr d ↦ (let w = split_at xs x d in record { before = y ∷ w.before; after = w.after; is = ap (λ z. y ∷ z) w.is })
]

-- no object is a value of an attribute
abbrev ValueIsNone : Element → Type 0
ValueIsNone v = (o : Object) → v ≡ Named (term.Object o) → ⊥

abbrev ValuesAreSorted : Fact Element → Type 0
ValuesAreSorted (InClass a t) = Unit {0}
ValuesAreSorted (InRole p t u) = Unit {0}
ValuesAreSorted (InAttr v t u) = ValueIsNone u

source_sorted : (f : Fact Term) → IsSorted f → ValuesAreSorted (map_fact Named f)
source_sorted (InClass a t) s = tt
source_sorted (InRole p t u) s = tt
source_sorted (InAttr v t u) s = λ o e. let w : u ≡ term.Value s.1.0 = s.1.1 in let x : u ≡ term.Object o = cc in let y : term.Value s.1.0 ≡ term.Object o = sym w ∙ x in cc

add_sorted : (p : Prop) (t : Element) (k : ℕ) → ValuesAreSorted (pair_fact p t (Successor t k))
add_sorted (PRole (Direct p)) t k = tt
add_sorted (PRole (Inverse p)) t k = tt
add_sorted (PAttr v) t k = λ o e. cc

role_sorted : (r : RoleExpr) (t u : Element) → ValuesAreSorted (pair_fact (PRole r) t u)
role_sorted (Direct p) t u = tt
role_sorted (Inverse p) t u = tt

widen_sorted : (tbox : List Inclusion) (p q : Prop) (t u : Element) → States tbox p q → ValuesAreSorted (pair_fact p t u) → ValuesAreSorted (pair_fact q t u)
widen_sorted tbox (PRole r) (PRole s) t u c h = role_sorted s t u
widen_sorted tbox (PRole r) (PAttr v) t u c h = absurd c
widen_sorted tbox (PAttr v) (PRole s) t u c h = absurd c
widen_sorted tbox (PAttr v) (PAttr w) t u c h = h

pub values_sorted : (tbox : List Inclusion) (F : Fact Term → Type 0) → AreSorted F → (f : Fact Element) → Holds tbox F f → ValuesAreSorted f
values_sorted tbox F sorted f (source s) = subst ValuesAreSorted (sym s.is) (source_sorted s.fact (sorted s.fact s.given))
values_sorted tbox F sorted f (follows {f = g} h (FactStep.into_class b a x y c eg ef)) = subst ValuesAreSorted (sym ef) tt
values_sorted tbox F sorted f (follows {f = g} h (FactStep.adds b q k x y c eg ef)) = subst ValuesAreSorted (sym ef) (add_sorted q x k)
values_sorted tbox F sorted f (follows {f = g} h (FactStep.ends b r a k x y c eg ef)) = subst ValuesAreSorted (sym ef) tt
values_sorted tbox F sorted f (follows {f = g} h (FactStep.widens q' q x y c eg ef)) =
    subst ValuesAreSorted (sym ef) (widen_sorted tbox q' q x y c (subst ValuesAreSorted eg (values_sorted tbox F sorted g h)))

module _ (P : Fact Element → Type 0) (v : Element) (u : Name) (kind : Kind) (value : IsValueOf P u v) (o : Option Kind) where
  -- an earlier range than that of u gave the kind
  record IsEarlier (ls : List (Lined Inclusion)) : Type 0 where
    before : List (Lined Inclusion)
    after : List (Lined Inclusion)
    line : Lined Inclusion
    split : ls ≡ before ++ line ∷ after
    is : line.item ≡ Range u kind
    other : Name
    its : Kind
    earlier : Contains (items before) (Range other its)
    value_too : IsValueOf P other v
    said : o ≡ Some its

  abbrev Out : List (Lined Inclusion) → Type 0
  Out ls = (o ≡ Some kind) ⊎ IsEarlier ls

  extend : (m : Lined Inclusion) (ls : List (Lined Inclusion)) → Out ls → Out (m ∷ ls)
  extend m ls (inl e) = inl e
  extend m ls (inr b) = inr (record {
    before = m ∷ b.before;
    after = b.after;
    line = b.line;
    split = ap (λ z. m ∷ z) b.split;
    is = b.is;
    other = b.other;
    its = b.its;
    earlier = later (Range b.other b.its) m.item (items b.before) b.earlier;
    value_too = b.value_too;
    said = b.said;
  })

  found_first : (m : Lined Inclusion) (ls : List (Lined Inclusion)) (l : Lined Inclusion) (other : Name) (its : Kind) → m.item ≡ Range other its → IsValueOf P other v → o ≡ Some its
      → Contains ls l → l.item ≡ Range u kind → Out (m ∷ ls)
  found_first m ls l other its e val said c is =
      let s = split_at ls l c in
      inr (record {
        before = m ∷ s.before;
        after = s.after;
        line = l;
        split = ap (λ z. m ∷ z) s.is;
        is = is;
        other = other;
        its = its;
        earlier = subst (λ i. Contains (i ∷ items s.before) (Range other its)) (sym e) (front (Range other its) (items s.before));
        value_too = val;
        said = said;
      })

  first_range : (ls : List (Lined Inclusion)) → IsRangeKind P v (items ls) o → (l : Lined Inclusion) → Contains ls l → l.item ≡ Range u kind → Out ls
  first_range [] h l c is = absurd (none l c)
  first_range (m ∷ ls) h l c is = at m.item refl h (first_or m ls l c) (λ g d. extend m ls (first_range ls g l d is))
    where
      here : (i : Inclusion) → m.item ≡ i → l ≡ m → i ≡ Range u kind
      here i e f = sym e ∙ ap (λ z. z.item) (sym f) ∙ is

      at : (i : Inclusion) → m.item ≡ i → IsRangeKind P v (i ∷ items ls) o → (l ≡ m) ⊎ Contains ls l → (IsRangeKind P v (items ls) o → Contains ls l → Out (m ∷ ls)) → Out (m ∷ ls)
      at (IClass b a) e g (inl f) rest = absurd (let w = here (IClass b a) e f in cc)
      at (Exists b r x n) e g (inl f) rest = absurd (let w = here (Exists b r x n) e f in cc)
      at (HasValue b a n) e g (inl f) rest = absurd (let w = here (HasValue b a n) e f in cc)
      at (IRole r s) e g (inl f) rest = absurd (let w = here (IRole r s) e f in cc)
      at (IAttr a b) e g (inl f) rest = absurd (let w = here (IAttr a b) e f in cc)
      at (Range other its) e (inl g) (inl f) rest = let w = here (Range other its) e f in let k : its ≡ kind = cc in inl (g.1 ∙ ap Some k)
      at (Range other its) e (inr g) (inl f) rest = let w = here (Range other its) e f in let n : u ≡ other = cc in absurd (g.0 (subst (λ z. IsValueOf P z v) n value))
      at (IClass b a) e g (inr d) rest = rest g d
      at (Exists b r x n) e g (inr d) rest = rest g d
      at (HasValue b a n) e g (inr d) rest = rest g d
      at (IRole r s) e g (inr d) rest = rest g d
      at (IAttr a b) e g (inr d) rest = rest g d
      at (Range other its) e (inl g) (inr d) rest = found_first m ls l other its e g.0 g.1 d is
      at (Range other its) e (inr g) (inr d) rest = rest g.1 d

module _ (theory : Theory) (F : Fact Term → Type 0) (sorted : AreSorted F) (model : NoModel theory F → ⊥) where
  abbrev P : Fact Element → Type 0
  P = HoldsBy theory F

  -- a value has the kind of each range of its attributes
  pub range_kept : (u : Name) (kind : Kind) (t v : Element) (o : Option Kind) → Contains (stated theory) (Range u kind) → P (InAttr u t v) → IsKindOf (stated theory) P v o → o ≡ Some kind
  range_kept u kind t (Named (term.Value x)) o c h k = elim (decide kind_eq.ghosts.eq kind_equality_test (value_kind x) kind) [
    | inl e ↦ k ∙ ap Some e
    | inr n ↦ absurd (let m = map_out (λ z. z.item) theory.inclusions (Range u kind) c in
        let s = split_at theory.inclusions m.element m.stands in
        model (_, range s.before s.after m.element u kind s.is (sym m.is) (wrong t x h n) refl))
  ]
  range_kept u kind t (Named (term.Object x)) o c h k = absurd (values_sorted (stated theory) F sorted (InAttr u t (Named (term.Object x))) h x refl)
  range_kept u kind t (Successor s j) o c h k =
      let m = map_out (λ z. z.item) theory.inclusions (Range u kind) c in
      elim (first_range P (Successor s j) u kind (t, h) o theory.inclusions k m.element m.stands (sym m.is)) [
        | inl e ↦ e
        | inr b ↦ elim (decide kind_eq.ghosts.eq kind_equality_test b.its kind) [
          | inl e ↦ b.said ∙ ap Some e
          | inr n ↦ absurd (model (_, range b.before b.after b.line u kind b.split b.is (two b.other b.its t b.value_too.0 (Successor s j) b.earlier n h b.value_too.1) refl))
        ]
      ]
