-- The fillers and the kinds of the kept interpretation by tests over a list of facts.
use Rattle.std.specs.Prelude.{ℕ, List, [], ◌∷◌, Bool, ◌&&◌, if◌then◌else◌, nat_eq, Option, Some, None, option_map, unwrap_or}
use Rattle.std.specs.Bool.{then_some}
use Rattle.std.specs.Option.{option_or}
use Rattle.std.specs.Ordering.{is_lt, nat_cmp}
use Rattle.std.specs.declared.cmp.Ordering.{Ordering}
use Rattle.mast_terms.specs.declared.term.Term.{Term}
use Rattle.mast_terms.specs.declared.term.Term.TheVariants as term
use Rattle.mast_terms.specs.declared.value.Kind.{Kind}
use Rattle.mast_terms.specs.Orders.{term_order}
use Rattle.mast_tables.specs.Whole.{value_kind}
use Rattle.mast_cq.specs.Meanings.{Fact}
use Rattle.mast_tbox.specs.declared.axiom.Inclusion.{Inclusion}
use Rattle.mast_tbox.specs.declared.axiom.Inclusion.TheVariants.{Class as IClass, Exists, HasValue, Role as IRole, Attr as IAttr, Range}
use Rattle.mast_tbox.specs.declared.expression.Prop.{Prop}
use Rattle.mast_tbox.specs.declared.expression.Prop.TheVariants.{Role as PRole, Attr as PAttr}
use Rattle.mast_canon.specs.Decisions.{is_in, needs_with, is_filler, is_kept}
use Rattle.mast_canon.specs.Elements.{Element, Named, Successor}
use Rattle.mast_canon.specs.FactLists.{terms_of}
use Rattle.mast_canon.specs.Paths.{are_equivalent}

module _ {X : Type 0} (order : X → X → Ordering) where
  -- the lesser of the two
  abbrev pub lesser : X → Option X → X
  lesser x None = x
  lesser x (Some y) = if is_lt (order x y) then x else y

  -- the least of a list that passes the test
  abbrev pub least : (X → Bool) → List X → Option X
  least test [] = None
  least test (x ∷ xs) = if test x then Some (lesser x (least test xs)) else least test xs

-- what the function gives of the first element of which it gives something
abbrev pub first_given : {X Y : Type 0} → (X → Option Y) → List X → Option Y
first_given f [] = None
first_given f (x ∷ xs) = option_or (f x) (first_given f xs)

-- the numbers of the existential inclusions
abbrev pub numbers : List Inclusion → List ℕ
numbers [] = []
numbers (IClass b a ∷ is) = numbers is
numbers (Exists b r end k ∷ is) = k ∷ numbers is
numbers (HasValue b u k ∷ is) = k ∷ numbers is
numbers (IRole r s ∷ is) = numbers is
numbers (IAttr u v ∷ is) = numbers is
numbers (Range u kind ∷ is) = numbers is

module _ (tbox : List Inclusion) (facts : List (Fact Term)) where
  -- the parent of t, where it is a p-filler of t
  abbrev pub parent_filler : Prop → Element → Option Element
  parent_filler p (Named x) = None
  parent_filler p (Successor s k) = then_some (is_filler tbox facts p (Successor s k) s) s

  -- t has a kept successor by the number j, whose property is equivalent to p
  abbrev pub owns : Prop → Element → ℕ → Bool
  owns p t j = needs_with tbox facts (λ i q. nat_eq i j && (are_equivalent tbox q p && is_kept tbox facts (Successor t j))) t

  -- who fills t for the number k, whose property is p: its own successor, else the least named filler, else the parent, else the
  -- successor by the least other number
  abbrev pub filler_of : ℕ → Prop → Element → Option Element
  filler_of k p t =
      option_or (then_some (is_kept tbox facts (Successor t k)) (Successor t k))
      (option_or (option_map Named (least term_order (λ u. is_filler tbox facts p t (Named u)) (terms_of facts)))
      (option_or (parent_filler p t) (option_map (Successor t) (least nat_cmp (owns p t) (numbers tbox)))))

  -- by the inclusion, where its number is k and t is in its left side
  abbrev pub filler_by : ℕ → Element → Inclusion → Option Element
  filler_by k t (IClass b a) = None
  filler_by k t (Exists b r end j) = if nat_eq j k && is_in tbox facts t b then filler_of k (PRole r) t else None
  filler_by k t (HasValue b u j) = if nat_eq j k && is_in tbox facts t b then filler_of k (PAttr u) t else None
  filler_by k t (IRole r s) = None
  filler_by k t (IAttr u v) = None
  filler_by k t (Range u kind) = None

  -- the filler of the number k for t; t itself where there is none
  abbrev pub fill : ℕ → Element → Element
  fill k t = if is_kept tbox facts t then unwrap_or (first_given (filler_by k t) tbox) t else t

  -- the kind of the first range among these whose attribute has the successor as a value
  abbrev pub range_kind : Element → ℕ → List Inclusion → Option Kind
  range_kind s k [] = None
  range_kind s k (IClass b a ∷ is) = range_kind s k is
  range_kind s k (Exists b r end j ∷ is) = range_kind s k is
  range_kind s k (HasValue b u j ∷ is) = range_kind s k is
  range_kind s k (IRole r t ∷ is) = range_kind s k is
  range_kind s k (IAttr u v ∷ is) = range_kind s k is
  range_kind s k (Range u kind ∷ is) = if is_filler tbox facts (PAttr u) s (Successor s k) then Some kind else range_kind s k is

  -- the kind of an element: that of a named value, none of a named object, and that of the ranges of a successor
  abbrev pub kind_of : Element → Option Kind
  kind_of (Named (term.Value v)) = Some (value_kind v)
  kind_of (Named (term.Object o)) = None
  kind_of (Successor s k) = range_kind s k tbox
