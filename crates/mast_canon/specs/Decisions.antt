-- Membership, fillers and kept elements by tests over a list of facts. An element is in the basic concepts to which paths lead from
-- what its facts say of it, if it is named, and from the end of its edge, if it is a successor.
use Rattle.std.specs.Prelude.{ℕ, List, Bool, true, false, not, ◌&&◌, ◌||◌, nat_eq, nat_lt, Option, Some, None}
use Rattle.std.specs.List.{list_any}
use Rattle.std.specs.Ordering.{is_eq}
use Rattle.mast_terms.specs.declared.name.Name.{Name}
use Rattle.mast_terms.specs.declared.term.Term.{Term}
use Rattle.mast_terms.specs.Orders.{term_order}
use Rattle.mast_cq.specs.Meanings.{Fact, InClass, InRole, InAttr}
use Rattle.mast_tbox.specs.declared.axiom.Inclusion.{Inclusion}
use Rattle.mast_tbox.specs.declared.axiom.Inclusion.TheVariants.{Class as IClass, Exists, HasValue, Role as IRole, Attr as IAttr, Range}
use Rattle.mast_tbox.specs.declared.expression.Basic.{Basic}
use Rattle.mast_tbox.specs.declared.expression.Basic.TheVariants.{Class as BClass, Some as BSome, Subjects}
use Rattle.mast_tbox.specs.declared.expression.Prop.{Prop}
use Rattle.mast_tbox.specs.declared.expression.Prop.TheVariants.{Role as PRole, Attr as PAttr}
use Rattle.mast_tbox.specs.declared.expression.RoleExpr.TheVariants.{Direct, Inverse}
use Rattle.mast_tbox.specs.Expressions.{inverse, inverse_role}
use Rattle.mast_canon.specs.Elements.{Element, Named, Successor}
use Rattle.mast_canon.specs.FactLists.{terms_of}
use Rattle.mast_canon.specs.Paths.{is_below, is_under, are_equivalent, is_specialised}

-- the two terms are one
abbrev pub same_term : Term → Term → Bool
same_term t u = is_eq (term_order t u)

-- the two elements are one
abbrev pub same_element : Element → Element → Bool
same_element (Named t) (Named u) = same_term t u
same_element (Named t) (Successor u j) = false
same_element (Successor t k) (Named u) = false
same_element (Successor t k) (Successor u j) = same_element t u && nat_eq k j

-- the property is a role or the inverse of one
abbrev pub is_role : Prop → Bool
is_role (PRole r) = true
is_role (PAttr u) = false

-- the inclusion is an existential one whose left side, property and number pass the test
abbrev pub adds_with : (Basic → Prop → ℕ → Bool) → Inclusion → Bool
adds_with test (IClass b a) = false
adds_with test (Exists b r end k) = test b (PRole r) k
adds_with test (HasValue b u k) = test b (PAttr u) k
adds_with test (IRole r s) = false
adds_with test (IAttr u v) = false
adds_with test (Range u kind) = false

module _ (tbox : List Inclusion) (facts : List (Fact Term)) where
  -- by the fact x is in the basic concept
  abbrev pub shows_in : Basic → Term → Fact Term → Bool
  shows_in b x (InClass a y) = same_term x y && is_under tbox (BClass a) b
  shows_in b x (InRole r y z) =
      (same_term x y && is_under tbox (BSome (Direct r)) b) || (same_term x z && is_under tbox (BSome (Inverse r)) b)
  shows_in b x (InAttr v y z) = same_term x y && is_under tbox (Subjects v) b

  -- a member of the class, if there is one, is in the basic concept
  abbrev pub end_under : Option Name → Basic → Bool
  end_under None b = false
  end_under (Some a) b = is_under tbox (BClass a) b

  -- by the inclusion the successor of the number k is in the basic concept, where its parent is in those that pass the test
  abbrev pub makes_in : Basic → ℕ → (Basic → Bool) → Inclusion → Bool
  makes_in b k parent (IClass c a) = false
  makes_in b k parent (Exists c r end j) =
      nat_eq j k && (parent c && (is_under tbox (BSome (inverse_role r)) b || end_under end b))
  makes_in b k parent (HasValue c u j) = false
  makes_in b k parent (IRole r s) = false
  makes_in b k parent (IAttr u v) = false
  makes_in b k parent (Range u kind) = false

  -- the element is in the basic concept
  abbrev pub is_in : Element → Basic → Bool
  is_in (Named x) b = list_any (shows_in b x) facts
  is_in (Successor s k) b = list_any (makes_in b k (is_in s)) tbox

  -- the element is in the left side of an existential inclusion whose number and property pass the test
  abbrev pub needs_with : (ℕ → Prop → Bool) → Element → Bool
  needs_with test t = list_any (adds_with (λ b p k. is_in t b && test k p)) tbox

  -- by the fact u is a p-filler of t
  abbrev pub gives_pair : Prop → Element → Element → Fact Term → Bool
  gives_pair p t u (InClass a x) = false
  gives_pair p t u (InRole r x y) =
      (same_element t (Named x) && (same_element u (Named y) && is_below tbox (PRole (Direct r)) p))
      || (same_element t (Named y) && (same_element u (Named x) && is_below tbox (PRole (Inverse r)) p))
  gives_pair p t u (InAttr v x y) = same_element t (Named x) && (same_element u (Named y) && is_below tbox (PAttr v) p)

  -- u is a p-filler of t: by a fact, as a successor of t, or as its parent
  abbrev pub is_filler : Prop → Element → Element → Bool
  is_filler p t u =
      list_any (gives_pair p t u) facts
      || (needs_with (λ k q. same_element u (Successor t k) && is_below tbox q p) t
      || needs_with (λ k q. is_role q && (same_element t (Successor u k) && is_below tbox (inverse q) p)) u)

  -- some named term is a p-filler of t
  abbrev pub has_named_filler : Prop → Element → Bool
  has_named_filler p t = list_any (λ u. is_filler p t (Named u)) (terms_of facts)

  -- the parent of t is a p-filler of it
  abbrev pub has_parent_filler : Prop → Element → Bool
  has_parent_filler p (Named x) = false
  has_parent_filler p (Successor s k) = is_filler p (Successor s k) s

  -- nothing stands in for the successor of t by the number k, whose property is p
  abbrev pub is_free : ℕ → Prop → Element → Bool
  is_free k p t =
      not (has_named_filler p t)
      && (not (has_parent_filler p t) && not (needs_with (λ j q. nat_lt j k && are_equivalent tbox q p) t))

  -- t gets a successor by the number k
  abbrev pub gets : ℕ → Element → Bool
  gets k t = needs_with (λ j p. nat_eq j k && (is_specialised tbox p || is_free k p t)) t

  -- the element is kept
  abbrev pub is_kept : Element → Bool
  is_kept (Named x) = true
  is_kept (Successor s k) = is_kept s && gets k s
