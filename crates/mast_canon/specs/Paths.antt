-- Paths of inclusions by tests: which property is below which, which is specialised, and to which basic concepts one leads.
use Rattle.std.specs.Prelude.{List, [], ◌∷◌, map, Bool, false, not, ◌&&◌, ◌||◌, Some, None}
use Rattle.std.specs.List.{list_any}
use Rattle.mast_tbox.specs.declared.axiom.Inclusion.{Inclusion}
use Rattle.mast_tbox.specs.declared.axiom.Inclusion.TheVariants.{Class as IClass, Exists, HasValue, Role as IRole, Attr as IAttr, Range}
use Rattle.mast_tbox.specs.declared.expression.Basic.{Basic}
use Rattle.mast_tbox.specs.declared.expression.Prop.{Prop}
use Rattle.mast_tbox.specs.declared.expression.Prop.TheVariants.{Role as PRole, Attr as PAttr}
use Rattle.mast_tbox.specs.Expressions.{inverse, inverse_role, same_basic, same_prop}
use Rattle.mast_tbox.specs.Inclusions.{concept_pairs, pairs}

module _ {X : Type 0} (same : X → X → Bool) where
  -- by steps that pass the test, none or more, y is reached from x, and the places between stand in the list
  abbrev pub is_through : (X → X → Bool) → List X → X → X → Bool
  is_through step [] x y = same x y || step x y
  is_through step (m ∷ ms) x y = is_through step ms x y || (is_through step ms x m && is_through step ms m y)

  -- the two are a pair of the list
  abbrev pub is_pair : List (X × X) → X → X → Bool
  is_pair ps x y = list_any (λ p. same p.0 x && same p.1 y) ps

  -- pairs of the list, none or more, lead from x to y
  abbrev pub is_reached : List (X × X) → X → X → Bool
  is_reached ps x y = is_through (is_pair ps) (map (λ p. p.1) ps) x y

-- the pairs of a property and one that it is below by one inclusion
abbrev pub wider_pairs : Inclusion → List (Prop × Prop)
wider_pairs (IClass b a) = []
wider_pairs (Exists b r end k) = []
wider_pairs (HasValue b u k) = []
wider_pairs (IRole r s) = (PRole r, PRole s) ∷ (PRole (inverse_role r), PRole (inverse_role s)) ∷ []
wider_pairs (IAttr u v) = (PAttr u, PAttr v) ∷ []
wider_pairs (Range u kind) = []

module _ (tbox : List Inclusion) where
  -- the first property is below the second
  abbrev pub is_below : Prop → Prop → Bool
  is_below p q = is_reached same_prop (pairs wider_pairs tbox) p q

  -- inclusions, none or more, lead from the first basic concept to the second
  abbrev pub is_under : Basic → Basic → Bool
  is_under c b = is_reached same_basic (pairs concept_pairs tbox) c b

  -- the properties are equivalent
  abbrev pub are_equivalent : Prop → Prop → Bool
  are_equivalent p q = is_below p q && is_below q p

  -- the property is equivalent to the other or to its inverse
  abbrev pub is_like : Prop → Prop → Bool
  is_like p q = are_equivalent p q || are_equivalent p (inverse q)

  -- the inclusion specialises the property
  abbrev pub specialises : Prop → Inclusion → Bool
  specialises p (IClass b a) = false
  specialises p (Exists b r None k) = false
  specialises p (Exists b r (Some a) k) = is_like p (PRole r)
  specialises p (HasValue b u k) = false
  specialises p (IRole r s) = not (are_equivalent (PRole r) (PRole s)) && is_like p (PRole s)
  specialises p (IAttr u v) = not (are_equivalent (PAttr u) (PAttr v)) && is_like p (PAttr v)
  specialises p (Range u kind) = false

  -- some inclusion does
  abbrev pub is_specialised : Prop → Bool
  is_specialised p = list_any (specialises p) tbox
