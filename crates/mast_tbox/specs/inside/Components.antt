-- Components: for each property the chief of those that are equivalent to it, and how far they are settled.
use Rattle.std.specs.Prelude.{◌≡◌, List, [], ◌∷◌, ◌++◌, Option, Some, None, Bool, false, if◌then◌else◌, Contains, ◌↔◌, ◌⊎◌}
use Rattle.mast_tbox.specs.declared.expression.Prop.{Prop}
use Rattle.mast_tbox.specs.declared.expression.Prop.TheVariants.{Role as PRole, Attr as PAttr}
use Rattle.mast_tbox.specs.declared.axiom.Inclusion.{Inclusion}
use Rattle.mast_tbox.specs.declared.axiom.Inclusion.TheVariants.{Class as IClass, Exists, HasValue, Role as IRole, Attr as IAttr, Range}
use Rattle.mast_tbox.specs.declared.groups.Groups.{Groups}
use Rattle.mast_tbox.specs.Expressions.{inverse_role, same_prop}
use Rattle.mast_tbox.specs.inside.Groups.{found}
use Rattle.mast_tbox.specs.Lists.{Reaches}
use Rattle.mast_tbox.specs.Properties.{AreEquivalent}
use Rattle.mast_tbox.specs.inside.Chosen.{is_in, noted_chief}

-- the inclusion with its sides changed, where it is one between properties
abbrev pub turned : Inclusion → Inclusion
turned (IClass b a) = IClass b a
turned (Exists b r end k) = Exists b r end k
turned (HasValue b u k) = HasValue b u k
turned (IRole r s) = IRole s r
turned (IAttr u v) = IAttr v u
turned (Range u kind) = Range u kind

-- the properties between which an inclusion leads
abbrev pub ends : Inclusion → List Prop
ends (IClass b a) = []
ends (Exists b r end k) = []
ends (HasValue b u k) = []
ends (IRole r s) = PRole r ∷ PRole s ∷ PRole (inverse_role r) ∷ PRole (inverse_role s) ∷ []
ends (IAttr u v) = PAttr u ∷ PAttr v ∷ []
ends (Range u kind) = []

-- those of all inclusions
abbrev pub all_ends : List Inclusion → List Prop
all_ends [] = []
all_ends (i ∷ is) = ends i ++ all_ends is

-- the second list begins with the first
abbrev pub Begins : {X : Type 0} → List X → List X → Type 0
Begins {X} xs ys = (more : List X) × (xs ++ more ≡ ys)

-- the properties that groups have for one
abbrev pub next_in : Groups Prop → Prop → List Prop
next_in groups p = found same_prop groups p

-- a step to a property that stands in a set
abbrev pub Inside : List Prop → (Prop → List Prop) → Prop → Prop → Type 0
Inside set next p q = Contains (next p) q × Contains set q

-- what the properties come to, as far as they are settled: a free one has no chief yet, one with a chief is equivalent to
-- it, equivalent ones have one chief, and each end of an inclusion is free or has one
pub record Settled (tbox : List Inclusion) (free : List Prop) (note : Prop → Option Prop) : Type 0 where
  pub free_ones : (p : Prop) → Contains free p → note p ≡ None
  pub equivalent : (p r : Prop) → note p ≡ Some r → AreEquivalent tbox p r
  pub alike : (p q r : Prop) → note p ≡ Some r → AreEquivalent tbox p q → note q ≡ Some r
  pub all_ones : (p : Prop) → Contains (all_ends tbox) p → Contains free p ⊎ ((r : Prop) × (note p ≡ Some r))

-- two properties have one chief exactly where they are equivalent
abbrev pub TellsComponents : List Inclusion → (Prop → Prop) → Type 0
TellsComponents tbox f = (p q : Prop) → (f p ≡ f q) ↔ AreEquivalent tbox p q

-- the chief that a property has noted after a root was noted for the list
abbrev pub noted : Prop → List Prop → Prop → Option Prop → Option Prop
noted root props p before = if is_in p props then Some root else before

-- a root was noted as the chief of the properties of the list
abbrev pub AreNoted : Prop → List Prop → List (Prop × Prop) → List (Prop × Prop) → Type 0
AreNoted root props old new = (p : Prop) → noted_chief new p ≡ noted root props p (noted_chief old p)

-- a property is free after those of the list were closed
abbrev pub kept : List Prop → Prop → Bool → Bool
kept props p before = if is_in p props then false else before

-- the properties of the list were taken from the free ones
abbrev pub AreClosed : List Prop → List Prop → List Prop → Type 0
AreClosed props old new = (p : Prop) → is_in p new ≡ kept props p (is_in p old)

-- the set has exactly what is reached from the start within the free ones
abbrev pub HasReached : (Prop → List Prop) → List Prop → Prop → List Prop → Type 0
HasReached next free start set = (p : Prop) → Contains set p ↔ Reaches (Inside free next) start p

-- the properties of one step: those that are reached from the root within the free ones downwards, and within these upwards
abbrev pub IsAround : (Prop → List Prop) → (Prop → List Prop) → List Prop → Prop → List Prop → Type 0
IsAround below above free root same =
    (under : List Prop) × (HasReached below free root under × HasReached above under root same)

-- a root is noted as the chief of the properties around it, which are then no longer free
pub record SettlesBy
    (below above : Prop → List Prop) (free : List Prop) (before : Prop → Option Prop) (root : Prop) (left : List Prop)
    (after : Prop → Option Prop) : Type 0 where
  pub same : List Prop
  pub around : IsAround below above free root same
  pub inside : (p : Prop) → Contains same p → after p ≡ Some root
  pub outside : (p : Prop) → (Contains same p → ⊥) → after p ≡ before p
  pub decided : (p : Prop) → Contains same p ⊎ (Contains same p → ⊥)
  pub still_free : (p : Prop) → Contains left p ↔ (Contains free p × (Contains same p → ⊥))

-- the same of groups and of notes
abbrev pub Settles : Groups Prop → Groups Prop → List Prop → List (Prop × Prop) → Prop → List Prop → List (Prop × Prop) → Type 0
Settles below above free before root left after = SettlesBy (next_in below) (next_in above) free (noted_chief before) root left (noted_chief after)
