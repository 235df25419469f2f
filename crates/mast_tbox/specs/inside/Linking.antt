-- The chiefs of names: each stands for those that inclusions link. What the normal inclusions are looked up by.
use Rattle.std.specs.Prelude.{◌≡◌, List, Option, Some, None, Bool, cond, if◌then◌else◌, Contains, ◌↔◌}
use Rattle.std.specs.List.{list_any}
use Rattle.std.specs.Map.{lookup}
use Rattle.mast_tbox.specs.declared.expression.Basic.{Basic}
use Rattle.mast_tbox.specs.declared.axiom.Inclusion.{Inclusion}
use Rattle.mast_tbox.specs.declared.expression.Prop.{Prop}
use Rattle.mast_tbox.specs.declared.groups.Groups.{Groups}
use Rattle.mast_tbox.specs.Expressions.{same_basic, same_prop}
use Rattle.mast_tbox.specs.Inclusions.{directly_below}
use Rattle.mast_tbox.specs.Lists.{Reaches}
use Rattle.mast_tbox.specs.NameLinks.{IsLinked}
use Rattle.mast_tbox.specs.inside.Groups.{found}
use Rattle.mast_tbox.specs.inside.StepLists.{leading_to}

-- the chief that is noted for the name
abbrev pub noted_for : List (Basic × Basic) → Basic → Option Basic
noted_for notes n = lookup (same_basic n) notes

-- the chief that is noted, or else the name itself
abbrev pub or_itself : Option Basic → Basic → Basic
or_itself None n = n
or_itself (Some r) n = r

-- the chief of a name; one that has none noted is its own
abbrev pub name_chief : List (Basic × Basic) → Basic → Basic
name_chief notes n = or_itself (noted_for notes n) n

-- the chief of a name was noted
abbrev pub IsNameNoted : Basic → Basic → List (Basic × Basic) → List (Basic × Basic) → Type 0
IsNameNoted name chief old new = (n : Basic) → noted_for new n ≡ cond (same_basic name n) (Some chief) (noted_for old n)

-- the name stands in the list
abbrev pub is_among : Basic → List Basic → Bool
is_among n names = list_any (same_basic n) names

-- the chief that a name has noted after a root was noted for those of the list
abbrev pub with_root : Basic → List Basic → Basic → Option Basic → Option Basic
with_root root names n before = if is_among n names then Some root else before

-- a root was noted as the chief of the names of the list
abbrev pub AreNamesNoted : Basic → List Basic → List (Basic × Basic) → List (Basic × Basic) → Type 0
AreNamesNoted root names old new = (n : Basic) → noted_for new n ≡ with_root root names n (noted_for old n)

-- groups lead from the one name to the other
abbrev pub LeadsOn : Groups Basic → Basic → Basic → Type 0
LeadsOn groups x y = Contains (found same_basic groups x) y

-- where groups lead from one name to another they lead back
abbrev pub GoBothWays : Groups Basic → Type 0
GoBothWays groups = (x y : Basic) → LeadsOn groups x y → LeadsOn groups y x

-- a name with a chief is reached from it, and all that are reached from the name have it
pub record AreSettled (groups : Groups Basic) (note : Basic → Option Basic) : Type 0 where
  pub reached : (n r : Basic) → note n ≡ Some r → Reaches (LeadsOn groups) r n
  pub alike : (n m r : Basic) → note n ≡ Some r → Reaches (LeadsOn groups) n m → note m ≡ Some r

-- the name has a chief, each that had one has kept it, and all are settled
pub record IsSettled (groups : Groups Basic) (old : Basic → Option Basic) (root : Basic) (new : Basic → Option Basic) : Type 0 where
  pub settled : AreSettled groups new
  pub has : (r : Basic) × (new root ≡ Some r)
  pub kept : (n r : Basic) → old n ≡ Some r → new n ≡ Some r

-- two names have one chief exactly where a list of links leads from one to the other
abbrev pub TellsLinked : List Inclusion → (Basic → Basic) → Type 0
TellsLinked tbox f = (x y : Basic) → (f x ≡ f y) ↔ Reaches (IsLinked tbox) x y

-- the groups are the indices of inclusions by their right sides, and the chiefs tell which names they link
pub record IsLookup (tbox : List Inclusion) (concepts : Groups Basic) (props : Groups Prop) (chiefs : List (Basic × Basic)) : Type 0 where
  pub concepts_below : (b : Basic) → found same_basic concepts b ≡ directly_below tbox b
  pub props_below : (p : Prop) → found same_prop props p ≡ leading_to tbox p
  pub linked : TellsLinked tbox (name_chief chiefs)
