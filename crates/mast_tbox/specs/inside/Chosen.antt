-- Sets of atoms and properties, and notes of chiefs, as lists.
use Rattle.std.specs.Prelude.{◌≡◌, List, Option, Some, None, Bool, cond}
use Rattle.std.specs.List.{list_any}
use Rattle.std.specs.Map.{lookup}
use Rattle.indexmap.specs.IndexSet.{IndexSet, insert_all}
use Rattle.mast_tbox.specs.declared.expression.Prop.{Prop}
use Rattle.mast_tbox.specs.Expressions.{same_prop}

-- the elements were added to the set one after another
abbrev pub AreAdded : {X S : Type 0} → (X → X → Bool) → List X → IndexSet X S → IndexSet X S → Type 0
AreAdded eq xs old new = new.keys ≡ insert_all eq old.keys xs

-- the property stands in the list
abbrev pub is_in : Prop → List Prop → Bool
is_in p ps = list_any (same_prop p) ps

-- the chief that is noted for the property
abbrev pub noted_chief : List (Prop × Prop) → Prop → Option Prop
noted_chief notes p = lookup (same_prop p) notes

-- the chief of a property was noted
abbrev pub IsNoted : Prop → Prop → List (Prop × Prop) → List (Prop × Prop) → Type 0
IsNoted prop chief old new = (p : Prop) → noted_chief new p ≡ cond (same_prop prop p) (Some chief) (noted_chief old p)

-- the chief that is noted, or else the property itself
abbrev pub chosen : Option Prop → Prop → Prop
chosen None p = p
chosen (Some r) p = r

-- the chief of a property; one that has none noted is its own
abbrev pub chief_of : List (Prop × Prop) → Prop → Prop
chief_of notes p = chosen (noted_chief notes p) p
