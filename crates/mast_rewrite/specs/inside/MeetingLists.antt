-- The meetings of the atoms of two lists.
use Rattle.std.specs.Prelude.{◌≡◌, ℕ, List, [], ◌∷◌, ◌++◌, ◌<◌, ◌⊎◌, Option, Some, None, Contains}
use Rattle.mast_cq.specs.declared.atom.Arg.{Arg}
use Rattle.mast_cq.specs.declared.atom.Atom.{Atom}
use Rattle.mast_cq.specs.declared.atom.Atom.TheVariants.{Class, Role, Attr}
use Rattle.mast_cq.specs.declared.unifier.Met.{Met}
use Rattle.mast_cq.specs.Meetings.{replacement_of}
use Rattle.mast_cq.specs.Unification.{Meeting, meeting}

-- the meeting that a value of the program stands for
abbrev pub met_value : Met → Meeting
met_value m = record { replacement = replacement_of m.replacement; atom = m.atom }

-- the meeting, if there is one, before the others
abbrev pub found : Option Meeting → List Meeting → List Meeting
found None ms = ms
found (Some m) ms = m ∷ ms

-- the meetings of an atom with each of a list
abbrev pub meetings_with : List Arg → Atom → List Atom → List Meeting
meetings_with answer l [] = []
meetings_with answer l (r ∷ rs) = found (meeting answer l r) (meetings_with answer l rs)

-- the meetings of each atom of a list with each of another
abbrev pub all_meetings : List Arg → List Atom → List Atom → List Meeting
all_meetings answer [] rs = []
all_meetings answer (l ∷ ls) rs = meetings_with answer l rs ++ all_meetings answer ls rs

-- the place of an atom's kind in the order of kinds
abbrev pub kind_place : Atom → ℕ
kind_place (Class a x) = 0
kind_place (Role a x y) = 1
kind_place (Attr a x y) = 2

-- the number of its name
abbrev pub name_number : Atom → ℕ
name_number (Class a x) = a.0
name_number (Role a x y) = a.0
name_number (Attr a x y) = a.0

-- the first atom has an earlier name: an earlier kind, or a lesser number
abbrev pub IsEarlier : Atom → Atom → Type 0
IsEarlier g h = (kind_place g < kind_place h) ⊎ ((kind_place g ≡ kind_place h) × (name_number g < name_number h))

-- the atoms have one name
abbrev pub HaveOneName : Atom → Atom → Type 0
HaveOneName g h = (kind_place g ≡ kind_place h) × (name_number g ≡ name_number h)

-- each atom of the list has an earlier name
abbrev pub AllEarlier : List Atom → Atom → Type 0
AllEarlier gs h = (g : Atom) → Contains gs g → IsEarlier g h

-- none has
abbrev pub NoneEarlier : List Atom → Atom → Type 0
NoneEarlier gs h = (g : Atom) → Contains gs g → IsEarlier g h → ⊥
