-- Maps by the names of their heads, and the sources that members have by them.
use Rattle.std.specs.Prelude.{◌≡◌, ◌<◌, ℕ, List, [], ◌∷◌, ◌++◌, Bool, if◌then◌else◌, length, slice_get, Some}
use Rattle.std.specs.List.{AllByRecursion}
use Rattle.mast_terms.specs.declared.value.Value.{Value}
use Rattle.mast_tables.specs.declared.declaration.TableDecl.{TableDecl}
use Rattle.mast_cq.specs.declared.atom.Atom.{Atom}
use Rattle.mast_cq.specs.Queries.{In}
use Rattle.mast_mapping.specs.declared.split_map.SplitMap.{SplitMap}
use Rattle.mast_unfold.specs.contracts.forms.KindedNamePartialEq.TheImpl as name_eq
use Rattle.mast_unfold.specs.declared.forms.Entry.{Entry}
use Rattle.mast_unfold.specs.declared.forms.KindedName.{KindedName}
use Rattle.mast_unfold.specs.declared.groups.Groups.{Groups}
use Rattle.mast_unfold.specs.declared.source.Source.{Source}
use Rattle.mast_unfold.specs.inside.Forms.{IsForm, head_name, atom_name, fits}
use Rattle.mast_unfold.specs.inside.Lookups.{found}

-- whether two names are one
abbrev pub same_name : KindedName → KindedName → Bool
same_name = name_eq.ghosts.eq

-- the entry is of one of the first maps, whose head has the name, with the head's form
pub record IsEntry (tables : List TableDecl) (maps : List SplitMap) (count : ℕ) (name : KindedName) (entry : Entry) : Type 0 where
  pub map : SplitMap
  pub stands : slice_get maps entry.map ≡ Some map
  pub below : entry.map < count
  pub named : head_name map.head ≡ name
  pub form : IsForm tables map entry.form

-- some entry is of the map with this number
pub record HasEntry (number : ℕ) (entries : List Entry) : Type 0 where
  pub entry : Entry
  pub among : In entry entries
  pub is : entry.map ≡ number

-- each entry's map comes before those of all that stand after it
abbrev pub Increase : List Entry → Type 0
Increase [] = Unit {0}
Increase (e ∷ es) = AllByRecursion (λ f. e.map < f.map) es × Increase es

-- for each name, the entries of those of the first maps whose heads have it, in order
pub record AreEntries (tables : List TableDecl) (maps : List SplitMap) (count : ℕ) (of : KindedName → List Entry) : Type 0 where
  pub sound : (name : KindedName) (entry : Entry) → In entry (of name) → IsEntry tables maps count name entry
  pub complete : (number : ℕ) (map : SplitMap) → slice_get maps number ≡ Some map → number < count → HasEntry number (of (head_name map.head))
  pub ordered : (name : KindedName) → Increase (of name)

-- the index of all maps
abbrev pub IsIndex : List TableDecl → List SplitMap → Groups KindedName Entry → Type 0
IsIndex tables maps index = AreEntries tables maps (length maps) (found same_name index)

-- the source of a member by an entry
abbrev pub source_of : Atom → Entry → Source
source_of member entry = record { member = member; map = entry.map }

-- the sources that a member has by entries
abbrev pub sources_of_member : List Value → Atom → List Entry → List Source
sources_of_member constants member [] = []
sources_of_member constants member (e ∷ es) =
    if fits constants member e.form then source_of member e ∷ sources_of_member constants member es
    else sources_of_member constants member es

-- the sources that members have, one after the other
abbrev pub sources_of_members : List Value → (KindedName → List Entry) → List Atom → List Source
sources_of_members constants of [] = []
sources_of_members constants of (g ∷ gs) = sources_of_member constants g (of (atom_name g)) ++ sources_of_members constants of gs
