-- Atoms as they are read: each behind the number and the variables of those before it.
use Rattle.std.specs.Prelude.{ℕ, suc, if◌then◌else◌, List, [], ◌∷◌, ◌++◌, Option, Some, None, codes}
use Rattle.std.specs.Str.{bytes_eq}
use Rattle.mast_tree.specs.declared.item.Item.{Item}
use Rattle.mast_tree.specs.Judgements.{Judgement}
use Rattle.mast_tree.specs.Said.{Said, node}
use Rattle.mast_tree.specs.Pages.{Page, says}
use Rattle.mast_constr.specs.declared.variables.Sort.{Sort}
use Rattle.mast_constr.specs.declared.variables.Sort.TheVariants.{Object, Value}
use Rattle.mast_constr.specs.Denials.{Dates, atom_judged}
use Rattle.mast_constr.specs.Variables.{Variables, variable, sort_of}

-- a variable that stands keeps its number, and a new one has the next
abbrev pub joined : Sort → List ℕ → Option Sort → Variables → Variables
joined sort x None known = known ++ (x, sort) ∷ []
joined sort x (Some other) known = known

-- the variables once this stands in a place of the sort
abbrev pub placed : Sort → Option (List ℕ) → Variables → Variables
placed sort None known = known
placed sort (Some x) known = joined sort x (sort_of x known) known

-- the variables once an item stood in the place of an object
abbrev pub with_object : Page → Variables → Item → Variables
with_object page known item = placed Object (variable (says page item)) known

-- the same of a value
abbrev pub with_value : Page → Variables → Item → Variables
with_value page known item = placed Value (variable (says page item)) known

-- the variables once the arguments of an atom stood: its first item is an IRI
abbrev pub with_arguments : List ℕ → Page → Variables → List Item → Variables
with_arguments word page known (class ∷ object ∷ []) = with_object page known object
with_arguments word page known (property ∷ from ∷ to ∷ []) =
    if bytes_eq word (codes "Attr") then with_value page (with_object page known from) to
    else with_object page (with_object page known from) to
with_arguments word page known _ = known

-- the variables once the item of an atom stood
abbrev pub with_atom : Page → Variables → Said → Variables
with_atom page known (node word at items) = with_arguments word page known items
with_atom page known other = known

-- the variables of atoms, behind those that stand before
abbrev pub with_atoms : Page → Variables → List Item → Variables
with_atoms page known [] = known
with_atoms page known (item ∷ items) = with_atoms page (with_atom page known (says page item)) items

-- atoms, in order, from a number on
abbrev pub atoms_from : Dates → Page → ℕ → Variables → List Item → List Judgement
atoms_from dates page number known [] = []
atoms_from dates page number known (item ∷ items) =
    atom_judged dates page number known item ++ atoms_from dates page (suc number) (with_atom page known (says page item)) items
