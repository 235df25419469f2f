-- Variables keep their numbers while others are added.
use Rattle.std.proofs.Common.{refl, sym, ap, ◌∙◌, ℕ, Bool, true, false, if◌then◌else◌, List, [], ◌∷◌, ◌++◌, append_assoc}
use Rattle.std.proofs.lemmas.List.{append-nil}
use Rattle.std.specs.Prelude.{Option, Some, None, codes}
use Rattle.std.specs.Str.{bytes_eq}
use Rattle.mast_cq.specs.declared.atom.Arg.{Arg}
use Rattle.mast_cq.specs.declared.atom.Arg.TheVariants as arg
use Rattle.mast_tree.specs.declared.item.Item.{Item}
use Rattle.mast_tree.specs.Growing.{BeginsWith}
use Rattle.mast_tree.specs.Said.{Said, name, iri, text, tagged, binding, node}
use Rattle.mast_tree.proofs.GrowingLemmas.{get_grows}
use Rattle.mast_tree.specs.Pages.{Page, says}
use Rattle.mast_constr.specs.declared.variables.Sort.{Sort}
use Rattle.mast_constr.specs.declared.variables.Sort.TheVariants.{Object, Value}
use Rattle.mast_constr.specs.Variables.{Variables, variable, sort_of, IsVariable}
use Rattle.mast_constr.specs.inside.Atoms.{joined, placed, with_arguments, with_atom, with_atoms}

-- a list begins with itself
pub begins_here : (known : Variables) → BeginsWith known known
begins_here known = ([], sym (append-nil known))

-- what begins with what begins with a list begins with it
pub begins_then : (a b c : Variables) → BeginsWith c b → BeginsWith b a → BeginsWith c a
begins_then a b c k h = (h.0 ++ k.0, k.1 ∙ (ap (λ xs. xs ++ k.0) h.1 ∙ append_assoc a h.0 k.0))

joined_begins : (sort : Sort) (x : List ℕ) (found : Option Sort) (known : Variables) → BeginsWith (joined sort x found known) known
joined_begins sort x None known = ((x, sort) ∷ [], refl)
joined_begins sort x (Some other) known = begins_here known

-- once a variable stood in a place
pub placed_begins : (sort : Sort) (found : Option (List ℕ)) (known : Variables) → BeginsWith (placed sort found known) known
placed_begins sort None known = begins_here known
placed_begins sort (Some x) known = joined_begins sort x (sort_of x known) known

two_begin : (first second : Sort) (a b : Option (List ℕ)) (known : Variables) → BeginsWith (placed second b (placed first a known)) known
two_begin first second a b known =
    begins_then known (placed first a known) (placed second b (placed first a known)) (placed_begins second b (placed first a known)) (placed_begins first a known)

either_begins : (is : Bool) (a b : Option (List ℕ)) (known : Variables)
    → BeginsWith (if is then placed Value b (placed Object a known) else placed Object b (placed Object a known)) known
either_begins true a b known = two_begin Object Value a b known
either_begins false a b known = two_begin Object Object a b known

arguments_begin : (word : List ℕ) (page : Page) (known : Variables) (items : List Item) → BeginsWith (with_arguments word page known items) known
arguments_begin word page known [] = begins_here known
arguments_begin word page known (a ∷ []) = begins_here known
arguments_begin word page known (class ∷ object ∷ []) = placed_begins Object (variable (says page object)) known
arguments_begin word page known (property ∷ from ∷ to ∷ []) = either_begins (bytes_eq word (codes "Attr")) (variable (says page from)) (variable (says page to)) known
arguments_begin word page known (a ∷ b ∷ c ∷ d ∷ more) = begins_here known

-- once an atom stood
pub atom_begins : (page : Page) (known : Variables) (what : Said) → BeginsWith (with_atom page known what) known
atom_begins page known (name word at) = begins_here known
atom_begins page known (iri word at) = begins_here known
atom_begins page known (text chars at) = begins_here known
atom_begins page known (tagged at) = begins_here known
atom_begins page known (binding at) = begins_here known
atom_begins page known (node word at items) = arguments_begin word page known items

-- once atoms stood
pub atoms_begin : (page : Page) (known : Variables) (items : List Item) → BeginsWith (with_atoms page known items) known
atoms_begin page known [] = begins_here known
atoms_begin page known (item ∷ items) =
    begins_then known (with_atom page known (says page item)) (with_atoms page (with_atom page known (says page item)) items)
    (atoms_begin page (with_atom page known (says page item)) items) (atom_begins page known (says page item))

-- a variable keeps its number and its sort
pub variable_grows : (sort : Sort) (new old : Variables) (found : Option (List ℕ)) (x : Arg)
    → BeginsWith new old → IsVariable sort old found x → IsVariable sort new found x
variable_grows sort new old found arg.Blank b h = h
variable_grows sort new old found (arg.Var n) b h = (h.0, h.1, get_grows new old n (h.0, sort) b h.2)
variable_grows sort new old found (arg.Constant n) b h = h
