-- The atoms of a denial have one sort for each argument, and their names and constants are those of the vocabulary.
use Rattle.std.proofs.Common.{◌≡◌, inl, inr, sym, ap, ◌∙◌, subst, ℕ, List, [], ◌∷◌}
use Rattle.std.specs.Prelude.{Option, Some, slice_get}
use Rattle.mast_cq.specs.declared.atom.Arg.{Arg}
use Rattle.mast_cq.specs.declared.atom.Arg.TheVariants as arg
use Rattle.mast_cq.specs.declared.atom.Atom.{Atom}
use Rattle.mast_cq.specs.declared.atom.Atom.TheVariants as atom
use Rattle.mast_cq.specs.Queries.{In}
use Rattle.mast_cq.specs.Sorts.{objects_of, values_of, of_all, Clashes, EachHasOneSort}
use Rattle.mast_terms.specs.declared.name.Name.{Name}
use Rattle.mast_terms.specs.declared.value.Value.{Value as AValue}
use Rattle.mast_terms.specs.Vocabularies.{Lists}
use Rattle.mast_tbox.specs.Lists.{AreEach}
use Rattle.mast_tree.specs.declared.item.Item.{Item}
use Rattle.mast_tree.specs.Pages.{Page, says}
use Rattle.mast_constr.specs.declared.variables.Sort.{Sort}
use Rattle.mast_constr.specs.declared.variables.Sort.TheVariants.{Object, Value}
use Rattle.mast_constr.specs.Denials.{Dates, IsConstant, IsValue, IsClassOf, IsRoleOf, IsAttrAtomOf, IsAtomOf, IsAtom}
use Rattle.mast_constr.specs.Variables.{Variables, variable, IsVariable}

-- the variable of a number has this sort
abbrev HasSort : Variables → Sort → ℕ → Type 0
HasSort known sort n = (x : List ℕ) × (slice_get known n ≡ Some (x, sort))

-- an argument fits an object's place
abbrev FitsObject : Variables → Arg → Type 0
FitsObject known arg.Blank = ⊥
FitsObject known (arg.Var n) = HasSort known Object n
FitsObject known (arg.Constant n) = ⊥

-- an argument fits a value's place
abbrev FitsValue : Variables → Arg → Type 0
FitsValue known arg.Blank = ⊥
FitsValue known (arg.Var n) = HasSort known Value n
FitsValue known (arg.Constant n) = Unit {0}

object_fits : (known : Variables) (found : Option (List ℕ)) (x : Arg) → IsVariable Object known found x → FitsObject known x
object_fits known found arg.Blank h = h
object_fits known found (arg.Var n) h = (h.0, h.2)
object_fits known found (arg.Constant n) h = h

variable_fits : (known : Variables) (found : Option (List ℕ)) (x : Arg) → IsVariable Value known found x → FitsValue known x
variable_fits known found arg.Blank h = h
variable_fits known found (arg.Var n) h = (h.0, h.2)
variable_fits known found (arg.Constant n) h = absurd h

constant_fits : (lists : Lists) (known : Variables) (value : AValue) (x : Arg) → IsConstant lists value x → FitsValue known x
constant_fits lists known value arg.Blank h = h
constant_fits lists known value (arg.Var n) h = absurd h
constant_fits lists known value (arg.Constant n) h = tt

value_fits : (dates : Dates) (lists : Lists) (page : Page) (known : Variables) (item : Item) (x : Arg) → IsValue dates lists page known item x → FitsValue known x
value_fits dates lists page known item x (inl c) = constant_fits lists known c.0 x c.2
value_fits dates lists page known item x (inr v) = variable_fits known (variable (says page item)) x v

-- each argument in an object's place fits, and each in a value's place
abbrev AtomFits : Variables → Atom → Type 0
AtomFits known (atom.Class a x) = FitsObject known x
AtomFits known (atom.Role p x y) = FitsObject known x × FitsObject known y
AtomFits known (atom.Attr u x y) = FitsObject known x × FitsValue known y

class_fits : (lists : Lists) (page : Page) (known : Variables) (items : List Item) (a : Name) (x : Arg) → IsClassOf lists page known items a x → AtomFits known (atom.Class a x)
class_fits lists page known [] a x h = absurd h
class_fits lists page known (i ∷ []) a x h = absurd h
class_fits lists page known (i ∷ j ∷ []) a x h = object_fits known (variable (says page j)) x h.1
class_fits lists page known (i ∷ j ∷ k ∷ ks) a x h = absurd h

role_fits : (lists : Lists) (page : Page) (known : Variables) (items : List Item) (p : Name) (x y : Arg) → IsRoleOf lists page known items p x y → AtomFits known (atom.Role p x y)
role_fits lists page known [] p x y h = absurd h
role_fits lists page known (i ∷ []) p x y h = absurd h
role_fits lists page known (i ∷ j ∷ []) p x y h = absurd h
role_fits lists page known (i ∷ j ∷ k ∷ []) p x y h = (object_fits known (variable (says page j)) x h.1, object_fits known (variable (says page k)) y h.2)
role_fits lists page known (i ∷ j ∷ k ∷ l ∷ ls) p x y h = absurd h

filler_fits : (dates : Dates) (lists : Lists) (page : Page) (known : Variables) (items : List Item) (u : Name) (x y : Arg) → IsAttrAtomOf dates lists page known items u x y → AtomFits known (atom.Attr u x y)
filler_fits dates lists page known [] u x y h = absurd h
filler_fits dates lists page known (i ∷ []) u x y h = absurd h
filler_fits dates lists page known (i ∷ j ∷ []) u x y h = absurd h
filler_fits dates lists page known (i ∷ j ∷ k ∷ []) u x y h = (object_fits known (variable (says page j)) x h.1, value_fits dates lists page known k y h.2)
filler_fits dates lists page known (i ∷ j ∷ k ∷ l ∷ ls) u x y h = absurd h

atom_fits : (dates : Dates) (lists : Lists) (page : Page) (known : Variables) (items : List Item) (g : Atom) → IsAtomOf dates lists page known items g → AtomFits known g
atom_fits dates lists page known items (atom.Class a x) h = class_fits lists page known items a x h
atom_fits dates lists page known items (atom.Role p x y) h = role_fits lists page known items p x y h
atom_fits dates lists page known items (atom.Attr u x y) h = filler_fits dates lists page known items u x y h

-- all atoms fit
abbrev AllFit : Variables → List Atom → Type 0
AllFit known [] = Unit {0}
AllFit known (g ∷ gs) = AtomFits known g × AllFit known gs

all_fit : (dates : Dates) (lists : Lists) (page : Page) (known : Variables) (items : List Item) (atoms : List Atom) → AreEach (IsAtom dates lists page known) items atoms → AllFit known atoms
all_fit dates lists page known [] [] h = tt
all_fit dates lists page known [] (g ∷ gs) h = absurd h
all_fit dates lists page known (i ∷ is) [] h = absurd h
all_fit dates lists page known (i ∷ is) (g ∷ gs) h = (atom_fits dates lists page known h.0.0 g h.0.2, all_fit dates lists page known is gs h.1)

in_object : (known : Variables) (atoms : List Atom) (x : Arg) → AllFit known atoms → In x (of_all objects_of atoms) → FitsObject known x
in_object known [] x f h = absurd h
in_object known (atom.Class a y ∷ gs) x f (inl e) = subst (FitsObject known) (sym e) f.0
in_object known (atom.Class a y ∷ gs) x f (inr h) = in_object known gs x f.1 h
in_object known (atom.Role p y z ∷ gs) x f (inl e) = subst (FitsObject known) (sym e) f.0.0
in_object known (atom.Role p y z ∷ gs) x f (inr (inl e)) = subst (FitsObject known) (sym e) f.0.1
in_object known (atom.Role p y z ∷ gs) x f (inr (inr h)) = in_object known gs x f.1 h
in_object known (atom.Attr u y z ∷ gs) x f (inl e) = subst (FitsObject known) (sym e) f.0.0
in_object known (atom.Attr u y z ∷ gs) x f (inr h) = in_object known gs x f.1 h

in_value : (known : Variables) (atoms : List Atom) (x : Arg) → AllFit known atoms → In x (of_all values_of atoms) → FitsValue known x
in_value known [] x f h = absurd h
in_value known (atom.Class a y ∷ gs) x f h = in_value known gs x f.1 h
in_value known (atom.Role p y z ∷ gs) x f h = in_value known gs x f.1 h
in_value known (atom.Attr u y z ∷ gs) x f (inl e) = subst (FitsValue known) (sym e) f.0.1
in_value known (atom.Attr u y z ∷ gs) x f (inr h) = in_value known gs x f.1 h

pair_in : (p q : List ℕ × Sort) → ◌≡◌ {A = Option (List ℕ × Sort)} (Some p) (Some q) → p ≡ q
pair_in p q e = cc

object_no_value : Object ≡ Value → ⊥
object_no_value e = cc

two_sorts : (known : Variables) (n : ℕ) → HasSort known Object n → HasSort known Value n → ⊥
two_sorts known n a b = object_no_value (ap (λ (p : List ℕ × Sort). p.1) (pair_in (a.0, Object) (b.0, Value) (sym a.1 ∙ b.1)))

no_clash : (known : Variables) (atoms : List Atom) → AllFit known atoms → (x : Arg) → Clashes atoms x → ⊥
no_clash known atoms f arg.Blank h = h
no_clash known atoms f (arg.Var n) h = two_sorts known n (in_object known atoms (arg.Var n) f h.0) (in_value known atoms (arg.Var n) f h.1)
no_clash known atoms f (arg.Constant n) h = in_object known atoms (arg.Constant n) f h

-- each argument of the atoms of a denial has one sort
pub denied_sorts : (dates : Dates) (lists : Lists) (page : Page) (known : Variables) (items : List Item) (atoms : List Atom)
    → AreEach (IsAtom dates lists page known) items atoms → EachHasOneSort atoms
denied_sorts dates lists page known items atoms h x stands clash = no_clash known atoms (all_fit dates lists page known items atoms h) x clash
