-- What is judged behind places asks for the sort of a variable's first place alone: so the variables of places serve as well as these.
use Rattle.std.proofs.Common.{◌≡◌, refl, sym, ap, ◌∙◌, ℕ, Bool, true, false, if◌then◌else◌, List, [], ◌∷◌, ◌++◌, append-nil}
use Rattle.std.specs.Prelude.{Option, Some, None, codes}
use Rattle.std.specs.Option.{option_or}
use Rattle.std.specs.Str.{bytes_eq}
use Rattle.std.proofs.lemmas.Slice.Eq.{bytes_eq-Decides}
use Rattle.mast_terms.specs.declared.name.NameKind.TheVariants as kinds
use Rattle.mast_tbox.specs.Lists.{others, once}
use Rattle.mast_tree.specs.declared.item.Item.{Item}
use Rattle.mast_tree.specs.declared.shape.ShapeKind.TheVariants.{Shape}
use Rattle.mast_tree.specs.Judgements.{Judgement, breaks}
use Rattle.mast_tree.specs.Pages.{Page, says}
use Rattle.mast_tree.specs.Said.{Said, name, iri, text, tagged, binding, node, line}
use Rattle.mast_expressions.specs.Judged.{named_judged, class_judged, attr_judged}
use Rattle.mast_constr.specs.declared.variables.Sort.{Sort}
use Rattle.mast_constr.specs.declared.variables.Sort.TheVariants.{Object, Value}
use Rattle.mast_constr.specs.Denials.{Dates, object_judged, object_place, value_said, value_judged, unless_many, class_atom, pair_judged, role_atom, filler_judged, attr_atom, atom_said, atom_judged}
use Rattle.mast_constr.specs.Variables.{Variables, variable, place, same_name, sort_of, sort_judged, variable_judged}
use Rattle.mast_constr.specs.inside.Atoms.{joined, placed, with_object}
use Rattle.mast_constr.proofs.PlaceLemmas.{sort_others}

-- each variable has the same sort at its first place among these as among those
abbrev pub AreAlike : Variables → Variables → Type 0
AreAlike first second = (x : List ℕ) → sort_of x first ≡ sort_of x second

or_none : (found : Option Sort) → option_or found None ≡ found
or_none None = refl
or_none (Some s) = refl

append_step : (b : Bool) (s : Sort) (found later whole : Option Sort) → whole ≡ option_or found later
    → (if b then Some s else whole) ≡ option_or (if b then Some s else found) later
append_step true s found later whole h = refl
append_step false s found later whole h = h

sort_append : (x : List ℕ) (vs ws : Variables) → sort_of x (vs ++ ws) ≡ option_or (sort_of x vs) (sort_of x ws)
sort_append x [] ws = refl
sort_append x (v ∷ vs) ws = append_step (bytes_eq x v.0) v.1 (sort_of x vs) (sort_of x ws) (sort_of x (vs ++ ws)) (sort_append x vs ws)

-- a place of a variable that stands adds nothing
stands : (x y : List ℕ) (sort other : Sort) (known : Variables) (b : Bool) → bytes_eq x y ≡ b → sort_of y known ≡ Some other
    → option_or (sort_of x known) (if b then Some sort else None) ≡ sort_of x known
stands x y sort other known false e h = or_none (sort_of x known)
stands x y sort other known true e h =
    let here = ap (λ z. sort_of z known) ((bytes_eq-Decides x y).0 e) ∙ h in
    ap (λ found. option_or found (Some sort)) here ∙ sym here

sort_joined : (x y : List ℕ) (sort : Sort) (known : Variables) (found : Option Sort) → sort_of y known ≡ found
    → sort_of x (joined sort y found known) ≡ sort_of x (known ++ (y, sort) ∷ [])
sort_joined x y sort known None e = refl
sort_joined x y sort known (Some other) e =
    sym (sort_append x known ((y, sort) ∷ []) ∙ stands x y sort other known (bytes_eq x y) refl e)

sort_placed : (sort : Sort) (found : Option (List ℕ)) (known : Variables) → AreAlike (placed sort found known) (known ++ place sort found)
sort_placed sort None known x = ap (sort_of x) (sym (append-nil known))
sort_placed sort (Some y) known x = sort_joined x y sort known (sort_of y known) refl

once_step : (x : List ℕ) (q : List ℕ × Sort) (qs : Variables) (b : Bool) → bytes_eq x q.0 ≡ b → sort_of x (once same_name qs) ≡ sort_of x qs
    → (if b then Some q.1 else sort_of x (others same_name q (once same_name qs))) ≡ (if b then Some q.1 else sort_of x qs)
once_step x q qs true e more = refl
once_step x q qs false e more = sort_others x q (once same_name qs) e ∙ more

-- the variables of places are like them
pub once_alike : (places : Variables) → AreAlike (once same_name places) places
once_alike [] x = refl
once_alike (q ∷ qs) x = once_step x q qs (bytes_eq x q.0) refl (once_alike qs x)

variable_alike : (sort : Sort) (first second : Variables) (found : Option (List ℕ)) (at : ℕ) → AreAlike first second
    → variable_judged sort first found at ≡ variable_judged sort second found at
variable_alike sort first second None at like = refl
variable_alike sort first second (Some x) at like = ap (λ s. sort_judged sort s at) (like x)

object_alike : (page : Page) (first second : Variables) (item : Item) → AreAlike first second → object_judged page first item ≡ object_judged page second item
object_alike page first second item like = variable_alike Object first second (variable (says page item)) (line (says page item)) like

value_alike : (dates : Dates) (page : Page) (first second : Variables) (what : Said) → AreAlike first second
    → value_said dates page first what ≡ value_said dates page second what
value_alike dates page first second (name word at) like = variable_alike Value first second (variable (name word at)) at like
value_alike dates page first second (iri word at) like = refl
value_alike dates page first second (text chars at) like = refl
value_alike dates page first second (tagged at) like = refl
value_alike dates page first second (binding at) like = refl
value_alike dates page first second (node word at items) like = refl

-- an object, behind a variable that the reader has placed
pub object_behind : (page : Page) (known : Variables) (from to : Item)
    → object_judged page (with_object page known from) to ≡ object_judged page (known ++ object_place page from) to
object_behind page known from to =
    object_alike page (with_object page known from) (known ++ object_place page from) to (sort_placed Object (variable (says page from)) known)

-- a value, behind the same
pub value_behind : (dates : Dates) (page : Page) (known : Variables) (from value : Item)
    → value_judged dates page (with_object page known from) value ≡ value_judged dates page (known ++ object_place page from) value
value_behind dates page known from value =
    value_alike dates page (with_object page known from) (known ++ object_place page from) (says page value) (sort_placed Object (variable (says page from)) known)

more_alike : (first second more : Variables) → AreAlike first second → AreAlike (first ++ more) (second ++ more)
more_alike first second more like x =
    sort_append x first more ∙ (ap (λ s. option_or s (sort_of x more)) (like x) ∙ sym (sort_append x second more))

class_alike : (page : Page) (number : ℕ) (first second : Variables) (at : ℕ) (items : List Item) → AreAlike first second
    → class_atom page number first at items ≡ class_atom page number second at items
class_alike page number first second at [] like = refl
class_alike page number first second at (a ∷ []) like = refl
class_alike page number first second at (class ∷ object ∷ []) like =
    ap (λ js. unless_many number at (class_judged Shape page class ++ js)) (object_alike page first second object like)
class_alike page number first second at (a ∷ b ∷ c ∷ more) like = refl

pair_alike : (page : Page) (first second : Variables) (from to : Item) → AreAlike first second → pair_judged page first from to ≡ pair_judged page second from to
pair_alike page first second from to like =
    ap (λ js. js ++ object_judged page (first ++ object_place page from) to) (object_alike page first second from like)
    ∙ ap (λ js. object_judged page second from ++ js)
    (object_alike page (first ++ object_place page from) (second ++ object_place page from) to (more_alike first second (object_place page from) like))

role_alike : (page : Page) (number : ℕ) (first second : Variables) (at : ℕ) (items : List Item) → AreAlike first second
    → role_atom page number first at items ≡ role_atom page number second at items
role_alike page number first second at [] like = refl
role_alike page number first second at (a ∷ []) like = refl
role_alike page number first second at (a ∷ b ∷ []) like = refl
role_alike page number first second at (role ∷ from ∷ to ∷ []) like =
    ap (λ js. unless_many number at (named_judged Shape kinds.Role page role ++ js)) (pair_alike page first second from to like)
role_alike page number first second at (a ∷ b ∷ c ∷ d ∷ more) like = refl

filler_alike : (dates : Dates) (page : Page) (first second : Variables) (from value : Item) → AreAlike first second
    → filler_judged dates page first from value ≡ filler_judged dates page second from value
filler_alike dates page first second from value like =
    ap (λ js. js ++ value_judged dates page (first ++ object_place page from) value) (object_alike page first second from like)
    ∙ ap (λ js. object_judged page second from ++ js)
    (value_alike dates page (first ++ object_place page from) (second ++ object_place page from) (says page value) (more_alike first second (object_place page from) like))

attr_alike : (dates : Dates) (page : Page) (number : ℕ) (first second : Variables) (at : ℕ) (items : List Item) → AreAlike first second
    → attr_atom dates page number first at items ≡ attr_atom dates page number second at items
attr_alike dates page number first second at [] like = refl
attr_alike dates page number first second at (a ∷ []) like = refl
attr_alike dates page number first second at (a ∷ b ∷ []) like = refl
attr_alike dates page number first second at (attr ∷ from ∷ value ∷ []) like =
    ap (λ js. unless_many number at (attr_judged Shape page attr ++ js)) (filler_alike dates page first second from value like)
attr_alike dates page number first second at (a ∷ b ∷ c ∷ d ∷ more) like = refl

-- one of these, by the word of a node
by_word : (is_class is_role is_attr : Bool) (c d r s a b other : List Judgement) → c ≡ d → r ≡ s → a ≡ b
    → (if is_class then c else if is_role then r else if is_attr then a else other) ≡ (if is_class then d else if is_role then s else if is_attr then b else other)
by_word true is_role is_attr c d r s a b other e f g = e
by_word false true is_attr c d r s a b other e f g = f
by_word false false true c d r s a b other e f g = g
by_word false false false c d r s a b other e f g = refl

said_alike : (dates : Dates) (page : Page) (number : ℕ) (first second : Variables) (what : Said) → AreAlike first second
    → atom_said dates page number first what ≡ atom_said dates page number second what
said_alike dates page number first second (name word at) like = refl
said_alike dates page number first second (iri word at) like = refl
said_alike dates page number first second (text chars at) like = refl
said_alike dates page number first second (tagged at) like = refl
said_alike dates page number first second (binding at) like = refl
said_alike dates page number first second (node word at items) like =
    by_word (bytes_eq word (codes "Class")) (bytes_eq word (codes "Role")) (bytes_eq word (codes "Attr"))
    (class_atom page number first at items) (class_atom page number second at items)
    (role_atom page number first at items) (role_atom page number second at items)
    (attr_atom dates page number first at items) (attr_atom dates page number second at items) (breaks Shape at ∷ [])
    (class_alike page number first second at items like) (role_alike page number first second at items like)
    (attr_alike dates page number first second at items like)

-- an atom is judged behind the variables of places as it is behind these
pub atom_alike : (dates : Dates) (page : Page) (number : ℕ) (places : Variables) (item : Item)
    → atom_judged dates page number (once same_name places) item ≡ atom_judged dates page number places item
atom_alike dates page number places item = said_alike dates page number (once same_name places) places (says page item) (once_alike places)
