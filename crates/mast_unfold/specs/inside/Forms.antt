-- Forms of heads, and which atoms a head of a form becomes.
use Rattle.std.specs.Prelude.{◌≡◌, ◌↔◌, ℕ, List, [], Bool, true, false, ◌&&◌, ◌||◌, not, nat_eq, get_or, IsTrue}
use Rattle.mast_terms.specs.declared.name.NameKind.TheVariants as kinds
use Rattle.mast_terms.specs.declared.value.Value.{Value}
use Rattle.mast_terms.specs.declared.value.Value.TheVariants as value
use Rattle.mast_terms.specs.Vocabularies.{same_value}
use Rattle.mast_tables.specs.declared.declaration.TableDecl.{TableDecl}
use Rattle.mast_tables.specs.Whole.{value_kind}
use Rattle.mast_cq.specs.declared.atom.Arg.{Arg}
use Rattle.mast_cq.specs.declared.atom.Arg.TheVariants.{Blank, Var, Constant}
use Rattle.mast_cq.specs.declared.atom.Atom.{Atom}
use Rattle.mast_cq.specs.declared.atom.Atom.TheVariants.{Class, Role, Attr}
use Rattle.mast_sql.specs.declared.query.SourceQuery.{SourceQuery}
use Rattle.mast_mapping.specs.declared.map.Head.{Head}
use Rattle.mast_mapping.specs.declared.map.Head.TheVariants as head
use Rattle.mast_mapping.specs.declared.split_map.SplitMap.{SplitMap}
use Rattle.mast_unfold.specs.declared.forms.Form.{Form}
use Rattle.mast_unfold.specs.declared.forms.Form.TheVariants as form
use Rattle.mast_unfold.specs.declared.forms.KindedName.{KindedName}
use Rattle.mast_unfold.specs.Sources.{CanBeOne}
use Rattle.mast_unfold.specs.inside.Equations.{Cell, column, constant, nothing, seen, same_kind}
use Rattle.mast_unfold.specs.inside.Slots.{slot_cell}

-- the name of a head
abbrev pub head_name : Head → KindedName
head_name (head.Class name subject) = record { kind = kinds.Class; name = name }
head_name (head.Role name from to) = record { kind = kinds.Role; name = name }
head_name (head.Attr name from value) = record { kind = kinds.Attr; name = name }

-- the name of an atom
abbrev pub atom_name : Atom → KindedName
atom_name (Class name x) = record { kind = kinds.Class; name = name }
atom_name (Role name x y) = record { kind = kinds.Role; name = name }
atom_name (Attr name x y) = record { kind = kinds.Attr; name = name }

-- the form is that of a head over a source query
abbrev pub IsFormOf : List TableDecl → SourceQuery → Head → Form → Type 0
IsFormOf tables query (head.Class name subject) form.Class = Unit {0}
IsFormOf tables query (head.Class name subject) (form.Role alike) = ⊥
IsFormOf tables query (head.Class name subject) (form.Attr value) = ⊥
IsFormOf tables query (head.Role name from to) form.Class = ⊥
IsFormOf tables query (head.Role name from to) (form.Role alike) = IsTrue alike ↔ CanBeOne tables query from to
IsFormOf tables query (head.Role name from to) (form.Attr value) = ⊥
IsFormOf tables query (head.Attr name from slot) form.Class = ⊥
IsFormOf tables query (head.Attr name from slot) (form.Role alike) = ⊥
IsFormOf tables query (head.Attr name from slot) (form.Attr value) = seen value ≡ slot_cell tables query slot

-- the form is that of a map's head
abbrev pub IsForm : List TableDecl → SplitMap → Form → Type 0
IsForm tables map form = IsFormOf tables map.query map.head form

-- whether an argument may stand for an object
abbrev pub is_object : Arg → Bool
is_object Blank = true
is_object (Var x) = true
is_object (Constant c) = false

-- whether both arguments are one variable
abbrev pub is_one_variable : Arg → Arg → Bool
is_one_variable Blank y = false
is_one_variable (Var x) Blank = false
is_one_variable (Var x) (Var y) = nat_eq x y
is_one_variable (Var x) (Constant c) = false
is_one_variable (Constant c) y = false

-- whether a value can be that of a cell
abbrev pub can_be_value : Value → Cell → Bool
can_be_value v (column place) = same_kind (value_kind v) place.kind
can_be_value v (constant other) = same_value v other
can_be_value v nothing = false

-- the value of a constant
abbrev pub constant_value : List Value → ℕ → Value
constant_value constants c = get_or constants c (value.Text [])

-- whether the arguments of an attribute may stand for an object and the value of a cell
abbrev pub value_fits : List Value → Arg → Arg → Cell → Bool
value_fits constants x Blank cell = true
value_fits constants x (Var y) cell = not (is_one_variable x (Var y))
value_fits constants x (Constant c) cell = can_be_value (constant_value constants c) cell

-- whether the head of a role with this form becomes a pair of these arguments
abbrev pub role_fits : Arg → Arg → Form → Bool
role_fits x y form.Class = false
role_fits x y (form.Role alike) = (is_object x && is_object y) && (alike || not (is_one_variable x y))
role_fits x y (form.Attr value) = false

-- whether that of an attribute does
abbrev pub attr_fits : List Value → Arg → Arg → Form → Bool
attr_fits constants x y form.Class = false
attr_fits constants x y (form.Role alike) = false
attr_fits constants x y (form.Attr value) = is_object x && value_fits constants x y (seen value)

-- whether a head of this form becomes an atom that has its name
abbrev pub fits : List Value → Atom → Form → Bool
fits constants (Class a x) f = is_object x
fits constants (Role a x y) f = role_fits x y f
fits constants (Attr a x y) f = attr_fits constants x y f
