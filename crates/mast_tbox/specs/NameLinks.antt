-- Links between names: the names of atoms and of the two sides of inclusions, and which of them inclusions link.
use Rattle.std.specs.Prelude.{List, [], ◌∷◌, Contains}
use Rattle.mast_cq.specs.declared.atom.Atom.{Atom}
use Rattle.mast_cq.specs.declared.atom.Atom.TheVariants.{Class, Role, Attr}
use Rattle.mast_tbox.specs.declared.expression.RoleExpr.{RoleExpr}
use Rattle.mast_tbox.specs.declared.expression.RoleExpr.TheVariants.{Direct, Inverse}
use Rattle.mast_tbox.specs.declared.expression.Basic.{Basic}
use Rattle.mast_tbox.specs.declared.expression.Basic.TheVariants.{Class as BClass, Some as BSome, Subjects}
use Rattle.mast_tbox.specs.declared.axiom.Inclusion.{Inclusion}
use Rattle.mast_tbox.specs.declared.axiom.Inclusion.TheVariants.{Class as IClass, Exists, HasValue, Role as IRole, Attr as IAttr, Range}
use Rattle.mast_tbox.specs.Inclusions.{pairs}
use Rattle.mast_tbox.specs.Lists.{Reaches}

-- a name with its kind is written as a basic concept that has no other: A, ∃P or δ(U)
abbrev pub atom_name : Atom → Basic
atom_name (Class a x) = BClass a
atom_name (Role p x y) = BSome (Direct p)
atom_name (Attr u x y) = Subjects u

-- the name of a role or of an inverse role
abbrev pub role_name : RoleExpr → Basic
role_name (Direct p) = BSome (Direct p)
role_name (Inverse p) = BSome (Direct p)

-- the name of a basic concept
abbrev pub basic_name : Basic → Basic
basic_name (BClass a) = BClass a
basic_name (BSome r) = role_name r
basic_name (Subjects u) = Subjects u

-- the name on the left side of an inclusion; a range has one name alone
abbrev pub left_name : Inclusion → Basic
left_name (IClass b a) = basic_name b
left_name (Exists b r end k) = basic_name b
left_name (HasValue b u k) = basic_name b
left_name (IRole r s) = role_name r
left_name (IAttr u v) = Subjects u
left_name (Range u kind) = Subjects u

-- the name on its right side; the class of an end is none of it
abbrev pub right_name : Inclusion → Basic
right_name (IClass b a) = BClass a
right_name (Exists b r end k) = role_name r
right_name (HasValue b u k) = Subjects u
right_name (IRole r s) = role_name s
right_name (IAttr u v) = Subjects v
right_name (Range u kind) = Subjects u

-- the pairs of names that an inclusion links: those of its two sides, each way
abbrev pub links : Inclusion → List (Basic × Basic)
links i = (left_name i, right_name i) ∷ (right_name i, left_name i) ∷ []

-- an inclusion links the two names
abbrev pub IsLinked : List Inclusion → Basic → Basic → Type 0
IsLinked tbox x y = Contains (pairs links tbox) (x, y)

-- a list of names leads from that of the one atom to that of the other, each linked with the next; an atom is linked with itself
abbrev pub AreLinked : List Inclusion → Atom → Atom → Type 0
AreLinked tbox g h = Reaches (IsLinked tbox) (atom_name g) (atom_name h)
