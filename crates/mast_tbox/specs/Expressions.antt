-- Expressions: the inverse of a property, what a property and a basic concept say of arguments, and when two are the same.
use Rattle.std.specs.Prelude.{Bool, false, nat_eq}
use Rattle.mast_cq.specs.declared.atom.Arg.{Arg}
use Rattle.mast_cq.specs.declared.atom.Arg.TheVariants.{Blank}
use Rattle.mast_cq.specs.declared.atom.Atom.{Atom}
use Rattle.mast_cq.specs.declared.atom.Atom.TheVariants.{Class}
use Rattle.mast_cq.specs.Properties.{Property, Direct as DirectPairs, Inverse as InversePairs, Values, prop_atom}
use Rattle.mast_tbox.specs.declared.expression.RoleExpr.{RoleExpr}
use Rattle.mast_tbox.specs.declared.expression.RoleExpr.TheVariants.{Direct, Inverse}
use Rattle.mast_tbox.specs.declared.expression.Basic.{Basic}
use Rattle.mast_tbox.specs.declared.expression.Basic.TheVariants.{Class as BClass, Some as BSome, Subjects}
use Rattle.mast_tbox.specs.declared.expression.Prop.{Prop}
use Rattle.mast_tbox.specs.declared.expression.Prop.TheVariants.{Role as PRole, Attr as PAttr}

-- the inverse of a role, and the role of an inverse
abbrev pub inverse_role : RoleExpr → RoleExpr
inverse_role (Direct p) = Inverse p
inverse_role (Inverse p) = Direct p

-- the inverse of a property; an attribute has none and stands for its own
abbrev pub inverse : Prop → Prop
inverse (PRole r) = PRole (inverse_role r)
inverse (PAttr a) = PAttr a

-- the property as atoms and facts know it
abbrev pub property : Prop → Property
property (PRole (Direct p)) = DirectPairs p
property (PRole (Inverse p)) = InversePairs p
property (PAttr a) = Values a

-- the atom that x and y are a pair of the property
abbrev pub pair : Prop → Arg → Arg → Atom
pair p x y = prop_atom (property p) x y

-- what has a filler or a value by the property: ∃Q or δ(U)
abbrev pub subjects : Prop → Basic
subjects (PRole r) = BSome r
subjects (PAttr a) = Subjects a

-- the atom at(B, x): x is in the basic concept
abbrev pub at : Basic → Arg → Atom
at (BClass a) x = Class a x
at (BSome r) x = pair (PRole r) x Blank
at (Subjects a) x = pair (PAttr a) x Blank

-- two role expressions are the same
abbrev pub same_role : RoleExpr → RoleExpr → Bool
same_role (Direct p) (Direct q) = nat_eq p.0 q.0
same_role (Direct p) (Inverse q) = false
same_role (Inverse p) (Direct q) = false
same_role (Inverse p) (Inverse q) = nat_eq p.0 q.0

-- two properties are the same
abbrev pub same_prop : Prop → Prop → Bool
same_prop (PRole r) (PRole s) = same_role r s
same_prop (PRole r) (PAttr b) = false
same_prop (PAttr a) (PRole s) = false
same_prop (PAttr a) (PAttr b) = nat_eq a.0 b.0

-- two basic concepts are the same
abbrev pub same_basic : Basic → Basic → Bool
same_basic (BClass a) (BClass b) = nat_eq a.0 b.0
same_basic (BClass a) (BSome s) = false
same_basic (BClass a) (Subjects b) = false
same_basic (BSome r) (BClass b) = false
same_basic (BSome r) (BSome s) = same_role r s
same_basic (BSome r) (Subjects b) = false
same_basic (Subjects a) (BClass b) = false
same_basic (Subjects a) (BSome s) = false
same_basic (Subjects a) (Subjects b) = nat_eq a.0 b.0
