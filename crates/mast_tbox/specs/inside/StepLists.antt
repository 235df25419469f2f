-- What the steps on an atom give, as a list: what is directly below concepts, and the properties that lead to others.
use Rattle.std.specs.Prelude.{List, [], ◌∷◌, ◌++◌, map}
use Rattle.mast_cq.specs.declared.atom.Arg.{Arg}
use Rattle.mast_cq.specs.declared.atom.Arg.TheVariants.{Blank, Var, Constant}
use Rattle.mast_cq.specs.declared.atom.Atom.{Atom}
use Rattle.mast_cq.specs.declared.atom.Atom.TheVariants.{Class, Role, Attr}
use Rattle.mast_tbox.specs.declared.expression.RoleExpr.TheVariants.{Direct, Inverse}
use Rattle.mast_tbox.specs.declared.expression.Basic.{Basic}
use Rattle.mast_tbox.specs.declared.expression.Basic.TheVariants.{Class as BClass, Some as BSome, Subjects}
use Rattle.mast_tbox.specs.declared.expression.Prop.{Prop}
use Rattle.mast_tbox.specs.declared.expression.Prop.TheVariants.{Role as PRole, Attr as PAttr}
use Rattle.mast_tbox.specs.declared.axiom.Inclusion.{Inclusion}
use Rattle.mast_tbox.specs.declared.axiom.Inclusion.TheVariants.{Class as IClass, Exists, HasValue, Role as IRole, Attr as IAttr, Range}
use Rattle.mast_tbox.specs.Expressions.{pair, at, inverse_role, same_prop}
use Rattle.mast_tbox.specs.Inclusions.{pairs, firsts, directly_below}
use Rattle.mast_tbox.specs.Lists.{once}

-- the pairs of a property and one that an inclusion leads to from it
abbrev pub prop_pairs : Inclusion → List (Prop × Prop)
prop_pairs (IClass b a) = []
prop_pairs (Exists b r end k) = []
prop_pairs (HasValue b u k) = []
prop_pairs (IRole r s) = (PRole r, PRole s) ∷ (PRole (inverse_role r), PRole (inverse_role s)) ∷ []
prop_pairs (IAttr u v) = (PAttr u, PAttr v) ∷ []
prop_pairs (Range u kind) = []

-- the properties from which an inclusion leads to one, in the order of the inclusions, each once
abbrev pub leading_to : List Inclusion → Prop → List Prop
leading_to tbox p = once same_prop (firsts same_prop p (pairs prop_pairs tbox))

-- the list where the argument is `_`, and else none
abbrev pub if_blank : {X : Type 0} → Arg → List X → List X
if_blank Blank xs = xs
if_blank (Var n) xs = []
if_blank (Constant c) xs = []

-- the atoms that x is in a concept, for each concept of a list
abbrev pub all_at : List Basic → Arg → List Atom
all_at basics x = map (λ b. at b x) basics

-- the atoms that x and y are a pair of a property, for each property of a list
abbrev pub all_pairs : List Prop → Arg → Arg → List Atom
all_pairs props x y = map (λ p. pair p x y) props

-- the atoms that x is in a concept, for concepts directly below one
abbrev pub members : List Inclusion → Basic → Arg → List Atom
members tbox b x = all_at (directly_below tbox b) x

-- the atoms that x and y are a pair of a property, for properties that lead to one
abbrev pub narrower : List Inclusion → Prop → Arg → Arg → List Atom
narrower tbox q x y = all_pairs (leading_to tbox q) x y

-- what the steps on an atom give
abbrev pub steps_of : List Inclusion → Atom → List Atom
steps_of tbox (Class a x) = members tbox (BClass a) x
steps_of tbox (Role p x y) =
    if_blank y (members tbox (BSome (Direct p)) x) ++ (if_blank x (members tbox (BSome (Inverse p)) y) ++ narrower tbox (PRole (Direct p)) x y)
steps_of tbox (Attr u x y) = if_blank y (members tbox (Subjects u) x) ++ narrower tbox (PAttr u) x y
