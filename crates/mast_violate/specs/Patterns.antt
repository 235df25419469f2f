-- The patterns of violation queries. Variables are numbered by first occurrence.
use Rattle.std.specs.Prelude.{ℕ, zero, suc, ◌+◌, ◌-◌, List, [], ◌∷◌, ◌++◌, length}
use Rattle.mast_terms.specs.declared.name.Name.{Name}
use Rattle.mast_cq.specs.declared.atom.Arg.{Arg}
use Rattle.mast_cq.specs.declared.atom.Arg.TheVariants.{Var}
use Rattle.mast_cq.specs.declared.atom.Atom.{Atom}
use Rattle.mast_cq.specs.declared.atom.Atom.TheVariants.{Class, Role, Attr}
use Rattle.mast_tbox.specs.declared.axiom.Negative.{Negative}
use Rattle.mast_tbox.specs.declared.axiom.Negative.TheVariants.{Concepts, Roles, Attrs, Irreflexive}
use Rattle.mast_tbox.specs.declared.constraint.Step.{Step}
use Rattle.mast_tbox.specs.declared.constraint.Step.TheVariants.{Role as SRole, Test, Attr as SAttr}
use Rattle.mast_tbox.specs.declared.expression.Basic.{Basic}
use Rattle.mast_tbox.specs.declared.expression.Prop.{Prop}
use Rattle.mast_tbox.specs.declared.expression.Prop.TheVariants.{Role as PRole, Attr as PAttr}
use Rattle.mast_tbox.specs.declared.expression.RoleExpr.TheVariants.{Direct, Inverse}
use Rattle.mast_tbox.specs.Expressions.{pair, at}
use Rattle.mast_tbox.specs.Restrictions.{along}

-- in a pattern that begins with a pair of the property, what has a filler; it stands second in the atom of an inverse role
abbrev pub subject : Prop → Arg
subject (PRole (Direct p)) = Var 0
subject (PRole (Inverse p)) = Var 1
subject (PAttr u) = Var 0

-- and the filler
abbrev pub filler : Prop → Arg
filler (PRole (Direct p)) = Var 1
filler (PRole (Inverse p)) = Var 0
filler (PAttr u) = Var 1

-- one pair stands in both properties
abbrev pub shared_pair : Prop → Prop → List Atom
shared_pair p q = pair p (subject p) (filler p) ∷ pair q (subject p) (filler p) ∷ []

-- what is disjoint has a term or a pair in common, or a term is related to itself
abbrev pub negative_pattern : Negative → List Atom
negative_pattern (Concepts left right) = at left (Var 0) ∷ at right (Var 0) ∷ []
negative_pattern (Roles left right) = shared_pair (PRole left) (PRole right)
negative_pattern (Attrs left right) = shared_pair (PAttr left) (PAttr right)
negative_pattern (Irreflexive role) = Role role (Var 0) (Var 0) ∷ []

-- the attribute has a value
abbrev pub value_pattern : Name → List Atom
value_pattern u = Attr u (Var 0) (Var 1) ∷ []

-- the two attributes have a value in common
abbrev pub shared_value : Name → Name → List Atom
shared_value u v = Attr u (Var 0) (Var 1) ∷ Attr v (Var 2) (Var 1) ∷ []

-- one has two fillers or values by the property
abbrev pub two_fillers : Prop → List Atom
two_fillers p = pair p (subject p) (filler p) ∷ pair p (subject p) (Var 2) ∷ []

-- that one and the two
abbrev pub and_fillers : Prop → List Arg
and_fillers p = subject p ∷ filler p ∷ Var 2 ∷ []

-- the atom that a step writes from the first argument to the second: a test writes the class of where it is
abbrev pub step_atom : Step → Arg → Arg → Atom
step_atom (SRole r) x y = pair (PRole r) x y
step_atom (Test a) x y = Class a x
step_atom (SAttr u) x y = Attr u x y

-- the variable that a role or an attribute leads to: a new one where so many come after it, and else the end
abbrev pub new_or_end : (after new end : ℕ) → ℕ
new_or_end zero new end = end
new_or_end (suc k) new end = new

-- the variable that a step leads to: a test stays
abbrev pub leads_to : Step → (after from new end : ℕ) → ℕ
leads_to (SRole r) after from new end = new_or_end after new end
leads_to (Test a) after from new end = from
leads_to (SAttr u) after from new end = new_or_end after new end

-- the next new variable after a step
abbrev pub new_after : Step → ℕ → ℕ
new_after (SRole r) new = suc new
new_after (Test a) new = new
new_after (SAttr u) new = suc new

-- the atoms of a path's steps from a variable to an end, the variables between being new ones
abbrev pub walk : (from new end : ℕ) → List Step → List Atom
walk from new end [] = []
walk from new end (step ∷ steps) =
    let to = leads_to step (length (along steps)) from new end in
    step_atom step (Var from) (Var to) ∷ walk to (new_after step new) end steps

-- the last variable of a path of this length whose first one is this
abbrev pub end_of : (new long : ℕ) → ℕ
end_of new long = (new + long) - 1

-- the walks of a path of this length from the variables 0 and 1, with a common end
abbrev pub both_walks : (new long : ℕ) → List Step → List Atom
both_walks new long path = walk 0 new (end_of new long) path ++ walk 1 (new + long) (end_of new long) path

-- the walks of all paths, in order
abbrev pub all_walks : (new : ℕ) → List (List Step) → List Atom
all_walks new [] = []
all_walks new (path ∷ paths) =
    let long = length (along path) in
    both_walks new long path ++ all_walks (end_of (new + long) long) paths

-- two are in the concept and have a common end on every path
abbrev pub identified_pattern : Basic → List (List Step) → List Atom
identified_pattern concept paths = at concept (Var 0) ∷ at concept (Var 1) ∷ all_walks 2 paths
