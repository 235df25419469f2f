-- Two atoms of a query, with their variables that are answers.
use Rattle.std.specs.Prelude.{List, [], ◌∷◌, if◌then◌else◌}
use Rattle.mast_cq.specs.declared.atom.Arg.{Arg}
use Rattle.mast_cq.specs.declared.atom.Arg.TheVariants.{Blank, Var, Constant}
use Rattle.mast_cq.specs.declared.atom.Atom.{Atom}
use Rattle.mast_cq.specs.declared.atom.Atom.TheVariants.{Class, Role, Attr}
use Rattle.mast_cq.specs.declared.query.Cq.{Cq}
use Rattle.mast_cq.specs.Queries.{has_var}
use Rattle.mast_rewrite.specs.declared.pair.Marked.{Marked}
use Rattle.mast_rewrite.specs.declared.pair.Pair.{Pair}

-- the argument where it is a variable of the answer list, and else `_`
abbrev pub answering : List Arg → Arg → Arg
answering answer Blank = Blank
answering answer (Var x) = if has_var answer x then Var x else Blank
answering answer (Constant c) = Blank

-- an atom of a query with this answer list
abbrev pub marked_of : List Arg → Atom → Marked
marked_of answer (Class a x) = record { atom = Class a x; first = answering answer x; second = Blank }
marked_of answer (Role a x y) = record { atom = Role a x y; first = answering answer x; second = answering answer y }
marked_of answer (Attr a x y) = record { atom = Attr a x y; first = answering answer x; second = answering answer y }

-- the marked variables of two atoms
abbrev pub marks : Pair → List Arg
marks p = p.left.first ∷ p.left.second ∷ p.right.first ∷ p.right.second ∷ []

-- the query that has the two atoms alone, and their marked variables as answers
abbrev pub query_of : Pair → Cq
query_of p = record { answer = marks p; atoms = p.left.atom ∷ p.right.atom ∷ [] }

-- two atoms of a query with this answer list
abbrev pub pair_of : List Arg → Atom → Atom → Pair
pair_of answer g h = record { left = marked_of answer g; right = marked_of answer h }
