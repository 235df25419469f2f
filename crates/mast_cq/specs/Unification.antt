-- Unification: which arguments win, and what two atoms become where they meet.
use Rattle.std.specs.Prelude.{ℕ, List, map, Option, Some, None, Bool, true, false, nat_eq, nat_lt, ◌&&◌, ◌||◌, not, slice_get, slice_set}
use Rattle.mast_cq.specs.declared.atom.Arg.{Arg}
use Rattle.mast_cq.specs.declared.atom.Arg.TheVariants.{Blank, Var, Constant}
use Rattle.mast_cq.specs.declared.atom.Atom.{Atom}
use Rattle.mast_cq.specs.declared.atom.Atom.TheVariants.{Class, Role, Attr}
use Rattle.mast_cq.specs.declared.query.Cq.{Cq}
use Rattle.mast_cq.specs.Queries.{has_var}

-- a replacement of variables
abbrev pub Replacement : Type 0
Replacement = ℕ → Arg

-- the argument after the replacement
abbrev pub replace_arg : Replacement → Arg → Arg
replace_arg r Blank = Blank
replace_arg r (Var x) = r x
replace_arg r (Constant c) = Constant c

-- the atom after the replacement
abbrev pub replace : Replacement → Atom → Atom
replace r (Class a x) = Class a (replace_arg r x)
replace r (Role a x y) = Role a (replace_arg r x) (replace_arg r y)
replace r (Attr a x y) = Attr a (replace_arg r x) (replace_arg r y)

-- the one variable becomes the argument
abbrev pub only : ℕ → Arg → Replacement
only x a y = elim (nat_eq x y) [ true ↦ a | false ↦ Var y ]

-- one replacement after another
abbrev pub after : Replacement → Replacement → Replacement
after r s x = replace_arg s (r x)

-- of two variables that meet the first wins: an answer variable over another, and else the lower number
abbrev pub wins : List Arg → ℕ → ℕ → Bool
wins answer x y =
    elim (has_var answer x) [
      | true ↦ not (has_var answer y) || nat_lt x y
      | false ↦ not (has_var answer y) && nat_lt x y
    ]

-- the replacement that makes two arguments one: a constant wins over a variable; None for different constants.
-- A `_` is a fresh variable, which stands nowhere else, so where it meets anything no variable of the query changes
abbrev pub unify_args : List Arg → Arg → Arg → Option Replacement
unify_args answer Blank b = Some Var
unify_args answer (Var x) Blank = Some Var
unify_args answer (Var x) (Var y) =
    elim (wins answer x y) [ true ↦ Some (only y (Var x)) | false ↦ Some (only x (Var y)) ]
unify_args answer (Var x) (Constant c) = Some (only x (Constant c))
unify_args answer (Constant c) Blank = Some Var
unify_args answer (Constant c) (Var y) = Some (only y (Constant c))
unify_args answer (Constant c) (Constant d) = elim (nat_eq c d) [ true ↦ Some Var | false ↦ None ]

-- of two arguments that are equal but for `_`, the one that is no `_`
abbrev pub fuller : Arg → Arg → Arg
fuller Blank b = b
fuller (Var x) b = Var x
fuller (Constant c) b = Constant c

-- what two atoms become: a replacement of variables, and one atom, to which it was applied
pub record Meeting : Type 0 where
  pub replacement : Replacement
  pub atom : Atom

-- the meeting of two atoms with one argument
abbrev pub meeting_of_one : (Arg → Atom) → Arg → Arg → Option Replacement → Option Meeting
meeting_of_one form x y None = None
meeting_of_one form x y (Some r) = Some (record { replacement = r; atom = form (fuller (replace_arg r x) (replace_arg r y)) })

-- the meeting of two atoms with two arguments, whose first places made r, and second ones the other
abbrev pub meeting_of_two : (Arg → Arg → Atom) → Arg → Arg → Arg → Arg → Replacement → Option Replacement → Option Meeting
meeting_of_two form x y z w r None = None
meeting_of_two form x y z w r (Some s) = Some (record {
  replacement = after r s;
  atom = form (fuller (replace_arg (after r s) x) (replace_arg (after r s) z)) (fuller (replace_arg (after r s) y) (replace_arg (after r s) w));
})

-- the pairs (x, z) and (y, w) meet, the first before the second
abbrev pub meeting_of_pairs : List Arg → (Arg → Arg → Atom) → Arg → Arg → Arg → Arg → Option Replacement → Option Meeting
meeting_of_pairs answer form x y z w None = None
meeting_of_pairs answer form x y z w (Some r) = meeting_of_two form x y z w r (unify_args answer (replace_arg r y) (replace_arg r w))

-- the meeting of two atoms, where they have one kind and one name and make no two different constants equal
abbrev pub meeting : List Arg → Atom → Atom → Option Meeting
meeting answer (Class a x) (Class b y) =
    elim (nat_eq a.0 b.0) [ true ↦ meeting_of_one (Class a) x y (unify_args answer x y) | false ↦ None ]
meeting answer (Role a x y) (Role b z w) =
    elim (nat_eq a.0 b.0) [ true ↦ meeting_of_pairs answer (Role a) x y z w (unify_args answer x z) | false ↦ None ]
meeting answer (Attr a x y) (Attr b z w) =
    elim (nat_eq a.0 b.0) [ true ↦ meeting_of_pairs answer (Attr a) x y z w (unify_args answer x z) | false ↦ None ]
meeting answer (Class a x) (Role b z w) = None
meeting answer (Class a x) (Attr b z w) = None
meeting answer (Role a x y) (Class b z) = None
meeting answer (Role a x y) (Attr b z w) = None
meeting answer (Attr a x y) (Class b z) = None
meeting answer (Attr a x y) (Role b z w) = None

-- the query after the meeting of the atoms at two places: both places have the meeting's atom
abbrev pub met : Cq → ℕ → ℕ → Meeting → Cq
met q i j m = record {
  answer = map (replace_arg m.replacement) q.answer;
  atoms = slice_set (slice_set (map (replace m.replacement) q.atoms) i m.atom) j m.atom;
}

-- the query after the meeting of its atoms at two places, where there is one
abbrev pub met_if : Cq → ℕ → ℕ → Option Meeting → Option Cq
met_if q i j None = None
met_if q i j (Some m) = Some (met q i j m)

-- the meeting of two atoms that are there
abbrev pub meeting_if : List Arg → Option Atom → Option Atom → Option Meeting
meeting_if answer None h = None
meeting_if answer (Some g) None = None
meeting_if answer (Some g) (Some h) = meeting answer g h

-- the query in which the atoms at the places i and j are unified; None where they do not unify
abbrev pub unified : Cq → ℕ → ℕ → Option Cq
unified q i j = met_if q i j (meeting_if q.answer (slice_get q.atoms i) (slice_get q.atoms j))
