-- The atoms after a variable, if there is one, became `_`.
use Rattle.std.specs.Prelude.{◌≡◌, Bool, ℕ, ◌≤◌, List, map, length, insert, Option, Some, None, MatchOption}
use Rattle.mast_cq.specs.declared.atom.Arg.{Arg}
use Rattle.mast_cq.specs.declared.atom.Atom.{Atom}
use Rattle.mast_cq.specs.NormalForms.{blank, first_arg, put}
use Rattle.mast_cq.specs.Queries.{or_else}

-- the atom after the variable, if there is one, became `_`
abbrev pub blank_if : Option ℕ → Atom → Atom
blank_if None g = g
blank_if (Some n) g = blank n g

-- the atoms after it
abbrev pub blanked_all : Option ℕ → List Atom → List Atom
blanked_all lost gs = map (blank_if lost) gs

-- the first variable of two arguments that passes the test
abbrev pub first_of_two : (ℕ → Bool) → Arg → Arg → Option ℕ
first_of_two t x y = or_else (first_arg t x) (first_arg t y)

-- where the atom is to be inserted, so that it is put into the list; None where it is there
abbrev pub IsPlace : Atom → List Atom → Option ℕ → Type 0
IsPlace g hs place = MatchOption place (hs ≡ put g hs) (λ at. (at ≤ length hs) × (insert hs at g ≡ put g hs))
