-- What the steps of the unifier stand for: two arguments, and two pairs of them, that become one.
use Rattle.std.specs.Prelude.{◌≡◌, List, Option, Some, None}
use Rattle.mast_cq.specs.declared.atom.Arg.{Arg}
use Rattle.mast_cq.specs.declared.atom.Atom.{Atom}
use Rattle.mast_cq.specs.declared.unifier.Binding.{Binding}
use Rattle.mast_cq.specs.declared.unifier.Bindings.{Bindings}
use Rattle.mast_cq.specs.declared.unifier.MetPair.{MetPair}
use Rattle.mast_cq.specs.Meetings.{binding_of, replacement_of}
use Rattle.mast_cq.specs.Unification.{Replacement, after, replace_arg, unify_args, Meeting, meeting_of_pairs}

-- the replacement that makes two arguments one
abbrev pub unified_of : Option (Option Binding) → Option Replacement
unified_of None = None
unified_of (Some b) = Some (binding_of b)

-- the meeting of atoms of this form, by what stands at their two places
abbrev pub pair_meeting_of : (Arg → Arg → Atom) → Option MetPair → Option Meeting
pair_meeting_of form None = None
pair_meeting_of form (Some m) = Some (record { replacement = replacement_of m.replacement; atom = form m.first m.second })

-- a replacement, and after it another
abbrev pub second_pair : Replacement → Option Replacement → Option Replacement
second_pair r None = None
second_pair r (Some s) = Some (after r s)

-- the replacement that makes x and z one, and then y and w
abbrev pub both_pairs : List Arg → Arg → Arg → Option Replacement → Option Replacement
both_pairs answer y w None = None
both_pairs answer y w (Some r) = second_pair r (unify_args answer (replace_arg r y) (replace_arg r w))

-- the replacement that two bindings stand for
abbrev pub bindings_of : Option Bindings → Option Replacement
bindings_of None = None
bindings_of (Some b) = Some (replacement_of b)

-- the meeting of two atoms of one form and name with these arguments
abbrev pub pairs_meet : List Arg → (Arg → Arg → Atom) → Arg → Arg → Arg → Arg → Option Meeting
pairs_meet answer form x y z w = meeting_of_pairs answer form x y z w (unify_args answer x z)

-- the pairs of arguments of two atoms meet, whatever their form
abbrev pub PairsMeet : List Arg → Arg → Arg → Arg → Arg → Option MetPair → Type 0
PairsMeet answer x y z w met = (form : Arg → Arg → Atom) → pair_meeting_of form met ≡ pairs_meet answer form x y z w
