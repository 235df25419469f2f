-- What is kept of atoms and of pairs of them.
use Rattle.std.specs.Prelude.{◌≡◌, ℕ, List, [], Contains, Option, Some, None, slice_get}
use Rattle.indexmap.specs.IndexMap.{values}
use Rattle.mast_cq.specs.declared.atom.Atom.{Atom}
use Rattle.mast_cq.specs.declared.unifier.Met.{Met}
use Rattle.mast_tbox.specs.declared.axiom.Inclusion.{Inclusion}
use Rattle.mast_rewrite.specs.declared.memo.Memo.{Memo}
use Rattle.mast_rewrite.specs.declared.pair.Pair.{Pair}
use Rattle.mast_rewrite.specs.inside.Leaders.{IsDownList, CountsExactly}

-- each list that is kept is that of its atom or of its pair
pub record IsMemo (tbox : List Inclusion) (memo : Memo) : Type 0 where
  pub below : (g : Atom) (list : List Atom) → Contains memo.below.entries (g, list) → IsDownList tbox g list
  pub meetings : (p : Pair) (list : List Met) → Contains memo.meetings.entries (p, list) → CountsExactly tbox p list

-- at the place is a list with exactly the meetings of the pair that count
abbrev pub IsPlaceOf : List Inclusion → Memo → Pair → ℕ → Type 0
IsPlaceOf tbox memo p place = (list : List Met) × (slice_get (values memo.meetings) place ≡ Some list) × CountsExactly tbox p list

-- the meetings of the pair that count are those at the place; where there is no place none counts
abbrev pub HasPlace : List Inclusion → Memo → Pair → Option ℕ → Type 0
HasPlace tbox memo p None = CountsExactly tbox p []
HasPlace tbox memo p (Some place) = IsPlaceOf tbox memo p place
