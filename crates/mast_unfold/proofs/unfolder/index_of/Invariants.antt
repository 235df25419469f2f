use Rattle.std.proofs.Common.{◌≡◌}
use Rattle.mast_unfold.specs.inside.Listing.{same_name, AreEntries}
use Rattle.mast_unfold.specs.inside.Lookups.{found}
use Rattle.mast_unfold.proofs.unfolder.index_of.Given as goal

-- the first maps are in the index
abbrev pub invariant-loop-map : goal.invariant-loop-map
invariant-loop-map l = record { at : l.number ≡ l.map-index; are : AreEntries l.tables l.maps l.map-index (found same_name l.index) }
