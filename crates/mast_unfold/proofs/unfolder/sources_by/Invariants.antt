use Rattle.std.proofs.Common.{◌≡◌, ◌++◌, drop}
use Rattle.mast_unfold.specs.inside.Listing.{same_name, sources_of_members}
use Rattle.mast_unfold.specs.inside.Lookups.{found}
use Rattle.mast_unfold.proofs.unfolder.sources_by.Given as goal

-- what is put and what is left are the whole
abbrev pub invariant-loop-member : goal.invariant-loop-member
invariant-loop-member l = l.sources ++ sources_of_members l.vocab.constants (found same_name l.index) (drop l.member-index l.members) ≡ sources_of_members l.vocab.constants (found same_name l.index) l.members
