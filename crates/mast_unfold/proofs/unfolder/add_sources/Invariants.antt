use Rattle.std.proofs.Common.{◌≡◌, ◌++◌, drop}
use Rattle.mast_unfold.specs.inside.Listing.{sources_of_member}
use Rattle.mast_unfold.proofs.unfolder.add_sources.Given as goal

-- what is put and what is left are the whole
abbrev pub invariant-loop-entry : goal.invariant-loop-entry
invariant-loop-entry l = l.sources ++ sources_of_member l.vocab.constants l.member (drop l.entry-index l.entries) ≡ l.fn.sources ++ sources_of_member l.vocab.constants l.member l.entries
