use Rattle.std.proofs.Common.{length}
use Rattle.mast_cq.specs.UnifierMeanings.{IsBelow, KnownAtom}
use Rattle.mast_unfold.proofs.ElementLemmas.{each_got}
use Rattle.mast_unfold.proofs.unfolder.sources_by.Goals as goal

pub add_sources-requires : goal.add_sources-requires
add_sources-requires c = each_got (KnownAtom (IsBelow (length c.args.vocab.now.constants))) c.args.members.now c.loop-member.member-index _ c.requires c.loop-member-test.true
