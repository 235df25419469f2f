use Rattle.mast_cq.proofs.MovesLemmas.{meeting_fixed}
use Rattle.mast_cq.proofs.MeetingOriginLemmas.{stays_within}
use Rattle.mast_cq.proofs.laws.unify_moves_law.Goals as goal

pub returns-clause-others : goal.returns-clause-others
returns-clause-others c = λ answer left right m n. meeting_fixed answer left right m n

pub returns-clause-within : goal.returns-clause-within
returns-clause-within c = stays_within
