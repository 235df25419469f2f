use Rattle.mast_cq.proofs.PartsLemmas.{parts}
use Rattle.mast_cq.proofs.UnifiedLemmas.{unified_out}
use Rattle.mast_cq.proofs.laws.unify_sound_law.Goals as goal

pub returns-clause-meeting : goal.returns-clause-meeting
returns-clause-meeting g c = λ constant. parts constant

pub returns-clause-query : goal.returns-clause-query
returns-clause-query g c = λ constant w q r i j tuple. unified_out constant (g.W.Truth.holds w) q i j tuple r
