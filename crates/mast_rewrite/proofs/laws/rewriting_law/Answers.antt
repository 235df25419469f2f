use Rattle.mast_rewrite.proofs.RewritingLemmas.{is_sound, is_complete}
use Rattle.mast_rewrite.proofs.laws.rewriting_law.Goals as goal

pub returns-clause-sound : goal.returns-clause-sound
returns-clause-sound g c = λ facts. is_sound (g.S.Truth.holds facts)

pub returns-clause-complete : goal.returns-clause-complete
returns-clause-complete g c = λ facts. is_complete (g.S.Truth.holds facts)
