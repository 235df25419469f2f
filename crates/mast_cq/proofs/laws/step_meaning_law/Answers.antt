use Rattle.mast_cq.proofs.StepLemmas.{step_sound, step_complete, step_follows}
use Rattle.mast_cq.proofs.laws.step_meaning_law.Goals as goal

pub returns-clause-sound : goal.returns-clause-sound
returns-clause-sound g c = λ constant w. step_sound constant (g.W.Truth.holds w)

pub returns-clause-complete : goal.returns-clause-complete
returns-clause-complete g c = λ constant w. step_complete constant (g.W.Truth.holds w)

pub returns-clause-follow : goal.returns-clause-follow
returns-clause-follow g c = λ constant w. step_follows constant (g.W.Truth.holds w)
