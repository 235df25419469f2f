use Rattle.mast_cq.proofs.SameTuplesLemmas.{normal_form_into, normal_form_out}
use Rattle.mast_cq.proofs.laws.normal_meaning_law.Goals as goal

pub returns : goal.returns
returns g c = λ constant w q tuple. (normal_form_into constant (g.W.Truth.holds w) q tuple, normal_form_out constant (g.W.Truth.holds w) q tuple)
