use Rattle.mast_cq.proofs.SettleLemmas.{normal_form_normal, normal_form_spread, normal_fixed, normal_form_length}
use Rattle.mast_cq.proofs.laws.normal_form_law.Goals as goal

pub returns-clause-normal : goal.returns-clause-normal
returns-clause-normal c = normal_form_normal

pub returns-clause-spread : goal.returns-clause-spread
returns-clause-spread c = normal_form_spread

pub returns-clause-fixed : goal.returns-clause-fixed
returns-clause-fixed c = normal_fixed

pub returns-clause-fewer : goal.returns-clause-fewer
returns-clause-fewer c = normal_form_length
