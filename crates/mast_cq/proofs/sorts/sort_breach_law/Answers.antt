use Rattle.mast_cq.proofs.SortLemmas.{sort_answer, sort_answer_one}
use Rattle.mast_cq.proofs.sorts.sort_breach_law.Goals as goal

pub returns-clause-some : goal.returns-clause-some
returns-clause-some c = sort_answer

pub returns-clause-one : goal.returns-clause-one
returns-clause-one c = sort_answer_one
