use Rattle.mast_rewrite.proofs.ClosureLemmas.{closure_begins, closure_closed, closure_least}
use Rattle.mast_rewrite.proofs.FiniteLemmas.{closure_finite}
use Rattle.mast_rewrite.proofs.laws.closure_law.Goals as goal

pub returns-clause-begins : goal.returns-clause-begins
returns-clause-begins c = λ tbox q. closure_begins tbox q

pub returns-clause-closed : goal.returns-clause-closed
returns-clause-closed c = λ tbox q. closure_closed tbox q

pub returns-clause-least : goal.returns-clause-least
returns-clause-least c = λ tbox q. closure_least tbox q

pub returns-clause-finite : goal.returns-clause-finite
returns-clause-finite c = λ tbox q. closure_finite tbox q
