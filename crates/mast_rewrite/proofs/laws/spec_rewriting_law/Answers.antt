use Rattle.mast_canon.specs.Facts.{IsOfTables}
use Rattle.mast_canon.specs.Laws.{Passing}
use Rattle.mast_rewrite.proofs.RewritingLemmas.{spec_rewriting}
use Rattle.mast_rewrite.proofs.laws.spec_rewriting_law.Goals as goal

pub returns-clause-all : goal.returns-clause-all
returns-clause-all c = λ spec tables. spec_rewriting spec tables (IsOfTables tables)

pub returns-clause-some : goal.returns-clause-some
returns-clause-some c = λ spec tables rows. spec_rewriting spec tables (Passing rows)
