use Rattle.mast_canon.proofs.SupportLemmas.{facts_grow, chosen_lie, support_lies}
use Rattle.mast_canon.specs.Laws.{Passing}
use Rattle.mast_canon.proofs.laws.support_law.Goals as goal

pub returns-clause-grow : goal.returns-clause-grow
returns-clause-grow c = λ decls tables maps small large fact more f. facts_grow decls tables maps (Passing small) (Passing large) fact more f

pub returns-clause-choices : goal.returns-clause-choices
returns-clause-choices c = λ decls tables query choice h. chosen_lie decls tables query.from choice h

pub returns-clause-supports : goal.returns-clause-supports
returns-clause-supports c = support_lies
