use Rattle.mast_grammar.proofs.LawLemmas.{has_one_answer}
use Rattle.mast_grammar.proofs.laws.grammar_law.Goals as goal

pub returns : goal.returns
returns c = λ ks. has_one_answer ks
