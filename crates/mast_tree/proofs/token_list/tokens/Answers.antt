use Rattle.mast_tree.proofs.TokenLawLemmas.{answered}
use Rattle.mast_tree.proofs.token_list.tokens.Goals as goal

pub returns-in-Ok : goal.returns-in-Ok
returns-in-Ok c = answered c.args.source.now c.lex.result c.in-Ok.ensures.cases.1 c.lex.ensures
