use Rattle.mast_sql.proofs.WordLemmas.{word_symbol, quoted_symbol, if_ok_each}
use Rattle.mast_sql.proofs.symbol.symbol_of.Goals as goal

pub returns-in-Word : goal.returns-in-Word
returns-in-Word c = if_ok_each c.word.result (λ s h u p. word_symbol c.args.text.now c.between-bytes.result.now c.args.token s c.in-Word.is c.between-bytes.ensures h p) c.word.ensures

pub returns-in-Quoted : goal.returns-in-Quoted
returns-in-Quoted c = if_ok_each c.quoted.result (λ s h u p. quoted_symbol c.args.text.now c.between-bytes.result.now c.args.token s c.in-Quoted.is c.between-bytes.ensures h u p) c.quoted.ensures
