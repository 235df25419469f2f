-- The words are wrong with this one.
use Rattle.mast_cli.proofs.ArgumentsLemmas.{wrong_word}
use Rattle.mast_cli.proofs.arguments.read_arguments.Goals as goal

pub returns-in-None : goal.returns-in-None
returns-in-None c =
    wrong_word c.loop-word.next c.loop-word.given c.take_word.new.given c.args.words.now c.loop-word.word-index c.word-item.result c.as_str.result.now c.in_ok-then.field-0
    c.loop-word-test.true c.word-item.is c.as_str.ensures.value c.in-None.is c.in_ok-then.ensures c.loop-word.invariant
