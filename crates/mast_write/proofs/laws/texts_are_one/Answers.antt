-- A list of lines is a set, which has one text.
use Rattle.mast_write.specs.LineText.{StandsIn}
use Rattle.mast_write.proofs.SetLemmas.{some_text}
use Rattle.mast_write.proofs.TextLemmas.{one_text}
use Rattle.mast_write.proofs.laws.texts_are_one.Goals as goal

pub returns : goal.returns
returns c = record {
  some = some_text;
  one = λ lines others text other same a b. one_text (StandsIn lines) (StandsIn others) text other same a b;
}
