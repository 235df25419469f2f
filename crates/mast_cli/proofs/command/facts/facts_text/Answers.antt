-- The text of these lines is the text of the facts' lines.
use Rattle.std.proofs.lemmas.Result.{IfOk-weaker}
use Rattle.mast_write.proofs.TextLemmas.{text_of_same}
use Rattle.mast_cli.proofs.command.facts.facts_text.Goals as goal

pub returns : goal.returns
returns c = IfOk-weaker c.into_text.result _ _ (λ text h. text_of_same _ _ text.items c.in_ok-lines.ensures h) c.into_text.ensures
