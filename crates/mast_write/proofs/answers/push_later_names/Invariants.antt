-- What is written and the names that are left make the whole.
use Rattle.std.proofs.Common.{◌≡◌, ◌++◌, drop}
use Rattle.mast_write.specs.AnswerLines.{after_tabs}
use Rattle.mast_write.proofs.answers.push_later_names.Given as goal

abbrev pub invariant-loop-name : goal.invariant-loop-name
invariant-loop-name l = l.text.items ++ after_tabs (drop l.name-index l.names) ≡ l.fn.text.items ++ after_tabs l.names
