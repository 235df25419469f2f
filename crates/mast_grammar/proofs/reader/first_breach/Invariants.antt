use Rattle.std.proofs.Common.{◌≡◌}
use Rattle.mast_grammar.proofs.ReaderLemmas.{Keeps}
use Rattle.mast_grammar.proofs.reader.first_breach.Given as goal

abbrev pub invariant-loop-terminal : goal.invariant-loop-terminal
invariant-loop-terminal l = Keeps l.terminals l.stack l.counts l.terminal-index × (l.at ≡ l.terminal-index)
