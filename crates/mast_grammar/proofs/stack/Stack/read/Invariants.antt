use Rattle.std.proofs.Common.{◌≡◌, length}
use Rattle.mast_grammar.specs.inside.Machine.{step}
use Rattle.mast_grammar.proofs.stack.Stack.read.Given as goal

abbrev pub invariant-loop-part : goal.invariant-loop-part
invariant-loop-part l = step l.self l.terminal ≡ step l.fn.self l.terminal

abbrev pub decreases-loop-part : goal.decreases-loop-part
decreases-loop-part l = length l.self
