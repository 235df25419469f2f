use Rattle.std.proofs.Common.{◌≡◌, length}
use Rattle.mast_grammar.specs.inside.Machine.{can_end}
use Rattle.mast_grammar.proofs.stack.Stack.may_end.Given as goal

abbrev pub invariant-loop-part : goal.invariant-loop-part
invariant-loop-part l = can_end l.self ≡ can_end l.fn.self

abbrev pub decreases-loop-part : goal.decreases-loop-part
decreases-loop-part l = length l.self
