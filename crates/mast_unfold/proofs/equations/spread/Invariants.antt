use Rattle.mast_unfold.specs.inside.Spreading.{entries, Spreads, next_in}
use Rattle.mast_unfold.proofs.equations.spread.Given as goal

-- the first notes were spread
abbrev pub invariant-loop-done : goal.invariant-loop-done
invariant-loop-done l = Spreads (next_in l.links) (entries l.fn.known) (entries l.known) l.done
