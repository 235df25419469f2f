use Rattle.std.proofs.Common.{◌<◌, ℕ, get_or}
use Rattle.mast_relations.specs.Matches.{In}
use Rattle.mast_relations.proofs.planning.are_among.Given as goal

-- the variables so far are among them
abbrev pub invariant-loop-variable : goal.invariant-loop-variable
invariant-loop-variable l = (k : ℕ) → k < l.variable-index → In (get_or l.variables k 0) l.bound
