use Rattle.std.proofs.Common.{◌≡◌, ◌++◌, drop}
use Rattle.mast_join.proofs.conjunction.columns.Given as goal

-- what is put and what is left are the whole
abbrev pub invariant-loop-place : goal.invariant-loop-place
invariant-loop-place l = l.columns ++ drop l.place-index l.front ≡ l.front
