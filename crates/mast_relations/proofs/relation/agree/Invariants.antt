use Rattle.std.proofs.Common.{◌≡◌, ◌<◌, ℕ, get_or}
use Rattle.mast_relations.proofs.relation.agree.Given as goal

-- so far they agree
abbrev pub invariant-loop-at : goal.invariant-loop-at
invariant-loop-at l = (k : ℕ) → k < l.at → get_or l.row (get_or l.columns k 0) 0 ≡ get_or l.values (get_or l.places k 0) 0
