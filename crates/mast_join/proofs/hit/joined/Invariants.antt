-- The rows so far and those of the sets that are left are the whole.
use Rattle.std.proofs.Common.{◌≡◌, ◌++◌, [], drop, map, get_or, length, ◌<◌}
use Rattle.std.specs.List.{AllByRecursion}
use Rattle.mast_join.specs.Extensions.{union}
use Rattle.mast_join.proofs.hit.joined.Given as goal

abbrev pub invariant-loop-set : goal.invariant-loop-set
invariant-loop-set l = record {
  rows : l.rows.items ++ union (map (λ number. get_or l.extensions.sets number []) (drop l.set-index l.sets)) ≡ union (map (λ number. get_or l.extensions.sets number []) l.sets);
  left : AllByRecursion (λ number. number < length l.extensions.sets) (drop l.set-index l.sets);
}
