use Rattle.std.proofs.Common.{take}
use Rattle.mast_relations.specs.Matches.{In}
use Rattle.mast_certain.specs.inside.Found.{HasGained, HasRow}
use Rattle.mast_certain.proofs.tuples.add_tuples.Given as goal

abbrev pub invariant-loop-number : goal.invariant-loop-number
invariant-loop-number l = record {
  gained : HasGained (HasRow l.extensions (λ row. In row (take l.number l.rows.list))) l.fn.tuples.items l.tuples.items;
}
