use Rattle.mast_relations.specs.Matches.{In}
use Rattle.mast_relations.specs.Stores.{HasOnlyGained}
use Rattle.mast_certain.proofs.SetLemmas.{AreThere}
use Rattle.mast_certain.proofs.tuples.add_rows.Given as goal

abbrev pub invariant-loop-number : goal.invariant-loop-number
invariant-loop-number l = record {
  gained : HasOnlyGained (λ row. In row l.rows.list) l.fn.union l.union;
  there : AreThere l.rows.list l.number l.union;
}
