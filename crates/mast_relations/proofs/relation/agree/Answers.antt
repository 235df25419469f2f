use Rattle.std.proofs.Common.{arith}
use Rattle.mast_relations.proofs.IndexLemmas.{picked_each, picked_same}
use Rattle.mast_relations.proofs.relation.agree.Goals as goal

pub returns-then-row-column-clause-no : goal.returns-then-row-column-clause-no
returns-then-row-column-clause-no c = λ q e.
    c.if-row-column.true (picked_each c.args.row.now c.args.values.now c.args.columns.now c.args.places.now c.loop-at.at c.requires.long e c.loop-at-test.true)

pub returns-clause-yes : goal.returns-clause-yes
returns-clause-yes c = λ q.
    picked_same c.args.row.now c.args.values.now c.args.columns.now c.args.places.now c.requires.long (λ k lt. c.loop-at.invariant k (omega (arith, lt, c.loop-at-test.false)))
