use Rattle.std.proofs.Common.{arith, sym}
use Rattle.mast_relations.specs.Stores.{contents}
use Rattle.mast_conditions.specs.Truth.{truth}
use Rattle.mast_conditions.proofs.TruthLemmas.{walks_end}
use Rattle.mast_conditions.proofs.asking.+holds.Goals as goal

pub row_holds-returns-clause-truth : goal.row_holds-returns-clause-truth
row_holds-returns-clause-truth t c =
    let relations = contents c.args.relations.now in
    let l = c.loop-place in
    sym (walks_end relations c.args.entry.now (truth relations c.args.rest.now) c.args.numbers.now.items l.place l.invariant.walked (omega (arith, c.loop-place-test.false)))
