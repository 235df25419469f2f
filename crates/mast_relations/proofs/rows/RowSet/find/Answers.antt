use Rattle.std.proofs.Common.{sym, ◌∙◌}
use Rattle.mast_relations.proofs.ListLemmas.{numbers_same}
use Rattle.mast_relations.proofs.RowSetLemmas.{find_found}
use Rattle.mast_relations.proofs.rows.RowSet.find.Goals as goal

pub returns-then-eq : goal.returns-then-eq
returns-then-eq c =
    let r = c.self.inside in
    find_found r.width r.hashes r.numbers.items c.args.self.now c.self.invariant c.self.view_is c.args.row.now c.args.hash c.loop-place.place c.requires c.loop-place.invariant c.loop-place-test.true
    (sym c.row.ensures.row ∙ numbers_same c.row.result.now c.args.row.now (sym c.if-eq.ensures))
