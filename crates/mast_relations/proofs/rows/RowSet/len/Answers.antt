use Rattle.mast_relations.proofs.ListLemmas.{each_once}
use Rattle.mast_relations.proofs.RowSetLemmas.{view_once}
use Rattle.mast_relations.proofs.rows.RowSet.len.Goals as goal

pub returns-clause-different : goal.returns-clause-different
returns-clause-different c =
    let r = c.self.inside in
    each_once c.args.self.now.list (view_once r.width r.hashes r.numbers.items c.args.self.now c.self.invariant c.self.view_is)
