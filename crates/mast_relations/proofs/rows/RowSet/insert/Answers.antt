use Rattle.std.proofs.Common.{refl}
use Rattle.mast_relations.proofs.RowSetLemmas.{found_there}
use Rattle.mast_relations.proofs.rows.RowSet.insert.Goals as goal

pub returns-then-find-gt0 : goal.returns-then-find-gt0
returns-then-find-gt0 c = (found_there c.args.self.now c.args.row.now c.find.result c.find.ensures c.if-find-gt0.true, refl)
