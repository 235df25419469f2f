use Rattle.std.proofs.Common.{arith}
use Rattle.std.proofs.lemmas.Bool.{ltb-false, ltb-true}
use Rattle.mast_relations.proofs.RowSetLemmas.{found_there, not_there}
use Rattle.mast_relations.proofs.rows.RowSet.has.Goals as goal

pub returns-clause-yes : goal.returns-clause-yes
returns-clause-yes c = λ e. found_there c.args.self.now c.args.row.now c.find.result c.find.ensures (ltb-true 0 c.find.result e)

pub returns-clause-no : goal.returns-clause-no
returns-clause-no c = λ e. not_there c.args.self.now c.args.row.now c.find.result c.find.ensures (let le = ltb-false 0 c.find.result e in omega (arith, le))
