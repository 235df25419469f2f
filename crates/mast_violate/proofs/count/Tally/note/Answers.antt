use Rattle.mast_violate.proofs.SeenLemmas.{noted_tally}
use Rattle.mast_violate.proofs.count.Tally.note.Goals as goal

pub returns : goal.returns
returns c = λ before is. noted_tally c.args.self.now before c.args.inclusion c.clashing.result c.clashing-2.result c.clashing-3.result is c.clashing.ensures c.clashing-2.ensures c.clashing-3.ensures
