use Rattle.mast_join.proofs.PartsLemmas.{view_count}
use Rattle.mast_join.proofs.found.Choices.len.Goals as goal

pub returns : goal.returns
returns c =
    let t = c.self.inside in
    view_count t.width t.count t.numbers.items c.args.self.now c.self.invariant c.self.view_is
