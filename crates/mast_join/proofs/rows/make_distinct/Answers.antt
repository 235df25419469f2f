use Rattle.mast_join.proofs.RowListLemmas.{distinct}
use Rattle.mast_join.proofs.rows.make_distinct.Goals as goal

pub returns-clause-once : goal.returns-clause-once
returns-clause-once c =
    (distinct c.args.numbers.now.items c.sort_unstable.new.self.items c.dedup.new.self.items c.sort_unstable.ensures.permutation c.sort_unstable.ensures.sorted c.dedup.ensures.filtered).0

pub returns-clause-same : goal.returns-clause-same
returns-clause-same c =
    (distinct c.args.numbers.now.items c.sort_unstable.new.self.items c.dedup.new.self.items c.sort_unstable.ensures.permutation c.sort_unstable.ensures.sorted c.dedup.ensures.filtered).1
