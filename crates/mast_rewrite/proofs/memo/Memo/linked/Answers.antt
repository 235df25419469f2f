use Rattle.mast_rewrite.proofs.ApartLemmas.{none_counts}
use Rattle.mast_rewrite.proofs.memo.Memo.linked.Goals as goal

pub returns-then-not-are_linked-clause-place : goal.returns-then-not-are_linked-clause-place
returns-then-not-are_linked-clause-place c = none_counts c.args.normal.now c.args.pair c.are_linked.result c.if-not-are_linked.true c.are_linked.ensures
