use Rattle.std.proofs.Common.{refl}
use Rattle.mast_rewrite.specs.contracts.pair.PairPartialEq.TheImpl as pair
use Rattle.mast_rewrite.proofs.MemoLemmas.{memo_pair}
use Rattle.mast_rewrite.proofs.memo.Memo.learn_pair.Goals as goal

pub returns : goal.returns
returns c =
    memo_pair c.args.normal.now pair.eq-value.it (λ x y. (c.pair_laws.ensures x y).0) c.made.new.self _ c.args.pair c.in_ok-list.list refl c.in_ok-insert.ensures.entries c.in_ok-list.ensures.exact c.in_ok-list.ensures.memo
