use Rattle.mast_rewrite.specs.contracts.pair.PairPartialEq.TheImpl as pair
use Rattle.mast_rewrite.proofs.MemoLemmas.{found_is}
use Rattle.mast_rewrite.proofs.memo.Memo.found.Goals as goal

pub returns : goal.returns
returns c = λ tbox w. found_is tbox pair.eq-value.it (λ x y. (c.pair_laws.ensures x y).0) c.args.self.now c.args.pair c.get_index_of.result c.get_index_of.ensures.within c.get_index_of.ensures.value w
