use Rattle.mast_rewrite.proofs.PairLemmas.{pair_equal}
use Rattle.mast_rewrite.proofs.pair.pair_laws.Goals as goal

pub returns : goal.returns
returns c = λ p q. pair_equal _ _ c.arg_laws.ensures.equal c.atom_laws.ensures.equal p q
