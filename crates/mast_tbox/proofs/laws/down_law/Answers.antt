use Rattle.mast_tbox.specs.Laws.{Has}
use Rattle.mast_tbox.specs.Lists.{itself}
use Rattle.mast_tbox.proofs.WorkLemmas.{reaches_join, reaches_more, reaches_least}
use Rattle.mast_tbox.proofs.DecideLemmas.{down_decided, down_finite}
use Rattle.mast_tbox.proofs.laws.down_law.Goals as goal

pub returns : goal.returns
returns c = record {
  itself = λ tbox g. itself;
  closed = λ tbox g x y r s. reaches_more g x y r s;
  least = λ tbox g set p closed h r. reaches_least (Has set) closed g h p r;
  joined = λ tbox g h i r s. reaches_join g h i r s;
  decided = down_decided;
  finite = down_finite;
}
