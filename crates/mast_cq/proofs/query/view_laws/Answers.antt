use Rattle.std.proofs.Common.{refl}
use Rattle.mast_cq.proofs.ContentLemmas.{both_law}
use Rattle.mast_cq.proofs.HashLemmas.{views_told}
use Rattle.mast_cq.proofs.query.view_laws.Goals as goal

pub returns-clause-equal : goal.returns-clause-equal
returns-clause-equal c = λ q r. both_law _ _ c.arg_laws.ensures.equal c.atom_laws.ensures.equal _ _ _ _

pub returns-clause-feeds : goal.returns-clause-feeds
returns-clause-feeds c = λ q. refl

pub returns-clause-hash : goal.returns-clause-hash
returns-clause-hash c = views_told _ (λ q. refl)
