use Rattle.mast_cq.proofs.ContentLemmas.{met_law}
use Rattle.mast_cq.proofs.unifier.met_laws.Goals as goal

pub returns : goal.returns
returns c = λ a b. met_law _ _ c.bindings_laws.ensures.bindings c.atom_laws.ensures.equal _ _ _ _
