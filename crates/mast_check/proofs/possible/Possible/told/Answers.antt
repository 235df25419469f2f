use Rattle.std.proofs.Common.{◌∙◌}
use Rattle.mast_cq.specs.contracts.atom.AtomPartialEq.TheImpl as atom
use Rattle.mast_check.proofs.PossibleLemmas.{possible_told}
use Rattle.mast_check.proofs.possible.Possible.told.Goals as goal

pub returns : goal.returns
returns c = λ over right.
    possible_told atom.eq-value.it (λ x y. (c.atom_laws.ensures.equal x y).0) over c.args.self.now c.args.atom c.copied.result (c.copied.ensures ∙ c.get.ensures.value) right
