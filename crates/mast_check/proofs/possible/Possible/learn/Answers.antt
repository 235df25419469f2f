use Rattle.mast_cq.specs.contracts.atom.AtomPartialEq.TheImpl as atom
use Rattle.mast_check.proofs.PossibleLemmas.{possible_more}
use Rattle.mast_check.proofs.possible.Possible.learn.Goals as goal

pub returns : goal.returns
returns c = λ over right told.
    possible_more atom.eq-value.it (λ x y. (c.atom_laws.ensures.equal x y).0) over c.args.self.now (record { few = c.args.self.now.few; known = c.insert.new.self }) c.args.atom c.args.has
    c.in_ok-insert.ensures.entries told right
