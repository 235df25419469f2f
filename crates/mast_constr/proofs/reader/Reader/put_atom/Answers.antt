-- The atom was put behind the others.
use Rattle.mast_constr.specs.Denials.{atom_judged}
use Rattle.mast_constr.specs.inside.Rules.{page_in}
use Rattle.mast_constr.proofs.StepLemmas.{all_stops}
use Rattle.mast_constr.proofs.reader.Reader.put_atom.Goals as goal

pub returns-in_err-atom-clause-read : goal.returns-in_err-atom-clause-read
returns-in_err-atom-clause-read c = λ dates are.
    all_stops c.args.vocab.now c.atom.new.vocab c.atom.new.vocab (atom_judged dates (page_in c.args.self.now) c.args.number c.args.variables.now c.args.item.now) _ _
    c.from_residual.result c.in_err-atom.field-0.0 c.from_residual.ensures.1 (c.in_err-atom.ensures.read dates are)

pub returns-clause-read : goal.returns-clause-read
returns-clause-read c = λ dates are.
    let read = c.in_ok-atom.ensures.read dates are in
    (read.0, (read.1.0, (c.in_ok-atom.atom, c.in_ok-push.ensures.ok, read.1.1)))
