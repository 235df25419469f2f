-- The atoms were read from none on.
use Rattle.std.proofs.Common.{subst}
use Rattle.mast_tree.specs.Judgements.{Judges}
use Rattle.mast_constr.specs.Denials.{AreDenied}
use Rattle.mast_constr.specs.inside.Atoms.{atoms_from}
use Rattle.mast_constr.specs.inside.Rules.{page_in}
use Rattle.mast_constr.proofs.AtomLemmas.{all_denied}
use Rattle.mast_constr.proofs.StepLemmas.{all_stops}
use Rattle.mast_constr.proofs.reader.Reader.all_atoms.Goals as goal

pub returns-in_err-atoms : goal.returns-in_err-atoms
returns-in_err-atoms c = λ dates are.
    let page = page_in c.args.self.now in
    let items = c.args.items.now in
    subst (λ k. Judges c.args.vocab.now (atoms_from dates page 0 k items) c.atoms.new.vocab (AreDenied dates c.atoms.new.vocab page items) c.from_residual.result) c.new-variables.ensures
    (all_stops c.args.vocab.now c.atoms.new.vocab c.atoms.new.vocab (atoms_from dates page 0 c.new-variables.result items) _ _
    c.from_residual.result c.in_err-atoms.field-0.0 c.from_residual.ensures.1 (c.in_err-atoms.ensures dates are))

pub returns : goal.returns
returns c = λ dates are.
    all_denied dates (page_in c.args.self.now) c.args.items.now c.new-variables.result c.atoms.new.variables c.args.vocab.now c.atoms.new.vocab c.new-atoms.result c.atoms.new.atoms
    c.new-variables.ensures c.new-atoms.ensures (c.in_ok-atoms.ensures dates are)
