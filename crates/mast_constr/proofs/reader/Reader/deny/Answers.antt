-- A denial has atoms.
use Rattle.std.proofs.Common.{sym, subst}
use Rattle.mast_tree.specs.Judgements.{Judges}
use Rattle.mast_constr.specs.Denials.{AreDenied}
use Rattle.mast_constr.specs.inside.Rules.{page_in}
use Rattle.mast_constr.proofs.AtomLemmas.{some_denied}
use Rattle.mast_constr.proofs.reader.Reader.deny.Goals as goal

pub returns-in-Some : goal.returns-in-Some
returns-in-Some c = λ dates are.
    let page = page_in c.args.self.now in
    let items = c.args.items.now in
    subst (λ js. Judges c.args.vocab.now js c.all_atoms.new.vocab (AreDenied dates c.all_atoms.new.vocab page items) c.all_atoms.result)
    (sym (some_denied dates page c.args.line items c.in-Some.field-0.0.now c.in-Some.field-0.1.now c.in-Some.ensures)) (c.all_atoms.ensures dates are)
