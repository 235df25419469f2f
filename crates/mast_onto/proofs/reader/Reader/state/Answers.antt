-- What the axiom of the item states is added, or what stops that is the first breach.
use Rattle.mast_expressions.specs.Reads.{page}
use Rattle.mast_onto.specs.Axioms.{IsAxiom}
use Rattle.mast_onto.specs.inside.Shown.{shown_axiom}
use Rattle.mast_onto.proofs.ReadingLemmas.{state_added, state_stopped}
use Rattle.mast_onto.proofs.reader.Reader.state.Goals as goal

pub returns-in_err-read : goal.returns-in_err-read
returns-in_err-read c =
    let page = page c.args.self.now.places in
    let form = shown_axiom c.axiom_form.result in
    state_stopped page c.args.item.now c.args.vocab.now c.read.new.vocab c.read.new.vocab c.args.statements.now.list c.args.statements.now.list form (IsAxiom page c.read.new.vocab form)
    c.from_residual.result c.in_err-read.field-0.0 c.axiom_form.ensures c.from_residual.ensures.1 c.in_err-read.ensures

pub returns : goal.returns
returns c =
    let page = page c.args.self.now.places in
    let form = shown_axiom c.axiom_form.result in
    state_added page c.args.item.now c.args.vocab.now c.read.new.vocab c.args.statements.now.list c.state.new.self.list c.line.result form c.in_ok-read.read
    c.state.result c.axiom_form.ensures c.line.ensures c.in_ok-read.ensures.0 c.in_ok-read.ensures.1 c.state.ensures
