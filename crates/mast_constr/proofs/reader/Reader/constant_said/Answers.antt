-- A constant was read and numbered.
use Rattle.mast_constr.specs.Denials.{constant_judged}
use Rattle.mast_tree.specs.Constants.{constant_of}
use Rattle.mast_tree.specs.Pages.{says}
use Rattle.mast_expressions.proofs.ReadLemmas.{handed}
use Rattle.mast_constr.specs.inside.Rules.{page_in}
use Rattle.mast_constr.proofs.AtomLemmas.{constant_stops, constant_read}
use Rattle.mast_constr.proofs.reader.Reader.constant_said.Goals as goal

pub returns-in_err-value : goal.returns-in_err-value
returns-in_err-value c = λ dates are.
    let page = page_in c.args.self.now in
    handed c.args.vocab.now c.args.vocab.now (constant_judged (constant_of dates page.doc (says page c.args.item.now)) c.args.line) _ c.from_residual.result c.in_err-value.field-0.0 c.from_residual.ensures.1
    (constant_stops dates page c.args.item.now c.args.line c.args.vocab.now c.args.vocab.now _ c.in_err-value.field-0.0 (c.in_err-value.ensures dates are))

pub returns : goal.returns
returns c = λ dates are.
    constant_read dates (page_in c.args.self.now) c.args.item.now c.args.line c.in_ok-value.value c.args.vocab.now c.constant-2.new.vocab c.constant-2.result (c.in_ok-value.ensures dates are) c.constant-2.ensures
