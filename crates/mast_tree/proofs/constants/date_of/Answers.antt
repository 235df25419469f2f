-- The date of a text is the one that was read, and a text of which none was read has none.
use Rattle.std.proofs.Common.{ap, sym, ◌∙◌}
use Rattle.mast_tree.specs.Constants.{date_in}
use Rattle.mast_tree.proofs.ConstantLemmas.{date_is, date_none}
use Rattle.mast_tree.proofs.constants.date_of.Goals as goal

pub returns-in-Ok : goal.returns-in-Ok
returns-in-Ok c = λ dates are.
    ap (λ d. date_in d c.args.line) (date_is dates c.args.text.now c.in-Ok.date are (sym c.as_bytes.ensures.value ∙ c.in-Ok.ensures.accepts))

pub returns-in-Err : goal.returns-in-Err
returns-in-Err c = λ dates are.
    rw c.wrong.ensures (ap (λ d. date_in d c.args.line) (date_none dates c.args.text.now are (λ t. c.in-Err.ensures.refuses (t.0, c.as_bytes.ensures.value ∙ t.1))))
