use Rattle.std.proofs.Common.{true≢false, sym, ◌∙◌}
use Rattle.mast_terms.proofs.DateCellLemmas.{no_ones, bad_ones}
use Rattle.mast_terms.proofs.date_cell.read_last_digit.Goals as goal

pub returns-in-empty-clause-stops : goal.returns-in-empty-clause-stops
returns-in-empty-clause-stops c = no_ones c.args.least c.args.most c.args.tens c.args.bytes.now c.requires.least c.requires.large c.requires.tens c.in-empty.len_below

pub returns-else-ends_number-clause-stops : goal.returns-else-ends_number-clause-stops
returns-else-ends_number-clause-stops c =
    bad_ones c.args.least c.args.most c.args.tens c.args.bytes.now c.requires.least c.requires.large c.requires.tens c.in-len1-up.len_at_least
    (λ ends. true≢false (sym (c.ends_number.ensures.1 ends) ∙ c.if-ends_number.false))
