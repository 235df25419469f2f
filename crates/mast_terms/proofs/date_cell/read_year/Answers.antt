use Rattle.std.proofs.Common.{◌∙◌, ◌+◌, ◌*◌, ◌-◌, take, drop, length, subst, arith}
use Rattle.mast_terms.specs.inside.DateParts.{After, NotShown}
use Rattle.mast_terms.specs.Printed.{two_digits}
use Rattle.mast_terms.proofs.DateCellLemmas.{least_is, year_stops, year_step, step_rest}
use Rattle.mast_terms.proofs.date_cell.read_year.Goals as goal

pub returns-in-Err-clause-stops : goal.returns-in-Err-clause-stops
returns-in-Err-clause-stops c =
    year_stops c.args.century c.args.bytes.now c.in-Err.at c.requires
    (subst (λ least. NotShown two_digits least 99 c.args.bytes.now c.in-Err.at) (c.from-least.ensures ∙ least_is c.args.century) c.in-Err.ensures.stops)

pub returns-in-Err-read_month-clause-stops : goal.returns-in-Err-read_month-clause-stops
returns-in-Err-read_month-clause-stops c =
    step_rest (After (two_digits c.args.century)) (two_digits c.in-Ok.year) 2 c.args.bytes.now c.in-Err-read_month.at c.in-Ok.ensures.shown
    (year_step c.args.century c.in-Ok.year (c.from.result * 100 + c.from-in-Ok.result) (take (length c.args.bytes.now - 2) (drop 2 c.args.bytes.now)) c.in-Err-read_month.at
    (omega (arith, c.from.ensures, c.from-in-Ok.ensures)) c.in-Ok.ensures.most c.in-Err-read_month.ensures.stops)
