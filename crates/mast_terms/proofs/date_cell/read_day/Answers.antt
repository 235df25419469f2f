use Rattle.std.proofs.Common.{◌≤◌, subst}
use Rattle.mast_terms.specs.inside.DateParts.{NotShown, dashed}
use Rattle.mast_terms.proofs.DateCellLemmas.{day_stops, end_day}
use Rattle.mast_terms.proofs.date_cell.read_day.Goals as goal

pub returns-in-Err-clause-stops : goal.returns-in-Err-clause-stops
returns-in-Err-clause-stops c =
    day_stops c.args.year c.args.month c.args.bytes.now c.in-Err.at c.requires.year_from c.requires.year_to c.requires.month_from c.requires.month_to
    (subst (λ most. NotShown dashed 1 most c.args.bytes.now c.in-Err.at) c.days_in_month.ensures c.in-Err.ensures.stops)

pub returns-then-bytes-gt3-clause-stops : goal.returns-then-bytes-gt3-clause-stops
returns-then-bytes-gt3-clause-stops c =
    end_day c.args.year c.args.month c.in-Ok.day c.args.bytes.now
    (record {
      year_from = c.requires.year_from;
      year_to = c.requires.year_to;
      month_from = c.requires.month_from;
      month_to = c.requires.month_to;
      day_from = c.in-Ok.ensures.least;
      day_to = subst (λ most. c.in-Ok.day ≤ most) c.days_in_month.ensures c.in-Ok.ensures.most;
    })
    c.in-Ok.ensures.shown c.if-bytes-gt3.true
