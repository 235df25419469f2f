use Rattle.mast_terms.specs.inside.DateParts.{After, dashed, year_text}
use Rattle.mast_terms.proofs.DateCellLemmas.{month_stops, step_rest}
use Rattle.mast_terms.proofs.date_cell.read_month.Goals as goal

pub returns-in-Err-clause-stops : goal.returns-in-Err-clause-stops
returns-in-Err-clause-stops c = month_stops c.args.year c.args.bytes.now c.in-Err.at c.requires.from c.requires.to c.in-Err.ensures.stops

pub returns-in-Err-read_day-clause-stops : goal.returns-in-Err-read_day-clause-stops
returns-in-Err-read_day-clause-stops c = step_rest (After (year_text c.args.year)) (dashed c.in-Ok.month) 3 c.args.bytes.now c.in-Err-read_day.at c.in-Ok.ensures.shown c.in-Err-read_day.ensures.stops
