use Rattle.mast_terms.specs.DateCell.{IsDateText}
use Rattle.mast_terms.specs.Printed.{two_digits}
use Rattle.mast_terms.proofs.DateCellLemmas.{century_stops, step_rest}
use Rattle.mast_terms.proofs.date_cell.read_date.Goals as goal

pub returns-in-Err-clause-refuses : goal.returns-in-Err-clause-refuses
returns-in-Err-clause-refuses c = (century_stops c.args.bytes.now c.in-Err.at c.in-Err.ensures.stops).refused

pub returns-in-Err-clause-at : goal.returns-in-Err-clause-at
returns-in-Err-clause-at c = (century_stops c.args.bytes.now c.in-Err.at c.in-Err.ensures.stops).front

pub returns-in-Err-read_year-clause-refuses : goal.returns-in-Err-read_year-clause-refuses
returns-in-Err-read_year-clause-refuses c =
    (step_rest IsDateText (two_digits c.in-Ok.century) 2 c.args.bytes.now c.in-Err-read_year.at c.in-Ok.ensures.shown c.in-Err-read_year.ensures.stops).refused

pub returns-in-Err-read_year-clause-at : goal.returns-in-Err-read_year-clause-at
returns-in-Err-read_year-clause-at c =
    (step_rest IsDateText (two_digits c.in-Ok.century) 2 c.args.bytes.now c.in-Err-read_year.at c.in-Ok.ensures.shown c.in-Err-read_year.ensures.stops).front
