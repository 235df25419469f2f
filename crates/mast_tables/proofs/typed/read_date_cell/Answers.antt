use Rattle.std.proofs.Common.{rules}
use Rattle.mast_tables.proofs.typed.read_date_cell.Goals as goal

pub returns-in-Err : goal.returns-in-Err
returns-in-Err c = (c.requires.text, search rules, c.requires.kind, c.in-Err.ensures.refuses)
