-- The name of the table at a row's place.
use Rattle.std.proofs.Common.{◌∙◌, sym}
use Rattle.mast_write.proofs.ConflictLemmas.{name_is}
use Rattle.mast_write.proofs.conflicts.table_of.Goals as goal

pub returns : goal.returns
returns c = c.as_str.ensures ∙ sym (name_is c.args.tables.now c.args.row.table c.index-tables-row.result c.requires)
