use Rattle.std.proofs.Common.{sym, ◌∙◌}
use Rattle.mast_mapping.proofs.KindLemmas.{kind_of_meaning}
use Rattle.mast_mapping.proofs.sources.column_kind.Goals as goal

pub returns : goal.returns
returns c = c.only_kind.ensures ∙ sym (kind_of_meaning c.args.tables.now c.args.entries.now c.args.alias.now c.args.name.now)
