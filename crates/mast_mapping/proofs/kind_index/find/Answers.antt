use Rattle.std.proofs.Common.{◌∙◌}
use Rattle.mast_mapping.proofs.IndexLemmas.{find_shown}
use Rattle.mast_mapping.proofs.kind_index.find.Goals as goal

pub returns : goal.returns
returns c = c.get.ensures.value ∙ find_shown c.args.name.now c.args.kinds.now.entries
