use Rattle.std.proofs.Common.{◌∙◌}
use Rattle.mast_tree.proofs.PrefixLemmas.{find_shown}
use Rattle.mast_tree.proofs.prefix.find.Goals as goal

pub returns : goal.returns
returns c = c.get.ensures.value ∙ find_shown c.args.prefix.now c.args.namespaces.now.entries
