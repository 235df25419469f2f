use Rattle.std.proofs.Common.{arith}
use Rattle.std.proofs.lemmas.Str.Pattern.{split_once_first}
use Rattle.mast_tree.proofs.PrefixLemmas.{split_is}
use Rattle.mast_tree.proofs.prefix.split.Goals as goal

pub returns : goal.returns
returns c = split_is c.args.name.now c.split_once.result (split_once_first 58 c.args.name.now c.split_once.result c.split_once.ensures.cases (omega arith))
