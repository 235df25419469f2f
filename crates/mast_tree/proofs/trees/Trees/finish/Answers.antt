use Rattle.std.proofs.Common.{◌∙◌}
use Rattle.mast_tree.proofs.GrowthLemmas.{finish_name, finish_str}
use Rattle.mast_tree.proofs.trees.Trees.finish.Goals as goal

pub returns-in-AfterName : goal.returns-in-AfterName
returns-in-AfterName c = λ ks g h. finish_name c.args.self c.from_vec.result c.args.state ks c.in-AfterName.is (c.from_vec.ensures ∙ c.into_vec.ensures ∙ c.in_ok-push-in-AfterName.ensures.ok) g h

pub returns-in-AfterStr : goal.returns-in-AfterStr
returns-in-AfterStr c = λ ks g h. finish_str c.args.self c.from_vec-in-AfterStr.result c.args.state ks c.in-AfterStr.is (c.from_vec-in-AfterStr.ensures ∙ c.into_vec-in-AfterStr.ensures ∙ c.in_ok-push-in-AfterStr.ensures.ok) g h
