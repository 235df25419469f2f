use Rattle.mast_tree.proofs.SpanLemmas.{are_placed}
use Rattle.mast_tree.proofs.laws.span_law.Goals as goal

pub returns : goal.returns
returns c = λ source tokens a. are_placed source tokens a
