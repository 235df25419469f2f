use Rattle.mast_tree.proofs.ReaderLemmas.{Reading}
use Rattle.mast_tree.proofs.document.read_items.Given as goal

abbrev pub invariant-loop-token : goal.invariant-loop-token
invariant-loop-token l = Reading l.tokens l.trees l.state l.depth l.at l.token-index
