use Rattle.std.proofs.Common.{◌≡◌, drop}
use Rattle.mast_tree.specs.MainNode.{main_node}
use Rattle.mast_tree.specs.Seen.{seen}
use Rattle.mast_tree.proofs.document.Doc.main_node.Given as goal

-- the main node is among the items that are left
abbrev pub invariant-loop-at : goal.invariant-loop-at
invariant-loop-at l = main_node (seen l.self) l.word (drop l.at l.items) ≡ main_node (seen l.self) l.word l.items
