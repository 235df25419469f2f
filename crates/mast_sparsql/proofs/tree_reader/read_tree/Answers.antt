use Rattle.std.proofs.Common.{arith}
use Rattle.mast_sparsql.proofs.TreeLemmas.{is_tree}
use Rattle.mast_sparsql.proofs.tree_reader.read_tree.Goals as goal

pub returns : goal.returns
returns c =
    is_tree c.args.terminals.now c.new-cursor.result c.lines.new.self c.body.new.self c.may.new.self
    (record { lines = c.in_ok-lines.lines; body = c.in_ok-body.body; semicolon = c.in_ok-semicolon.semicolon })
    c.new-cursor.ensures c.in_ok-lines.ensures c.in_ok-body.ensures c.in_ok-semicolon.ensures
    (λ h. let left = c.left.ensures in let none = c.if-left-gt0.false in omega arith)
