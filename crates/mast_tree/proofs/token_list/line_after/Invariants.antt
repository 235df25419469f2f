use Rattle.std.proofs.Common.{◌≡◌, ◌+◌, ◌≤◌, drop}
use Rattle.mast_tree.specs.Tokens.{feeds}
use Rattle.mast_tree.proofs.token_list.line_after.Given as goal

abbrev pub invariant-loop-b : goal.invariant-loop-b
invariant-loop-b l = (l.now + feeds (drop l.b-index l.bytes) ≡ l.line + feeds l.bytes) × (l.now ≤ l.line + l.b-index)
