use Rattle.std.proofs.Common.{◌≡◌, ◌≤◌, ◌+◌, ◌-◌, length}
use Rattle.mast_tree.specs.inside.Lexed.{added, lexed, reading}
use Rattle.mast_tree.proofs.token_list.lex.Given as goal

abbrev pub invariant-turns : goal.invariant-turns
invariant-turns l = (added l.tokens (lexed (l.end - l.counter) l.at l.line l.rest) ≡ reading l.source) × (l.at + length l.rest ≡ length l.source) × (l.line ≤ l.at + 1)
