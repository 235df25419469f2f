use Rattle.std.proofs.Common.{◌≡◌, ◌+◌, ◌-◌, length}
use Rattle.mast_sql.specs.inside.Lexed.{added, lexed, reading}
use Rattle.mast_sql.proofs.tokens.lex.Given as goal

abbrev pub invariant-turns : goal.invariant-turns
invariant-turns l = (added l.tokens (lexed (l.count-end - l.count) l.at l.rest) ≡ reading l.text) × (l.at + length l.rest ≡ length l.text) × (length l.tokens ≡ l.count)
