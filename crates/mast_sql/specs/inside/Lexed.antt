-- A text read token by token.
use Rattle.std.specs.Prelude.{◌≡◌, ℕ, zero, suc, ◌+◌, List, [], ◌∷◌, ◌++◌, length, drop, Option, Some, None}
use Rattle.mast_source.specs.Bom.{bom_length}
use Rattle.mast_sql.specs.declared.token.SqlToken.{SqlToken}
use Rattle.mast_sql.specs.declared.token.SqlLex.{SqlLex}
use Rattle.mast_sql.specs.declared.scanner.Scanned.{Scanned}
use Rattle.mast_sql.specs.declared.scanner.Gap.TheVariants.{Plain}
use Rattle.mast_sql.specs.declared.scanner.ScanState.TheVariants.{Start}
use Rattle.mast_sql.specs.inside.Scanner.{longest, gap_scan}

-- all tokens, or how many there are before something that is none
pub data Lexed : Type 0 where
  read : List SqlToken → Lexed
  wrong : ℕ → Lexed

-- with tokens before
abbrev pub added : List SqlToken → Lexed → Lexed
added before (read tokens) = read (before ++ tokens)
added before (wrong n) = wrong (length before + n)

-- behind the gap: the token that was found, and what is read behind it
abbrev pub on_scanned : Option Scanned → ℕ → List ℕ → (ℕ → List ℕ → Lexed) → Lexed
on_scanned None from after more = wrong 0
on_scanned (Some f) from after more =
    added (record { kind = f.kind; from = from; to = from + f.size } ∷ []) (more (from + f.size) (drop f.size after))

-- behind the gap, where something may stand
abbrev pub on_rest : ℕ → List ℕ → (ℕ → List ℕ → Lexed) → Lexed
on_rest from [] more = read []
on_rest from (b ∷ bs) more = on_scanned (longest Start 0 None (b ∷ bs)) from (b ∷ bs) more

-- one turn, of at most `turns`: the gap, and the token behind it
abbrev pub lexed : ℕ → ℕ → List ℕ → Lexed
lexed zero at bytes = read []
lexed (suc turns) at bytes =
    on_rest (at + gap_scan 0 Plain bytes) (drop (gap_scan 0 Plain bytes) bytes) (lexed turns)

-- what a text reads as, from behind the byte order mark
abbrev pub reading : List ℕ → Lexed
reading text = lexed (length text) (bom_length text) (drop (bom_length text) text)

-- the text reads as these tokens
abbrev pub ReadsAs : List ℕ → List SqlToken → Type 0
ReadsAs text tokens = reading text ≡ read tokens

-- the text reads up to a breach
abbrev pub StopsAt : List ℕ → SqlLex → Type 0
StopsAt text breach = reading text ≡ wrong breach.token
