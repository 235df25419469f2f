-- A source read token by token.
use Rattle.std.specs.Prelude.{◌≡◌, ℕ, zero, suc, ◌+◌, false, List, [], ◌∷◌, ◌++◌, length, take, drop}
use Rattle.mast_tree.specs.declared.token.Token.{Token}
use Rattle.mast_tree.specs.declared.token.LexBreach.{LexBreach}
use Rattle.mast_tree.specs.declared.scanner.Scanned.{Scanned}
use Rattle.mast_tree.specs.declared.scanner.Scanned.TheVariants as scanned
use Rattle.mast_tree.specs.inside.Scanner.{blank_scan, longest_token}
use Rattle.mast_source.specs.Bom.{bom_length}
use Rattle.mast_tree.specs.Tokens.{feeds}

-- all tokens, or the first breach
pub data Lexed : Type 0 where
  read : List Token → Lexed
  wrong : LexBreach → Lexed

-- with tokens before
abbrev pub added : List Token → Lexed → Lexed
added before (read tokens) = read (before ++ tokens)
added before (wrong breach) = wrong breach

-- the token that was found, and what more is read behind it
abbrev pub on_scanned : Scanned → ℕ → ℕ → List ℕ → (ℕ → ℕ → List ℕ → Lexed) → Lexed
on_scanned (scanned.Wrong kind n) from line after more = wrong (record { at = from + n; kind = kind })
on_scanned (scanned.Token kind n) from line after more =
    added (record { kind = kind; from = from; to = from + n; line = line } ∷ [])
    (more (from + n) (line + feeds (take n after)) (drop n after))

-- behind the gap
abbrev pub on_rest : ℕ → ℕ → List ℕ → (ℕ → ℕ → List ℕ → Lexed) → Lexed
on_rest from line [] more = read []
on_rest from line (b ∷ bs) more = on_scanned (longest_token (b ∷ bs)) from line (b ∷ bs) more

-- one turn, of at most `turns`: the gap, and the token behind it
abbrev pub lexed : ℕ → ℕ → ℕ → List ℕ → Lexed
lexed zero at line bytes = read []
lexed (suc turns) at line bytes =
    let gap = blank_scan 0 false bytes in
    on_rest (at + length (take gap bytes)) (line + feeds (take gap bytes)) (drop gap bytes) (lexed turns)

-- what a source reads as, from behind the byte order mark
abbrev pub reading : List ℕ → Lexed
reading source = lexed (length source) (bom_length source) 1 (drop (bom_length source) source)

-- a source reads as these tokens
abbrev pub ReadsTokens : List ℕ → List Token → Type 0
ReadsTokens source tokens = reading source ≡ read tokens

-- a source reads up to this breach
abbrev pub ReadsBreach : List ℕ → LexBreach → Type 0
ReadsBreach source breach = reading source ≡ wrong breach
