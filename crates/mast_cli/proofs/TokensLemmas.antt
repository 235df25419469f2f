-- A source has no more tokens than bytes.
use Rattle.std.proofs.Common.{◌≡◌, ◌≤◌, ◌+◌, ℕ, true, List, [], ◌∷◌, ◌++◌, length, drop, ap, ◌∙◌, arith}
use Rattle.std.proofs.Common.{length-append, length-drop}
use Rattle.mast_tree.specs.declared.token.Token.{Token}
use Rattle.mast_tree.specs.declared.token.TokenKind.{TokenKind}
use Rattle.mast_tree.specs.Tokens.{is_token, feeds}
use Rattle.mast_source.specs.Bom.{bom_length}
use Rattle.mast_tree.specs.Source.{Lexes, AreTokens}

-- a token has a byte
some_byte : (kind : TokenKind) (word : List ℕ) → is_token kind word ≡ true → 1 ≤ length word
some_byte kind [] h = absurd (cc)
some_byte kind (b ∷ word) h = omega arith

-- a token's bytes and what follows are among the bytes
shorter : (bytes gap word rest : List ℕ) → bytes ≡ gap ++ (word ++ rest) → 1 ≤ length word → length rest + 1 ≤ length bytes
shorter bytes gap word rest e some =
    let whole = ap length e ∙ length-append gap (word ++ rest) in
    let inner = length-append word rest in
    omega (whole, inner, arith)

lexes_few : (at line : ℕ) (bytes : List ℕ) (tokens : List Token) → Lexes at line bytes tokens → length tokens ≤ length bytes
lexes_few at line bytes [] h = omega arith
lexes_few at line bytes (t ∷ ts) h =
    let less = shorter bytes h.0 h.1 h.2 h.3 (some_byte t.kind h.1 h.5.form) in
    let few = lexes_few t.to (t.line + feeds h.1) h.2 ts h.9 in
    omega (less, few, arith)

-- a source has no more tokens than bytes
pub tokens_few : (source : List ℕ) (tokens : List Token) → AreTokens source tokens → length tokens ≤ length source
tokens_few source tokens h =
    let few = lexes_few (bom_length source) 1 (drop (bom_length source) source) tokens h.1 in
    let cut = length-drop (bom_length source) source in
    omega (few, cut, arith)
