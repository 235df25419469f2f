-- The lexer's loop: what was read, and what is left, are what the whole reads as.
use Rattle.std.proofs.Common.{◌≡◌, ℕ, zero, suc, ◌+◌, ◌-◌, ◌<◌, ◌≤◌, ◌==◌, true, false, List, ◌∷◌, [], ◌++◌, length, take, drop, refl, ap, sym, ◌∙◌, arith, append_assoc}
use Rattle.std.proofs.lemmas.List.{append-nil}
use Rattle.std.proofs.lemmas.Bool.Decides.{nat_tests}
use Rattle.mast_source.specs.Bom.{bom_length}
use Rattle.mast_tree.specs.declared.token.Token.{Token}
use Rattle.mast_tree.specs.declared.token.TokenKind.{TokenKind}
use Rattle.mast_tree.specs.declared.token.LexKind.{LexKind}
use Rattle.mast_tree.specs.declared.scanner.Scanned.{Scanned}
use Rattle.mast_tree.specs.declared.scanner.Scanned.TheVariants as scanned
use Rattle.mast_tree.specs.Tokens.{feeds}
use Rattle.mast_tree.specs.inside.Scanner.{blank_scan, longest_token}
use Rattle.mast_tree.specs.inside.Lexed.{Lexed, read, wrong, added, on_scanned, on_rest, lexed, reading}

added_none : (l : Lexed) → added [] l ≡ l
added_none (read ts) = refl
added_none (wrong b) = refl

added_one : (ts : List Token) (t : Token) (l : Lexed) → added ts (added (t ∷ []) l) ≡ added (ts ++ t ∷ []) l
added_one ts t (read us) = ap read (sym (append_assoc ts (t ∷ []) us))
added_one ts t (wrong b) = refl

-- the loop at the start
pub started : (source : List ℕ) (tokens : List Token) (start : ℕ) (rest : List ℕ) → tokens ≡ [] → start ≡ bom_length source → rest ≡ drop (bom_length source) source → added tokens (lexed (length source - 0) start 1 rest) ≡ reading source
started source tokens start rest t s r =
    let all : length source - 0 ≡ length source = omega arith in
    ap (λ x. added x (lexed (length source - 0) start 1 rest)) t
    ∙ added_none (lexed (length source - 0) start 1 rest)
    ∙ ap (λ x. lexed x start 1 rest) all
    ∙ ap (λ x. lexed (length source) start 1 x) r
    ∙ ap (λ x. lexed (length source) x 1 (drop (bom_length source) source)) s

-- the facts of one turn: where the gap ends
pub record Turn (source : List ℕ) (tokens : List Token) (end counter at line : ℕ) (rest gap after : List ℕ) : Type 0 where
  pub told : added tokens (lexed (end - counter) at line rest) ≡ reading source
  pub within : counter < end
  pub ends : ℕ
  pub found : ends ≡ blank_scan 0 false rest
  pub gap_is : gap ≡ take ends rest
  pub after_is : after ≡ drop ends rest

turned : (source : List ℕ) (tokens : List Token) (end counter at line : ℕ) (rest gap after : List ℕ) → Turn source tokens end counter at line rest gap after → added tokens (on_rest (at + length gap) (line + feeds gap) after (lexed (end - (counter + 1)))) ≡ reading source
turned source tokens end counter at line rest gap after t =
    let less : suc (end - (counter + 1)) ≡ end - counter = let w = t.within in omega arith in
    let n = t.ends in
    ap (λ x. added tokens (on_rest (at + length x) (line + feeds x) after (lexed (end - (counter + 1))))) (t.gap_is ∙ ap (λ m. take m rest) t.found)
    ∙ ap (λ x. added tokens (on_rest (at + length (take (blank_scan 0 false rest) rest)) (line + feeds (take (blank_scan 0 false rest) rest)) x (lexed (end - (counter + 1))))) (t.after_is ∙ ap (λ m. drop m rest) t.found)
    ∙ ap (λ x. added tokens (lexed x at line rest)) less
    ∙ t.told

is_nil : (xs : List ℕ) → (length xs == 0) ≡ true → xs ≡ []
is_nil [] h = refl
is_nil (x ∷ xs) h = absurd (let n : length (x ∷ xs) ≡ 0 = grind (arith, nat_tests) in omega arith)

-- nothing is left: all was read
pub all_read : (source : List ℕ) (tokens : List Token) (end counter at line : ℕ) (rest gap after : List ℕ) → Turn source tokens end counter at line rest gap after → (length after == 0) ≡ true → reading source ≡ read tokens
all_read source tokens end counter at line rest gap after t h =
    sym (turned source tokens end counter at line rest gap after t)
    ∙ ap (λ x. added tokens (on_rest (at + length gap) (line + feeds gap) x (lexed (end - (counter + 1))))) (is_nil after h)
    ∙ ap read (append-nil tokens)

rest_is : (from line : ℕ) (after : List ℕ) (more : ℕ → ℕ → List ℕ → Lexed) (f : Scanned) → (length after == 0) ≡ false → f ≡ longest_token after → on_scanned f from line after more ≡ on_rest from line after more
rest_is from line [] more f h e = absurd (cc)
rest_is from line (b ∷ after) more f h e = ap (λ x. on_scanned x from line (b ∷ after) more) e

-- what is wrong here is wrong in the source
pub breach_read : (source : List ℕ) (tokens : List Token) (end counter at line : ℕ) (rest gap after : List ℕ) (f : Scanned) (k : LexKind) (n : ℕ) → Turn source tokens end counter at line rest gap after → (length after == 0) ≡ false → f ≡ longest_token after → f ≡ scanned.Wrong k n → reading source ≡ wrong (record { at = at + length gap + n; kind = k })
breach_read source tokens end counter at line rest gap after f k n t h e is =
    sym (ap (λ x. added tokens x) (sym (ap (λ x. on_scanned x (at + length gap) (line + feeds gap) after (lexed (end - (counter + 1)))) is) ∙ rest_is (at + length gap) (line + feeds gap) after (lexed (end - (counter + 1))) f h e)
    ∙ turned source tokens end counter at line rest gap after t)

-- the loop behind a token
pub token_read : (source : List ℕ) (tokens new : List Token) (end counter at line : ℕ) (rest gap after word more : List ℕ) (f : Scanned) (k : TokenKind) (n here next : ℕ) → Turn source tokens end counter at line rest gap after → (length after == 0) ≡ false → f ≡ longest_token after → f ≡ scanned.Token k n → here ≡ line + feeds gap → word ≡ take n after → more ≡ drop n after → next ≡ here + feeds word → new ≡ tokens ++ record { kind = k; from = at + length gap; to = at + length gap + n; line = here } ∷ [] → added new (lexed (end - (counter + 1)) (at + length gap + n) next more) ≡ reading source
token_read source tokens new end counter at line rest gap after word more f k n here next t h e is here_is word_is more_is next_is new_is =
    let from = at + length gap in
    let left = end - (counter + 1) in
    let token : ℕ → Token = λ l. record { kind = k; from = from; to = from + n; line = l } in
    ap (λ x. added x (lexed left (from + n) next more)) new_is
    ∙ sym (added_one tokens (token here) (lexed left (from + n) next more))
    ∙ ap (λ x. added tokens (added (token here ∷ []) (lexed left (from + n) x more))) (next_is ∙ ap (λ x. here + feeds x) word_is)
    ∙ ap (λ x. added tokens (added (token here ∷ []) (lexed left (from + n) (here + feeds (take n after)) x))) more_is
    ∙ ap (λ l. added tokens (added (token l ∷ []) (lexed left (from + n) (l + feeds (take n after)) (drop n after)))) here_is
    ∙ ap (λ x. added tokens x) (sym (ap (λ x. on_scanned x from (line + feeds gap) after (lexed left)) is) ∙ rest_is from (line + feeds gap) after (lexed left) f h e)
    ∙ turned source tokens end counter at line rest gap after t

-- no turn is left: all was read
pub turns_over : (source : List ℕ) (tokens : List Token) (end counter at line : ℕ) (rest : List ℕ) → added tokens (lexed (end - counter) at line rest) ≡ reading source → end ≤ counter → reading source ≡ read tokens
turns_over source tokens end counter at line rest told over =
    let none : zero ≡ end - counter = omega arith in
    sym told ∙ ap (λ x. added tokens (lexed x at line rest)) (sym none) ∙ ap read (append-nil tokens)
