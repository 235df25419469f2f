-- The lexer's loop: what was read, and what is left, are what the whole reads as.
use Rattle.std.proofs.Common.{◌≡◌, ℕ, zero, suc, ◌+◌, ◌-◌, ◌<◌, ◌≤◌, ◌==◌, true, false, List, ◌∷◌, [], ◌++◌, length, drop, refl, ap, sym, ◌∙◌, arith, append_assoc}
use Rattle.std.specs.Prelude.{Option, Some, None}
use Rattle.std.proofs.lemmas.List.{append-nil, length-append}
use Rattle.std.proofs.lemmas.Bool.Decides.{nat_tests}
use Rattle.mast_source.specs.Bom.{bom_length}
use Rattle.mast_sql.specs.declared.token.SqlToken.{SqlToken}
use Rattle.mast_sql.specs.declared.scanner.Scanned.{Scanned}
use Rattle.mast_sql.specs.declared.scanner.Gap.TheVariants.{Plain}
use Rattle.mast_sql.specs.declared.scanner.ScanState.TheVariants.{Start}
use Rattle.mast_sql.specs.inside.Scanner.{longest, gap_scan}
use Rattle.mast_sql.specs.inside.Lexed.{Lexed, read, wrong, added, on_scanned, on_rest, lexed, reading}

added_none : (l : Lexed) → added [] l ≡ l
added_none (read ts) = refl
added_none (wrong n) = ap (λ m. wrong m) (omega arith)

added_one : (ts : List SqlToken) (t : SqlToken) (l : Lexed) → added ts (added (t ∷ []) l) ≡ added (ts ++ t ∷ []) l
added_one ts t (read us) = ap read (sym (append_assoc ts (t ∷ []) us))
added_one ts t (wrong n) = ap (λ m. wrong m) (let l = length-append ts (t ∷ []) in omega arith)

pub started : (text : List ℕ) (tokens : List SqlToken) (start : ℕ) (rest : List ℕ) → tokens ≡ [] → start ≡ bom_length text → rest ≡ drop (bom_length text) text → added tokens (lexed (length text - 0) start rest) ≡ reading text
started text tokens start rest t s r =
    let all : length text - 0 ≡ length text = omega arith in
    ap (λ x. added x (lexed (length text - 0) start rest)) t
    ∙ added_none (lexed (length text - 0) start rest)
    ∙ ap (λ x. lexed x start rest) all
    ∙ ap (λ x. lexed (length text) start x) r
    ∙ ap (λ x. lexed (length text) x (drop (bom_length text) text)) s

-- the facts of one turn: where the gap ends
pub record Turn (text : List ℕ) (tokens : List SqlToken) (end count at : ℕ) (rest gap after : List ℕ) : Type 0 where
  pub told : added tokens (lexed (end - count) at rest) ≡ reading text
  pub within : count < end
  pub ends : ℕ
  pub found : ends ≡ gap_scan 0 Plain rest
  pub size : length gap ≡ ends
  pub after_is : after ≡ drop ends rest

turned : (text : List ℕ) (tokens : List SqlToken) (end count at : ℕ) (rest gap after : List ℕ) → Turn text tokens end count at rest gap after → added tokens (on_rest (at + length gap) after (lexed (end - (count + 1)))) ≡ reading text
turned text tokens end count at rest gap after t =
    let less : suc (end - (count + 1)) ≡ end - count = let w = t.within in omega arith in
    ap (λ x. added tokens (on_rest (at + x) after (lexed (end - (count + 1))))) (t.size ∙ t.found)
    ∙ ap (λ x. added tokens (on_rest (at + gap_scan 0 Plain rest) x (lexed (end - (count + 1))))) (t.after_is ∙ ap (λ m. drop m rest) t.found)
    ∙ ap (λ x. added tokens (lexed x at rest)) less
    ∙ t.told

is_nil : (xs : List ℕ) → (length xs == 0) ≡ true → xs ≡ []
is_nil [] h = refl
is_nil (x ∷ xs) h = absurd (let n : length (x ∷ xs) ≡ 0 = grind (arith, nat_tests) in omega arith)

-- where nothing stands behind the gap, the tokens are all
pub all_read : (text : List ℕ) (tokens : List SqlToken) (end count at : ℕ) (rest gap after : List ℕ) → Turn text tokens end count at rest gap after → (length after == 0) ≡ true → reading text ≡ read tokens
all_read text tokens end count at rest gap after t h =
    sym (turned text tokens end count at rest gap after t)
    ∙ ap (λ x. added tokens (on_rest (at + length gap) x (lexed (end - (count + 1))))) (is_nil after h)
    ∙ ap read (append-nil tokens)

fronted : (from : ℕ) (after : List ℕ) (more : ℕ → List ℕ → Lexed) (f : Option Scanned) → (length after == 0) ≡ false → f ≡ longest Start 0 None after → on_scanned f from after more ≡ on_rest from after more
fronted from [] more f h e = absurd (cc)
fronted from (b ∷ after) more f h e = ap (λ x. on_scanned x from (b ∷ after) more) e

-- where no token stands behind the gap, there is the breach
pub breach_read : (text : List ℕ) (tokens : List SqlToken) (end count at : ℕ) (rest gap after : List ℕ) (f : Option Scanned) → Turn text tokens end count at rest gap after → length tokens ≡ count → (length after == 0) ≡ false → f ≡ longest Start 0 None after → f ≡ None → reading text ≡ wrong count
breach_read text tokens end count at rest gap after f t n h e is =
    sym (turned text tokens end count at rest gap after t)
    ∙ sym (ap (λ x. added tokens x) (sym (ap (λ x. on_scanned x (at + length gap) after (lexed (end - (count + 1)))) is) ∙ fronted (at + length gap) after (lexed (end - (count + 1))) f h e))
    ∙ ap (λ m. wrong m) (omega arith)

-- a token more, and what is left, read as the whole does
pub token_read : (text : List ℕ) (tokens new : List SqlToken) (end count at : ℕ) (rest gap after more : List ℕ) (o : Option Scanned) (f : Scanned) → Turn text tokens end count at rest gap after → (length after == 0) ≡ false → o ≡ longest Start 0 None after → o ≡ Some f → more ≡ drop f.size after → new ≡ tokens ++ record { kind = f.kind; from = at + length gap; to = at + length gap + f.size } ∷ [] → added new (lexed (end - (count + 1)) (at + length gap + f.size) more) ≡ reading text
token_read text tokens new end count at rest gap after more o f t h e is more_is new_is =
    let from = at + length gap in
    let left = end - (count + 1) in
    let token : SqlToken = record { kind = f.kind; from = from; to = from + f.size } in
    ap (λ x. added x (lexed left (from + f.size) more)) new_is
    ∙ sym (added_one tokens token (lexed left (from + f.size) more))
    ∙ ap (λ x. added tokens (added (token ∷ []) (lexed left (from + f.size) x))) more_is
    ∙ ap (λ x. added tokens x) (sym (ap (λ x. on_scanned x from after (lexed left)) is) ∙ fronted from after (lexed left) o h e)
    ∙ turned text tokens end count at rest gap after t

-- one token more
pub pushed : (new tokens : List SqlToken) (t : SqlToken) (n : ℕ) → new ≡ tokens ++ t ∷ [] → length tokens ≡ n → length new ≡ n + 1
pushed new tokens t n e h = ap length e ∙ length-append tokens (t ∷ []) ∙ omega arith

-- where no turn is left, the tokens are all
pub turns_over : (text : List ℕ) (tokens : List SqlToken) (end count at : ℕ) (rest : List ℕ) → added tokens (lexed (end - count) at rest) ≡ reading text → end ≤ count → reading text ≡ read tokens
turns_over text tokens end count at rest told over =
    let none : zero ≡ end - count = omega arith in
    sym told ∙ ap (λ x. added tokens (lexed x at rest)) (sym none) ∙ ap read (append-nil tokens)
