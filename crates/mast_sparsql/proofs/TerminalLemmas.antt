-- What the reader makes of tokens is what the grammar sees of them.
use Rattle.std.proofs.Common.{◌≡◌, ℕ, suc, ◌+◌, ◌-◌, ◌<◌, ◌≤◌, ◌==◌, Bool, List, [], ◌∷◌, ◌++◌, length, drop, get_or, drop-cons, slice_get, Option, Some, None, refl, ap, sym, ◌∙◌, arith, append_assoc}
use Rattle.std.proofs.lemmas.List.{append-nil}
use Rattle.std.proofs.Math.ListN.{drop_of_length-le}
use Rattle.mast_sql.specs.declared.token.SqlToken.{SqlToken}
use Rattle.mast_sql.specs.Symbols.{span}
use Rattle.mast_grammar.specs.declared.terminal.Terminal.{Terminal}
use Rattle.mast_grammar.specs.declared.terminal.Terminal.TheVariants.{Prefix}
use Rattle.mast_sparsql.specs.Terminals.{plain, same, ends_with_colon, seen, lines_with, terminals_behind}
use Rattle.mast_sparsql.specs.inside.Lines.{Sees}

some_one : (a b : ℕ) → ◌≡◌ {A = Option ℕ} (Some a) (Some b) → a ≡ b
some_one a b e = cc

-- the last byte
pub last_colon : (xs : List ℕ) (b : ℕ) → Some b ≡ slice_get xs (length xs - 1) → (b == 0x3A) ≡ ends_with_colon xs
last_colon [] b h = absurd (let e : Some b ≡ None = h in cc)
last_colon (x ∷ []) b h = ap (λ n. n == 0x3A) (some_one b x h)
last_colon (x ∷ y ∷ xs) b h =
    let e : length (x ∷ (y ∷ xs)) - 1 ≡ suc (length (y ∷ xs) - 1) = omega arith in
    last_colon (y ∷ xs) b (h ∙ ap (λ n. slice_get (x ∷ (y ∷ xs)) n) e)

-- one token more
pub more_seen : (text : List ℕ) (tokens : List SqlToken) (i : ℕ) (d : SqlToken) (behind : Bool) (lines new : List (List ℕ)) (done next all : List Terminal) (bytes : List ℕ) (k is : Terminal) (after : Bool) → i < length tokens → bytes ≡ span text (get_or tokens i d) → k ≡ plain (get_or tokens i d).kind bytes → Sees behind lines k bytes is new → next ≡ done ++ (is ∷ []) → after ≡ same k Prefix → done ++ terminals_behind text behind lines (drop i tokens) ≡ all → next ++ terminals_behind text after new (drop (i + 1) tokens) ≡ all
more_seen text tokens i d behind lines new done next all bytes k is after l b e s n a h =
    let t = get_or tokens i d in
    let rest = drop (suc i) tokens in
    let one : i + 1 ≡ suc i = omega arith in
    let here : terminals_behind text behind lines (drop i tokens) ≡ terminals_behind text behind lines (t ∷ rest) = ap (λ x. terminals_behind text behind lines x) (drop-cons tokens i d l) in
    let plainly : k ≡ plain t.kind (span text t) = e ∙ ap (λ x. plain t.kind x) b in
    let known : is ∷ terminals_behind text after new rest ≡ terminals_behind text behind lines (t ∷ rest) =
    ap (λ x. x ∷ terminals_behind text after new rest) s.terminal
    ∙ (ap (λ x. seen behind lines k bytes ∷ terminals_behind text after x rest) s.lines
    ∙ (ap (λ x. seen behind lines k bytes ∷ terminals_behind text x (lines_with behind lines k bytes) rest) a
    ∙ (ap (λ x. seen behind lines k x ∷ terminals_behind text (same k Prefix) (lines_with behind lines k x) rest) b
    ∙ ap (λ x. seen behind lines x (span text t) ∷ terminals_behind text (same x Prefix) (lines_with behind lines x (span text t)) rest) plainly))) in
    ap (λ n. next ++ terminals_behind text after new (drop n tokens)) one
    ∙ (ap (λ x. x ++ terminals_behind text after new rest) n
    ∙ (append_assoc done (is ∷ []) (terminals_behind text after new rest)
    ∙ (ap (λ x. done ++ x) (known ∙ sym here) ∙ h)))

-- no token more
pub all_seen : (text : List ℕ) (tokens : List SqlToken) (i : ℕ) (behind : Bool) (lines : List (List ℕ)) (done all : List Terminal) → length tokens ≤ i → done ++ terminals_behind text behind lines (drop i tokens) ≡ all → done ≡ all
all_seen text tokens i behind lines done all l h =
    sym (append-nil done) ∙ (ap (λ x. done ++ terminals_behind text behind lines x) (sym (drop_of_length-le tokens l)) ∙ h)

-- there are as many terminals as tokens
pub terminals_size : (text : List ℕ) (behind : Bool) (lines : List (List ℕ)) (tokens : List SqlToken) → length (terminals_behind text behind lines tokens) ≡ length tokens
terminals_size text behind lines [] = refl
terminals_size text behind lines (t ∷ ts) =
    let bytes = span text t in
    let k = plain t.kind bytes in
    let e : length (terminals_behind text (same k Prefix) (lines_with behind lines k bytes) ts) ≡ length ts = terminals_size text (same k Prefix) (lines_with behind lines k bytes) ts in
    omega arith
