-- The tokens of a text are slices of it and stand for one list of symbols.
use Rattle.std.proofs.Common.{◌≡◌, ℕ, zero, suc, ◌+◌, ◌<◌, true, List, ◌∷◌, [], ◌++◌, length, take, drop, get_or, refl, ap, sym, ◌∙◌, subst, arith, append_assoc}
use Rattle.std.specs.Prelude.{Some, slice_get}
use Rattle.std.proofs.lemmas.List.{length-append, length-take-le, take-append-drop}
use Rattle.mast_source.specs.Bom.{bom_length}
use Rattle.mast_source.proofs.BomLemmas.{bom_within}
use Rattle.mast_source.proofs.SliceLemmas.{between_of}
use Rattle.mast_terms.specs.IntegerCell.{integer_of}
use Rattle.mast_sql.specs.declared.token.SqlKind.{SqlKind}
use Rattle.mast_sql.specs.declared.token.SqlKind.TheVariants as kind
use Rattle.mast_sql.specs.declared.token.SqlToken.{SqlToken}
use Rattle.mast_sql.specs.declared.symbol.Symbol.{Symbol}
use Rattle.mast_sql.specs.declared.symbol.Symbol.TheVariants.{Quoted, Other}
use Rattle.mast_sql.specs.Tokens.{is_token}
use Rattle.mast_sql.specs.Source.{Lexes, AreTokens}
use Rattle.mast_sql.specs.Symbols.{span, IsPlaced, keyword_of, word, integer, sign, single_quoted, IsDateOf, IsSymbol, AreSymbols}
use Rattle.mast_sql.specs.inside.Quotes.{unquoted}
use Rattle.mast_sql.proofs.FrontLemmas.{word_some}
use Rattle.mast_sql.proofs.DateLemmas.{the_date, only_date}
use Rattle.mast_sql.proofs.WordLemmas.{quoted_form, unquoted_of}

-- each token is a slice of the text

-- each token is a slice of the text
abbrev pub AllPlaced : List ℕ → List SqlToken → Type 0
AllPlaced text [] = Unit {0}
AllPlaced text (t ∷ ts) = IsPlaced text t × AllPlaced text ts

span_is : (text before word rest : List ℕ) (t : SqlToken) → text ≡ before ++ (word ++ rest) → t.from ≡ length before → t.to ≡ t.from + length word → span text t ≡ word
span_is text before word rest t e f o = ap (λ x. span x t) e ∙ between_of before word rest t.from t.to f o

is_placed : (text before word rest : List ℕ) (t : SqlToken) → text ≡ before ++ (word ++ rest) → t.from ≡ length before → t.to ≡ t.from + length word → is_token t.kind word ≡ true → IsPlaced text t
is_placed text before word rest t e f o i =
    let some = word_some t.kind word i in
    let all = ap length e ∙ length-append before (word ++ rest) in
    let more = length-append word rest in
    record {
      order = omega arith;
      within = omega arith;
      form = subst (λ x. is_token t.kind x ≡ true) (sym (span_is text before word rest t e f o)) i;
    }

lexed_placed : (ts : List SqlToken) (text before bytes : List ℕ) (at : ℕ) → text ≡ before ++ bytes → length before ≡ at → Lexes at bytes ts → AllPlaced text ts
lexed_placed [] text before bytes at e l h = tt
lexed_placed (t ∷ ts) text before bytes at e l h =
    let gap = h.0 in
    let word = h.1 in
    let rest = h.2 in
    let front = before ++ gap in
    let whole : text ≡ front ++ (word ++ rest) = e ∙ ap (λ x. before ++ x) h.3 ∙ sym (append_assoc before gap (word ++ rest)) in
    let start : t.from ≡ length front = (let a = length-append before gap in let b = h.6 in omega arith) in
    let next : text ≡ (front ++ word) ++ rest = whole ∙ sym (append_assoc front word rest) in
    let size : length (front ++ word) ≡ t.to = (let a = length-append front word in let b = h.7 in omega arith) in
    (is_placed text front word rest t whole start h.7 h.5.form, lexed_placed ts text (front ++ word) rest t.to next size h.8)

-- the tokens of a text are slices of it
pub tokens_placed : (text : List ℕ) (tokens : List SqlToken) → AreTokens text tokens → AllPlaced text tokens
tokens_placed text tokens h =
    let m = bom_within text in
    lexed_placed tokens text (take (bom_length text) text) (drop (bom_length text) text) (bom_length text) (sym (take-append-drop (bom_length text) text)) (length-take-le (bom_length text) text m) h

-- so is the one of a number
pub placed_at : (text : List ℕ) (tokens : List SqlToken) (i : ℕ) (d : SqlToken) → AllPlaced text tokens → i < length tokens → IsPlaced text (get_or tokens i d)
placed_at text [] i d h l = absurd (omega arith)
placed_at text (t ∷ ts) zero d h l = h.0
placed_at text (t ∷ ts) (suc i) d h l = placed_at text ts i d h.1 (omega arith)

-- and the one that is found
pub placed_of : (tokens : List SqlToken) (text : List ℕ) (i : ℕ) (t : SqlToken) → AllPlaced text tokens → slice_get tokens i ≡ Some t → IsPlaced text t
placed_of [] text i t h e = absurd (cc)
placed_of (u ∷ ts) text zero t h e = let s : u ≡ t = cc in subst (λ x. IsPlaced text x) s h.0
placed_of (u ∷ ts) text (suc i) t h e = placed_of ts text i t h.1 e

-- the symbol of a token

-- the symbol of a token
abbrev pub the_symbol : SqlKind → List ℕ → Symbol
the_symbol kind.Word w = word (keyword_of w) w
the_symbol kind.Integer w = integer (integer_of w)
the_symbol kind.Quoted w = Quoted (unquoted w) (the_date (unquoted w)).0
the_symbol kind.Sign w = sign w
the_symbol _ w = Other

is_the_symbol : (k : SqlKind) (w : List ℕ) → is_token k w ≡ true → IsSymbol k w (the_symbol k w)
is_the_symbol kind.Word w h = refl
is_the_symbol kind.Integer w h = refl
is_the_symbol kind.Quoted w h =
    let f = quoted_form w h in
    let d = the_date (unquoted w) in
    (unquoted w, f.1 ∙ ap (λ x. single_quoted x) (sym (unquoted_of w f.0 f.1)), (d.0, d.1, refl))
is_the_symbol kind.Sign w h = refl
is_the_symbol _ w h = refl

-- a token stands for one symbol
pub only_symbol : (k : SqlKind) (w : List ℕ) (s : Symbol) → IsSymbol k w s → s ≡ the_symbol k w
only_symbol kind.Word w s h = h
only_symbol kind.Integer w s h = h
only_symbol kind.Quoted w s h =
    let x = h.0 in
    let q = h.2 in
    let e : x ≡ unquoted w = sym (unquoted_of w x h.1) in
    let d = the_date (unquoted w) in
    let o : q.0 ≡ d.0 = only_date (unquoted w) q.0 d.0 (subst (λ y. IsDateOf y q.0) e q.1) d.1 in
    q.2 ∙ ap (λ y. Quoted y q.0) e ∙ ap (λ y. Quoted (unquoted w) y) o
only_symbol kind.Sign w s h = h
only_symbol _ w s h = h

-- the symbols of all tokens

-- the symbols of all tokens
abbrev pub the_symbols : List ℕ → List SqlToken → List Symbol
the_symbols text [] = []
the_symbols text (t ∷ ts) = the_symbol t.kind (span text t) ∷ the_symbols text ts

-- the tokens of a text stand for symbols
pub are_symbols : (text : List ℕ) (ts : List SqlToken) → AllPlaced text ts → AreSymbols text ts (the_symbols text ts)
are_symbols text [] h = tt
are_symbols text (t ∷ ts) h = (is_the_symbol t.kind (span text t) h.0.form, are_symbols text ts h.1)

-- and for these alone
pub only_symbols : (text : List ℕ) (ts : List SqlToken) (ks : List Symbol) → AreSymbols text ts ks → ks ≡ the_symbols text ts
only_symbols text [] [] h = refl
only_symbols text [] (k ∷ ks) h = absurd h
only_symbols text (t ∷ ts) [] h = absurd h
only_symbols text (t ∷ ts) (k ∷ ks) h = ap (λ x. x ∷ ks) (only_symbol t.kind (span text t) k h.0) ∙ ap (λ x. the_symbol t.kind (span text t) ∷ x) (only_symbols text ts ks h.1)

-- as many as there are tokens
pub symbols_size : (text : List ℕ) (ts : List SqlToken) → length (the_symbols text ts) ≡ length ts
symbols_size text [] = refl
symbols_size text (t ∷ ts) = ap suc (symbols_size text ts)
