-- The reader's loop tells what the machine tells of all symbols.
use Rattle.std.proofs.Common.{◌≡◌, ◌⊎◌, inl, inr, ℕ, suc, ◌+◌, ◌<◌, ◌≤◌, true, false, List, ◌∷◌, length, drop, get_or, drop-cons, refl, ap, sym, ◌∙◌, subst, arith}
use Rattle.std.specs.Prelude.{Option, Some, None, Err}
use Rattle.std.proofs.Math.ListN.{drop_of_length-le}
use Rattle.mast_terms.specs.declared.memory.Stop.{Stop}
use Rattle.mast_terms.specs.declared.memory.Stop.TheVariants.{Named}
use Rattle.mast_sql.specs.declared.token.SqlToken.{SqlToken}
use Rattle.mast_sql.specs.declared.symbol.Symbol.{Symbol}
use Rattle.mast_sql.specs.declared.query.SourceQuery.{SourceQuery}
use Rattle.mast_sql.specs.declared.query.SqlBreach.{SqlBreach}
use Rattle.mast_sql.specs.declared.query.SqlBreachKind.{SqlBreachKind}
use Rattle.mast_sql.specs.declared.query.SqlBreachKind.TheVariants.{Grammar, Aliases}
use Rattle.mast_sql.specs.declared.parser.ParseState.{ParseState}
use Rattle.mast_sql.specs.declared.parser.ParseState.TheVariants as state
use Rattle.mast_sql.specs.inside.Parser.{empty, at as there, step, finish, is_ninth, later, on_finish, on_step, look}
use Rattle.mast_sql.specs.Source.{AreTokens}
use Rattle.mast_terms.specs.Answers.{Answers}
use Rattle.mast_sql.specs.Symbols.{span, IsPlaced, IsSymbol}
use Rattle.mast_sql.specs.Grammar.{Found, fine, grammar, aliases, Tells, found_of, IsSourceQuery, IsSqlBreach}
use Rattle.mast_sql.specs.Laws.{HasOneQuery}
use Rattle.mast_sql.proofs.LookLemmas.{look_exact, only_one, later_none, later_more}
use Rattle.mast_sql.proofs.SymbolLemmas.{tokens_placed, placed_at, only_symbol, the_symbols, are_symbols, only_symbols}

-- what the machine tells of all symbols of a text
abbrev pub told : List ℕ → List SqlToken → Found
told text tokens = look state.Start empty (the_symbols text tokens)

-- what the loop keeps: what is told of the symbols from token i on, at a place, is what is told of all
abbrev pub Keeps : List ℕ → List SqlToken → ParseState → SourceQuery → ℕ → Type 0
Keeps text tokens p q i = later i (look p q (the_symbols text (drop i tokens))) ≡ told text tokens

pub keeps_first : (text : List ℕ) (tokens : List SqlToken) (q : SourceQuery) → q ≡ empty → Keeps text tokens state.Start q 0
keeps_first text tokens q e = later_none (look state.Start q (the_symbols text tokens)) ∙ ap (λ x. look state.Start x (the_symbols text tokens)) e

-- the symbol of token i first
from_here : (text : List ℕ) (tokens : List SqlToken) (i : ℕ) (d : SqlToken) (s : Symbol) → i < length tokens → IsSymbol (get_or tokens i d).kind (span text (get_or tokens i d)) s → the_symbols text (drop i tokens) ≡ s ∷ the_symbols text (drop (suc i) tokens)
from_here text tokens i d s l h =
    ap (λ x. the_symbols text x) (drop-cons tokens i d l)
    ∙ ap (λ x. x ∷ the_symbols text (drop (suc i) tokens)) (sym (only_symbol (get_or tokens i d).kind (span text (get_or tokens i d)) s h))

look_ninth : (p : ParseState) (q : SourceQuery) (k : Symbol) (ks : List Symbol) → is_ninth p q k ≡ true → look p q (k ∷ ks) ≡ aliases 0
look_ninth p q k ks h = rw h refl

look_step : (p : ParseState) (q : SourceQuery) (k : Symbol) (ks : List Symbol) (o : Option (ParseState × SourceQuery)) → is_ninth p q k ≡ false → o ≡ step p q k → look p q (k ∷ ks) ≡ on_step o (grammar 0) (λ p2 q2. later 1 (look p2 q2 ks))
look_step p q k ks o h e = rw h (ap (λ x. on_step x (grammar 0) (λ p2 q2. later 1 (look p2 q2 ks))) (sym e))

-- where the ninth entry begins, that is told of all
pub ninth_told : (text : List ℕ) (tokens : List SqlToken) (p : ParseState) (q : SourceQuery) (i : ℕ) (d : SqlToken) (s : Symbol) → Keeps text tokens p q i → i < length tokens → IsSymbol (get_or tokens i d).kind (span text (get_or tokens i d)) s → is_ninth p q s ≡ true → told text tokens ≡ aliases i
ninth_told text tokens p q i d s k l h n =
    sym k ∙ ap (λ x. later i (look p q x)) (from_here text tokens i d s l h) ∙ ap (λ x. later i x) (look_ninth p q s (the_symbols text (drop (suc i) tokens)) n) ∙ ap (λ m. aliases m) (omega arith)

-- where a symbol can not come, that is told of all
pub grammar_told : (text : List ℕ) (tokens : List SqlToken) (p : ParseState) (q q2 : SourceQuery) (i : ℕ) (d : SqlToken) (s : Symbol) (next : Option ParseState) → Keeps text tokens p q i → i < length tokens → IsSymbol (get_or tokens i d).kind (span text (get_or tokens i d)) s → is_ninth p q s ≡ false → there q2 next ≡ step p q s → next ≡ None → told text tokens ≡ grammar i
grammar_told text tokens p q q2 i d s next k l h n g e =
    let rest = the_symbols text (drop (suc i) tokens) in
    sym k ∙ ap (λ x. later i (look p q x)) (from_here text tokens i d s l h) ∙ ap (λ x. later i x) (look_step p q s rest (there q2 next) n g)
    ∙ ap (λ x. later i (on_step (there q2 x) (grammar 0) (λ p3 q3. later 1 (look p3 q3 rest)))) e ∙ ap (λ m. grammar m) (omega arith)

-- a step keeps what is told
pub step_keeps : (text : List ℕ) (tokens : List SqlToken) (p p2 : ParseState) (q q2 : SourceQuery) (i : ℕ) (d : SqlToken) (s : Symbol) (next : Option ParseState) → Keeps text tokens p q i → i < length tokens → IsSymbol (get_or tokens i d).kind (span text (get_or tokens i d)) s → is_ninth p q s ≡ false → there q2 next ≡ step p q s → next ≡ Some p2 → Keeps text tokens p2 q2 (i + 1)
step_keeps text tokens p p2 q q2 i d s next k l h n g e =
    let rest = the_symbols text (drop (suc i) tokens) in
    let plus : i + 1 ≡ suc i = omega arith in
    ap (λ m. later (i + 1) (look p2 q2 (the_symbols text (drop m tokens)))) plus
    ∙ sym (later_more i (look p2 q2 rest))
    ∙ sym (ap (λ x. later i (on_step (there q2 x) (grammar 0) (λ p3 q3. later 1 (look p3 q3 rest)))) e)
    ∙ sym (ap (λ x. later i x) (look_step p q s rest (there q2 next) n g))
    ∙ sym (ap (λ x. later i (look p q x)) (from_here text tokens i d s l h))
    ∙ k

at_end : (text : List ℕ) (tokens : List SqlToken) (p : ParseState) (q : SourceQuery) (i : ℕ) → Keeps text tokens p q i → length tokens ≤ i → told text tokens ≡ later i (on_finish (finish p q))
at_end text tokens p q i k l = sym k ∙ ap (λ x. later i (look p q (the_symbols text x))) (drop_of_length-le tokens l)

-- where the symbols end and no query does, that is told of all
pub end_told : (text : List ℕ) (tokens : List SqlToken) (p : ParseState) (q : SourceQuery) (i : ℕ) (whole : Option SourceQuery) → Keeps text tokens p q i → length tokens ≤ i → whole ≡ finish p q → whole ≡ None → told text tokens ≡ grammar i
end_told text tokens p q i whole k l f e = at_end text tokens p q i k l ∙ ap (λ x. later i (on_finish x)) (sym f ∙ e) ∙ ap (λ m. grammar m) (omega arith)

-- where both end, the query is told of all
pub whole_told : (text : List ℕ) (tokens : List SqlToken) (p : ParseState) (q r : SourceQuery) (i : ℕ) (whole : Option SourceQuery) → Keeps text tokens p q i → length tokens ≤ i → whole ≡ finish p q → whole ≡ Some r → told text tokens ≡ fine r
whole_told text tokens p q r i whole k l f e = at_end text tokens p q i k l ∙ ap (λ x. later i (on_finish x)) (sym f ∙ e)

-- what is told is the query
pub is_query : (text : List ℕ) (tokens : List SqlToken) (q : SourceQuery) → AreTokens text tokens → told text tokens ≡ fine q → IsSourceQuery text tokens q
is_query text tokens q h e = (the_symbols text tokens, are_symbols text tokens (tokens_placed text tokens h), subst (λ f. Tells (the_symbols text tokens) f) e (look_exact (the_symbols text tokens)))

-- or the breach
pub is_breach : (text : List ℕ) (tokens : List SqlToken) (breach : SqlBreach) → AreTokens text tokens → told text tokens ≡ found_of breach.kind breach.token → IsSqlBreach text tokens breach
is_breach text tokens breach h e = (the_symbols text tokens, are_symbols text tokens (tokens_placed text tokens h), subst (λ f. Tells (the_symbols text tokens) f) e (look_exact (the_symbols text tokens)))

-- and there is one of them

query_told : (text : List ℕ) (tokens : List SqlToken) (q : SourceQuery) → IsSourceQuery text tokens q → told text tokens ≡ fine q
query_told text tokens q h = only_one (the_symbols text tokens) (told text tokens) (fine q) (look_exact (the_symbols text tokens)) (subst (λ ks. Tells ks (fine q)) (only_symbols text tokens h.0 h.1) h.2)

breach_told : (text : List ℕ) (tokens : List SqlToken) (b : SqlBreach) → IsSqlBreach text tokens b → told text tokens ≡ found_of b.kind b.token
breach_told text tokens b h = only_one (the_symbols text tokens) (told text tokens) (found_of b.kind b.token) (look_exact (the_symbols text tokens)) (subst (λ ks. Tells ks (found_of b.kind b.token)) (only_symbols text tokens h.0 h.1) h.2)

either_told : (text : List ℕ) (tokens : List SqlToken) → AreTokens text tokens → (f : Found) → told text tokens ≡ f → ((q : SourceQuery) × IsSourceQuery text tokens q) ⊎ ((b : SqlBreach) × IsSqlBreach text tokens b)
either_told text tokens h (fine q) e = inl (q, is_query text tokens q h e)
either_told text tokens h (grammar i) e = inr (record { token = i; kind = Grammar }, is_breach text tokens (record { token = i; kind = Grammar }) h e)
either_told text tokens h (aliases i) e = inr (record { token = i; kind = Aliases }, is_breach text tokens (record { token = i; kind = Aliases }) h e)

not_fine : (k : SqlBreachKind) (i : ℕ) (q : SourceQuery) → fine q ≡ found_of k i → ⊥
not_fine Grammar i q h = cc
not_fine Aliases i q h = cc

same_fine : (q r : SourceQuery) → fine q ≡ fine r → q ≡ r
same_fine q r h = cc

same_found : (j k : SqlBreachKind) (m n : ℕ) → found_of j m ≡ found_of k n → (j ≡ k) × (m ≡ n)
same_found Grammar Grammar m n h = (refl, cc)
same_found Grammar Aliases m n h = absurd (cc)
same_found Aliases Grammar m n h = absurd (cc)
same_found Aliases Aliases m n h = (refl, cc)

same_breach : (a b : SqlBreach) → (a.kind ≡ b.kind) × (a.token ≡ b.token) → a ≡ b
same_breach a b h = λ i. record { token = h.1 i; kind = h.0 i }

-- the tokens of a text are one query or have one first breach
pub has_one_query : (text : List ℕ) (tokens : List SqlToken) → AreTokens text tokens → HasOneQuery text tokens
has_one_query text tokens h = record {
  either = either_told text tokens h (told text tokens) refl;
  not_both = λ q b t u. not_fine b.kind b.token q (sym (query_told text tokens q t) ∙ breach_told text tokens b u);
  one_query = λ a b t u. same_fine a b (sym (query_told text tokens a t) ∙ query_told text tokens b u);
  one_breach = λ a b t u. same_breach a b (same_found a.kind b.kind a.token b.token (sym (breach_told text tokens a t) ∙ breach_told text tokens b u));
}

-- the answers of the call

-- the answer of a breach
pub breach_answer : (text bytes : List ℕ) (tokens : List SqlToken) (i j : ℕ) (k : SqlBreachKind) (stop : Stop SqlBreach) → AreTokens text tokens → bytes ≡ text → stop ≡ Named (record { token = i; kind = k }) → i ≡ j → told bytes tokens ≡ found_of k j → Answers (Err stop) (IsSourceQuery text tokens) (IsSqlBreach text tokens)
breach_answer text bytes tokens i j k stop h b e s t =
    subst (λ x. Answers (Err x) (IsSourceQuery text tokens) (IsSqlBreach text tokens)) (sym e)
    (is_breach text tokens (record { token = i; kind = k }) h (ap (λ x. told x tokens) (sym b) ∙ t ∙ ap (λ n. found_of k n) (sym s)))

-- the answer of a query
pub query_answer : (text bytes : List ℕ) (tokens : List SqlToken) (q : SourceQuery) → AreTokens text tokens → bytes ≡ text → told bytes tokens ≡ fine q → IsSourceQuery text tokens q
query_answer text bytes tokens q h b t = is_query text tokens q h (ap (λ x. told x tokens) (sym b) ∙ t)

-- a token of the loop is one of the text
pub token_placed : (text bytes : List ℕ) (tokens : List SqlToken) (i : ℕ) (d : SqlToken) → AreTokens text tokens → bytes ≡ text → i < length tokens → IsPlaced bytes (get_or tokens i d)
token_placed text bytes tokens i d h b l = subst (λ x. IsPlaced x (get_or tokens i d)) (sym b) (placed_at text tokens i d (tokens_placed text tokens h) l)
