-- The bytes of a file have one token list or one first lexical breach.
use Rattle.std.proofs.Common.{◌≡◌, inl, inr, ℕ, ◌+◌, ◌≤◌, true, false, List, [], ◌∷◌, ◌++◌, length, take, drop, ap, sym, ◌∙◌, subst, arith}
use Rattle.std.specs.Prelude.{Result, Ok, Err}
use Rattle.std.specs.Str.{IsUtf8, IsValidUpTo}
use Rattle.std.proofs.lemmas.List.{length-append, length-drop}
use Rattle.std.proofs.Math.Seq.{take-length}
use Rattle.std.proofs.lemmas.Str.{utf8_valid_len-IsValidUpTo}
use Rattle.mast_source.specs.Bom.{bom_length}
use Rattle.mast_terms.specs.Answers.{Answers}
use Rattle.mast_terms.specs.declared.memory.Stop.{Stop}
use Rattle.mast_terms.specs.declared.memory.Stop.TheVariants.{Named, NoMemory}
use Rattle.mast_sql.specs.declared.token.SqlKind.{SqlKind}
use Rattle.mast_sql.specs.declared.token.SqlToken.{SqlToken}
use Rattle.mast_sql.specs.declared.token.SqlLex.{SqlLex}
use Rattle.mast_sql.specs.Tokens.{is_token}
use Rattle.mast_sql.specs.Source.{Lexes, AreTokens, IsLexBreach}
use Rattle.mast_sql.proofs.TokenLawLemmas.{has_one_reading}
use Rattle.mast_sparsql.specs.Lexing.{AreFileTokens, CutsAt, IsFileLex, Nothing, HasOneFile}

false_true : false ≡ true → ⊥
false_true e = cc

-- a token has a byte
word_size : (kind : SqlKind) (word : List ℕ) → is_token kind word ≡ true → 1 ≤ length word
word_size kind [] h = absurd (false_true h)
word_size kind (b ∷ bs) h = omega arith

lexes_size : (at : ℕ) (bytes : List ℕ) (tokens : List SqlToken) → Lexes at bytes tokens → length tokens ≤ length bytes
lexes_size at bytes [] h = omega arith
lexes_size at bytes (t ∷ ts) h =
    let w : 1 ≤ length h.1 = word_size t.kind h.1 h.5.form in
    let r : length ts ≤ length h.2 = lexes_size t.to h.2 ts h.8 in
    let a : length (h.0 ++ (h.1 ++ h.2)) ≡ length h.0 + length (h.1 ++ h.2) = length-append h.0 (h.1 ++ h.2) in
    let b : length (h.1 ++ h.2) ≡ length h.1 + length h.2 = length-append h.1 h.2 in
    let e : length bytes ≡ length (h.0 ++ (h.1 ++ h.2)) = ap length h.3 in
    omega arith

-- a text has no more tokens than bytes
pub tokens_size : (text : List ℕ) (tokens : List SqlToken) → AreTokens text tokens → length tokens ≤ length text
tokens_size text tokens h =
    let l : length tokens ≤ length (drop (bom_length text) text) = lexes_size (bom_length text) (drop (bom_length text) text) tokens h in
    let d = length-drop (bom_length text) text in
    omega arith

-- what is told of a text is told of a file that is one
pub text_file : (source : List ℕ) (r : Result (List SqlToken) (Stop SqlLex)) → IsUtf8 source → Answers r (AreTokens source) (IsLexBreach source) → Answers r (AreFileTokens source) (IsFileLex source)
text_file source (Ok tokens) u h = record { utf8 = u; lexed = h }
text_file source (Err (Named breach)) u h = inl (u, h)
text_file source (Err NoMemory) u h = tt

-- what is told of the longest front that is a text is told of the file
pub cut_file : (source : List ℕ) (n : ℕ) (r : Result (List SqlToken) (Stop SqlLex)) → IsValidUpTo source n → Answers r Nothing (CutsAt (take n source)) → Answers r (AreFileTokens source) (IsFileLex source)
cut_file source n (Ok tokens) v h = absurd h
cut_file source n (Err (Named breach)) v h = inr (n, v, h)
cut_file source n (Err NoMemory) v h = tt

-- a text that is cut has its own breach
pub cut_breach : (text : List ℕ) (e : Stop SqlLex) (P : List SqlToken → Type 0) → Answers (Err e) P (IsLexBreach text) → Answers (Err e) Nothing (CutsAt text)
cut_breach text (Named breach) P h = inl h
cut_breach text NoMemory P h = tt

-- bytes that are a text have no longest front that is one and is not all of them
valid_not : (source : List ℕ) (n : ℕ) → IsValidUpTo source n → IsUtf8 source → ⊥
valid_not source n v u = v.longest (length source) v.short (subst (λ x. IsUtf8 x) (sym (take-length source)) u)

not_both_file : (source : List ℕ) (tokens : List SqlToken) (breach : SqlLex) → AreFileTokens source tokens → IsFileLex source breach → ⊥
not_both_file source tokens breach t (inl u) = (has_one_reading source).not_both tokens breach t.lexed u.1
not_both_file source tokens breach t (inr v) = valid_not source v.0 v.1 t.utf8

same_lex : (a b : SqlLex) → a.token ≡ b.token → a ≡ b
same_lex a b e = λ i. record { token = e i }

cuts_one : (text : List ℕ) (a b : SqlLex) → CutsAt text a → CutsAt text b → a ≡ b
cuts_one text a b (inl t) (inl u) = (has_one_reading text).one_breach a b t u
cuts_one text a b (inl t) (inr u) = absurd ((has_one_reading text).not_both u.0 a u.1 t)
cuts_one text a b (inr t) (inl u) = absurd ((has_one_reading text).not_both t.0 b t.1 u)
cuts_one text a b (inr t) (inr u) =
    same_lex a b (t.2 ∙ (ap (λ x. length x) ((has_one_reading text).one_list t.0 u.0 t.1 u.1) ∙ sym u.2))

breaches_one : (source : List ℕ) (a b : SqlLex) → IsFileLex source a → IsFileLex source b → a ≡ b
breaches_one source a b (inl t) (inl u) = (has_one_reading source).one_breach a b t.1 u.1
breaches_one source a b (inl t) (inr u) = absurd (valid_not source u.0 u.1 t.0)
breaches_one source a b (inr t) (inl u) = absurd (valid_not source t.0 t.1 u.0)
breaches_one source a b (inr t) (inr u) =
    let e : t.0 ≡ u.0 = sym (utf8_valid_len-IsValidUpTo source t.0 t.1) ∙ utf8_valid_len-IsValidUpTo source u.0 u.1 in
    cuts_one (take u.0 source) a b (subst (λ n. CutsAt (take n source) a) e t.2) u.2

-- a file has one token list or one first lexical breach
pub has_one_file : (source : List ℕ) → HasOneFile source
has_one_file source = record {
  not_both = λ tokens breach t u. not_both_file source tokens breach t u;
  one_list = λ a b t u. (has_one_reading source).one_list a b t.lexed u.lexed;
  one_breach = λ a b t u. breaches_one source a b t u;
}
