-- A text has one token list or one first breach.
use Rattle.std.proofs.Common.{◌≡◌, ◌⊎◌, inl, inr, ℕ, ◌≤◌, List, length, drop, sym, ◌∙◌, subst, arith}
use Rattle.std.specs.Prelude.{Result, Ok, Err}
use Rattle.std.proofs.lemmas.List.{length-drop}
use Rattle.mast_terms.specs.declared.memory.Stop.{Stop}
use Rattle.mast_terms.specs.declared.memory.Stop.TheVariants.{Named, NoMemory}
use Rattle.mast_source.specs.Bom.{bom_length}
use Rattle.mast_sql.specs.declared.token.SqlToken.{SqlToken}
use Rattle.mast_sql.specs.declared.token.SqlLex.{SqlLex}
use Rattle.mast_terms.specs.Answers.{Answers}
use Rattle.mast_sql.specs.Source.{AreTokens, IsLexBreach}
use Rattle.mast_sql.specs.inside.Lexed.{Lexed, read, wrong, reading, ReadsAs, StopsAt}
use Rattle.mast_sql.specs.Laws.{HasOneReading}
use Rattle.mast_sql.proofs.SourceLemmas.{Told, lexed_told, lexes_read, stops_wrong}

within : (text : List ℕ) → length (drop (bom_length text) text) ≤ length text
within text = let l = length-drop (bom_length text) text in omega arith

reading_told : (text : List ℕ) → Told (bom_length text) (drop (bom_length text) text) (reading text)
reading_told text = lexed_told (length text) (bom_length text) (drop (bom_length text) text) (within text)

tokens_read : (text : List ℕ) (tokens : List SqlToken) → AreTokens text tokens → reading text ≡ read tokens
tokens_read text tokens t = lexes_read (length text) (bom_length text) (drop (bom_length text) text) tokens (within text) t

stopped : (text : List ℕ) (breach : SqlLex) → IsLexBreach text breach → reading text ≡ wrong breach.token
stopped text breach t = stops_wrong (length text) (bom_length text) (drop (bom_length text) text) breach.token (within text) t

either_reading : (text : List ℕ) (l : Lexed) → Told (bom_length text) (drop (bom_length text) text) l → ((tokens : List SqlToken) × AreTokens text tokens) ⊎ ((breach : SqlLex) × IsLexBreach text breach)
either_reading text (read ts) t = inl (ts, t)
either_reading text (wrong n) t = inr (record { token = n }, t)

same_list : (a b : List SqlToken) → ◌≡◌ {A = Lexed} (read a) (read b) → a ≡ b
same_list a b h = cc

same_wrong : (a b : SqlLex) → ◌≡◌ {A = Lexed} (wrong a.token) (wrong b.token) → a ≡ b
same_wrong a b h = let n : a.token ≡ b.token = cc in λ i. record { token = n i }

not_same : (a : List SqlToken) (n : ℕ) → ◌≡◌ {A = Lexed} (read a) (wrong n) → ⊥
not_same a n h = cc

-- a text has one token list or one first breach
pub has_one_reading : (text : List ℕ) → HasOneReading text
has_one_reading text = record {
  either = either_reading text (reading text) (reading_told text);
  not_both = λ tokens breach t u. not_same tokens breach.token (sym (tokens_read text tokens t) ∙ stopped text breach u);
  one_list = λ a b t u. same_list a b (sym (tokens_read text a t) ∙ tokens_read text b u);
  one_breach = λ a b t u. same_wrong a b (sym (stopped text a t) ∙ stopped text b u);
}

-- tokens that are read of a text are its tokens
pub read_tokens : (text : List ℕ) (tokens : List SqlToken) → ReadsAs text tokens → AreTokens text tokens
read_tokens text tokens h = subst (λ l. Told (bom_length text) (drop (bom_length text) text) l) h (reading_told text)

-- and a breach that is read of it is its breach
pub read_breach : (text : List ℕ) (breach : SqlLex) → StopsAt text breach → IsLexBreach text breach
read_breach text breach h = subst (λ l. Told (bom_length text) (drop (bom_length text) text) l) h (reading_told text)

-- what is read of a text is its tokens or its breach
pub answered : (text : List ℕ) (r : Result (List SqlToken) (Stop SqlLex)) → Answers r (ReadsAs text) (StopsAt text) → Answers r (AreTokens text) (IsLexBreach text)
answered text (Ok tokens) h = read_tokens text tokens h
answered text (Err (Named b)) h = read_breach text b h
answered text (Err NoMemory) h = tt
