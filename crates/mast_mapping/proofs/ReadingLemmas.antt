-- A text reads as one source query or has one first breach.
use Rattle.std.proofs.Common.{◌≡◌, ◌⊎◌, inl, inr, ℕ, List, refl, ap, subst, sym, ◌∙◌}
use Rattle.mast_sql.specs.declared.query.SourceQuery.{SourceQuery}
use Rattle.mast_sql.specs.declared.query.SqlBreach.{SqlBreach}
use Rattle.mast_sql.specs.declared.token.SqlLex.{SqlLex}
use Rattle.mast_sql.specs.declared.token.SqlToken.{SqlToken}
use Rattle.mast_sql.specs.Grammar.{IsSourceQuery, IsSqlBreach}
use Rattle.mast_sql.specs.Source.{AreTokens, IsLexBreach}
use Rattle.mast_sql.proofs.ReaderLemmas.{has_one_query}
use Rattle.mast_sql.proofs.TokenLawLemmas.{has_one_reading}
use Rattle.mast_tree.specs.declared.shape.ShapeKind.{ShapeKind}
use Rattle.mast_tree.specs.declared.shape.ShapeKind.TheVariants as shape
use Rattle.mast_mapping.specs.Readings.{Reading, query, wrong, grammar_kind, IsLexical, IsGrammatical, Reads, IsReadOnce}

of_tokens : (text : List ℕ) (tokens : List SqlToken) → AreTokens text tokens → ((q : SourceQuery) × IsSourceQuery text tokens q) ⊎ ((b : SqlBreach) × IsSqlBreach text tokens b) → (reading : Reading) × Reads text reading
of_tokens text tokens h (inl q) = (query q.0, (tokens, h, q.1))
of_tokens text tokens h (inr b) = (wrong (grammar_kind b.0.kind b.0.token), inr (tokens, b.0, h, b.1, refl))

of_text : (text : List ℕ) → ((tokens : List SqlToken) × AreTokens text tokens) ⊎ ((breach : SqlLex) × IsLexBreach text breach) → (reading : Reading) × Reads text reading
of_text text (inl t) = of_tokens text t.0 t.1 (has_one_query text t.0 t.1).either
of_text text (inr b) = (wrong (shape.Sql b.0.token), inl (b.0, b.1, refl))

moved_query : (text : List ℕ) (from to : List SqlToken) (q : SourceQuery) → AreTokens text from → AreTokens text to → IsSourceQuery text from q → IsSourceQuery text to q
moved_query text from to q t u h = subst (λ tokens. IsSourceQuery text tokens q) ((has_one_reading text).one_list from to t u) h

moved_breach : (text : List ℕ) (from to : List SqlToken) (b : SqlBreach) → AreTokens text from → AreTokens text to → IsSqlBreach text from b → IsSqlBreach text to b
moved_breach text from to b t u h = subst (λ tokens. IsSqlBreach text tokens b) ((has_one_reading text).one_list from to t u) h

one_query : (text : List ℕ) (p q : SourceQuery) → Reads text (query p) → Reads text (query q) → p ≡ q
one_query text p q h k = (has_one_query text h.0 h.1).one_query p q h.2 (moved_query text k.0 h.0 q k.1 h.1 k.2)

not_both : (text : List ℕ) (q : SourceQuery) (kind : ShapeKind) → Reads text (query q) → IsLexical text kind ⊎ IsGrammatical text kind → ⊥
not_both text q kind h (inl l) = (has_one_reading text).not_both h.0 l.0 h.1 l.1
not_both text q kind h (inr g) = (has_one_query text h.0 h.1).not_both q g.1 h.2 (moved_breach text g.0 h.0 g.1 g.2 h.1 g.3)

one_wrong : (text : List ℕ) (c d : ShapeKind) → IsLexical text c ⊎ IsGrammatical text c → IsLexical text d ⊎ IsGrammatical text d → c ≡ d
one_wrong text c d (inl l) (inl m) = l.2 ∙ (ap (λ (b : SqlLex). shape.Sql b.token) ((has_one_reading text).one_breach l.0 m.0 l.1 m.1) ∙ sym m.2)
one_wrong text c d (inl l) (inr g) = absurd ((has_one_reading text).not_both g.0 l.0 g.2 l.1)
one_wrong text c d (inr g) (inl l) = absurd ((has_one_reading text).not_both g.0 l.0 g.2 l.1)
one_wrong text c d (inr g) (inr k) = g.4 ∙ (ap (λ (b : SqlBreach). grammar_kind b.kind b.token) ((has_one_query text g.0 g.2).one_breach g.1 k.1 g.3 (moved_breach text k.0 g.0 k.1 k.2 g.2 k.3)) ∙ sym k.4)

one_said : (text : List ℕ) (a b : Reading) → Reads text a → Reads text b → a ≡ b
one_said text (query p) (query q) h k = ap query (one_query text p q h k)
one_said text (query p) (wrong d) h k = absurd (not_both text p d h k)
one_said text (wrong c) (query q) h k = absurd (not_both text q c k h)
one_said text (wrong c) (wrong d) h k = ap wrong (one_wrong text c d h k)

-- a text reads as one thing, and as nothing else
pub is_read_once : (text : List ℕ) → IsReadOnce text
is_read_once text = record { some = of_text text (has_one_reading text).either; one = one_said text }
