-- The first two passes over a query's bytes: its tokens, and then the grammar with its limits.
use Rattle.std.specs.Prelude.{◌≡◌, ℕ, ◌⊎◌, List, Some, None}
use Rattle.mast_sql.specs.declared.token.SqlToken.{SqlToken}
use Rattle.mast_grammar.specs.declared.breach.GrammarKind.{GrammarKind}
use Rattle.mast_grammar.specs.declared.breach.GrammarKind.TheVariants as grammar
use Rattle.mast_grammar.specs.declared.breach.GrammarBreach.{GrammarBreach}
use Rattle.mast_grammar.specs.Breaches.{Tells}
use Rattle.mast_sparsql.specs.declared.breach.QueryKind.{QueryKind}
use Rattle.mast_sparsql.specs.declared.breach.QueryKind.TheVariants as kind
use Rattle.mast_sparsql.specs.declared.breach.QueryBreach.{QueryBreach}
use Rattle.mast_sparsql.specs.Lexing.{AreFileTokens, IsFileLex}
use Rattle.mast_sparsql.specs.Terminals.{terminals}

-- the kind of a breach of the grammar, or of a limit, among those of a query
abbrev pub kind_of : GrammarKind → QueryKind
kind_of grammar.Grammar = kind.Grammar
kind_of grammar.Depth = kind.Depth
kind_of grammar.Operators = kind.Operators
kind_of grammar.Entries = kind.Entries
kind_of grammar.Disjuncts = kind.Disjuncts
kind_of grammar.Atoms = kind.Atoms

-- the same with its token
abbrev pub breach_of : GrammarBreach → QueryBreach
breach_of first = record { token = first.at; kind = kind_of first.kind }

-- the first pass: the first lexical breach
pub record IsLexPass (source : List ℕ) (breach : QueryBreach) : Type 0 where
  pub lex : breach.kind ≡ kind.Lex
  pub place : IsFileLex source (record { token = breach.token })

-- the second pass: the first breach of the grammar or its limits
pub record IsGrammarPass (source : List ℕ) (breach : QueryBreach) : Type 0 where
  pub tokens : List SqlToken
  pub lexed : AreFileTokens source tokens
  pub first : GrammarBreach
  pub told : Tells (terminals source tokens) (Some first)
  pub is : breach ≡ breach_of first

-- the first breach of the first two passes
abbrev pub IsEarlyBreach : List ℕ → QueryBreach → Type 0
IsEarlyBreach source breach = IsLexPass source breach ⊎ IsGrammarPass source breach

-- the tokens of the bytes, which are a query of the grammar within its limits
pub record AreQueryTokens (source : List ℕ) (tokens : List SqlToken) : Type 0 where
  pub lexed : AreFileTokens source tokens
  pub told : Tells (terminals source tokens) None
