-- What the reader makes of a file by the first two passes.
use Rattle.std.proofs.Common.{◌≡◌, inr, ◌<◌, ◌≤◌, List, [], length, ℕ, false, ◌∙◌, ap, subst, arith}
use Rattle.std.specs.Prelude.{Option, Some, None}
use Rattle.mast_sql.specs.declared.token.SqlToken.{SqlToken}
use Rattle.mast_grammar.specs.declared.terminal.Terminal.{Terminal}
use Rattle.mast_grammar.specs.declared.breach.GrammarBreach.{GrammarBreach}
use Rattle.mast_grammar.specs.Breaches.{Tells}
use Rattle.mast_sparsql.specs.declared.breach.QueryBreach.{QueryBreach}
use Rattle.mast_sparsql.specs.Lexing.{AreFileTokens}
use Rattle.mast_sparsql.specs.Terminals.{terminals}
use Rattle.mast_sparsql.specs.Passes.{breach_of, IsEarlyBreach, AreQueryTokens}
use Rattle.mast_sparsql.proofs.LexingLemmas.{tokens_size}
use Rattle.mast_sparsql.proofs.TerminalLemmas.{terminals_size}

-- terminals that the reader holds in a slice
pub same_terminals : (source : List ℕ) (tokens held : List SqlToken) (ks seen : List Terminal) → held ≡ tokens → ks ≡ terminals source held → seen ≡ ks → seen ≡ terminals source tokens
same_terminals source tokens held ks seen h k s = s ∙ (k ∙ ap (λ x. terminals source x) h)

-- there are fewer than bytes
pub few_terminals : (source : List ℕ) (tokens held : List SqlToken) (ks seen : List Terminal) → held ≡ tokens → AreFileTokens source tokens → ks ≡ terminals source held → seen ≡ ks → length source < 4294967295 → length seen < 4294967295
few_terminals source tokens held ks seen h t k s l =
    let e : length seen ≡ length (terminals source tokens) = ap length (same_terminals source tokens held ks seen h k s) in
    let n : length (terminals source tokens) ≡ length tokens = terminals_size source false [] tokens in
    let m : length tokens ≤ length source = tokens_size source tokens t.lexed in
    omega arith

-- no breach is told
pub query_none : (source : List ℕ) (tokens held : List SqlToken) (ks seen : List Terminal) (answer : Option GrammarBreach) → held ≡ tokens → AreFileTokens source tokens → ks ≡ terminals source held → seen ≡ ks → Tells seen answer → answer ≡ None → AreQueryTokens source tokens
query_none source tokens held ks seen answer h t k s told e =
    record {
      lexed = t;
      told = subst (λ x. Tells x None) (same_terminals source tokens held ks seen h k s) (subst (λ a. Tells seen a) e told);
    }

-- the first breach is told
pub query_some : (source : List ℕ) (tokens held : List SqlToken) (ks seen : List Terminal) (answer : Option GrammarBreach) (b : GrammarBreach) (breach : QueryBreach) → held ≡ tokens → AreFileTokens source tokens → ks ≡ terminals source held → seen ≡ ks → Tells seen answer → answer ≡ Some b → breach ≡ breach_of b → IsEarlyBreach source breach
query_some source tokens held ks seen answer b breach h t k s told e is =
    inr (record {
      tokens = tokens;
      lexed = t;
      first = b;
      told = subst (λ x. Tells x (Some b)) (same_terminals source tokens held ks seen h k s) (subst (λ a. Tells seen a) e told);
      is = is;
    })
