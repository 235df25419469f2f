-- What the definitions promise by themselves.
use Rattle.std.specs.Prelude.{◌≡◌, List, Option}
use Rattle.mast_grammar.specs.declared.terminal.Terminal.{Terminal}
use Rattle.mast_grammar.specs.declared.breach.GrammarBreach.{GrammarBreach}
use Rattle.mast_grammar.specs.Breaches.{Tells}

-- terminals are a query within the limits or have a first breach; they are not both, and have only one
pub record HasOneAnswer (ks : List Terminal) : Type 0 where
  pub either : (told : Option GrammarBreach) × Tells ks told
  pub one : (a b : Option GrammarBreach) → Tells ks a → Tells ks b → a ≡ b

-- so it is with all terminals
abbrev pub GrammarLaw : Type 0
GrammarLaw = (ks : List Terminal) → HasOneAnswer ks
