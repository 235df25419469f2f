-- What the reader counts and tells, terminal by terminal.
use Rattle.std.specs.Prelude.{ℕ, ◌+◌, ◌<◌, ◌==◌, ◌&&◌, ◌||◌, Bool, true, false, if◌then◌else◌, List, [], ◌∷◌, Option, Some, None, is_some}
use Rattle.mast_grammar.specs.declared.terminal.Terminal.{Terminal}
use Rattle.mast_grammar.specs.declared.terminal.Terminal.TheVariants.{Pname, Doubled, Open, OpenBrace, Sparqltable}
use Rattle.mast_grammar.specs.declared.rules.Part.{Part}
use Rattle.mast_grammar.specs.declared.breach.GrammarKind.{GrammarKind}
use Rattle.mast_grammar.specs.declared.breach.GrammarKind.TheVariants as kind
use Rattle.mast_grammar.specs.declared.breach.GrammarBreach.{GrammarBreach}
use Rattle.mast_grammar.specs.declared.limits.Counts.{Counts}
use Rattle.mast_grammar.specs.declared.limits.TheConstants.{MOST_OPEN, MOST_OPERATORS, MOST_ENTRIES, MOST_BLOCKS, MOST_ATOMS}
use Rattle.mast_grammar.specs.Breaches.{opened, is_operator, operated, listed, braced, parted, is_class_front, is_object}
use Rattle.mast_grammar.specs.inside.Machine.{same, step, can_end}

-- before any terminal
abbrev pub nothing_counted : Counts
nothing_counted =
    record { depth = 0; operators = 0; entries = 0; braces = 0; separators = 0; after_class = false }

-- behind a terminal
abbrev pub counting : Counts → Terminal → Counts
counting c k =
    record {
      depth = opened c.depth k;
      operators = operated c.operators k;
      entries = listed c.entries k;
      braces = braced c.braces k;
      separators = parted c.separators k;
      after_class = is_class_front k;
    }

-- each number is below the bound
pub record CountsBelow (bound : ℕ) (c : Counts) : Type 0 where
  pub depth : c.depth < bound
  pub operators : c.operators < bound
  pub entries : c.entries < bound
  pub braces : c.braces < bound
  pub separators : c.separators < bound

-- the terminal may come
abbrev pub expects : List Part → Terminal → Bool
expects ps k = is_some (step ps k)

-- an object comes
abbrev pub at_object : Counts → List Part → Bool
at_object c ps = expects ps Doubled || (c.after_class && expects ps Pname)

-- the parenthesis is one too many
abbrev pub deep_at : Counts → Terminal → Bool
deep_at c k = same k Open && c.depth == MOST_OPEN

-- the operator is one too many
abbrev pub long_at : Counts → Terminal → Bool
long_at c k = is_operator k && c.operators == MOST_OPERATORS

-- the tests of the limits
abbrev pub tested : GrammarKind → Counts → List Part → Terminal → Bool
tested kind.Grammar c ps k = false
tested kind.Depth c ps k = deep_at c k
tested kind.Operators c ps k = long_at c k
tested kind.Entries c ps k = same k Sparqltable && (c.entries == MOST_ENTRIES && expects ps k)
tested kind.Disjuncts c ps k = same k OpenBrace && (c.braces == MOST_BLOCKS + 1 && expects ps k)
tested kind.Atoms c ps k = is_object k && (c.separators == MOST_ATOMS && at_object c ps)

-- the kind of the first test that holds
abbrev pub first_of : Bool → Bool → Bool → Bool → Bool → Option GrammarKind
first_of depth operators entries disjuncts atoms =
    if depth then Some kind.Depth else if operators then Some kind.Operators
    else if entries then Some kind.Entries else if disjuncts then Some kind.Disjuncts
    else if atoms then Some kind.Atoms else None

-- the limit that a terminal passes
abbrev pub limit : Counts → List Part → Terminal → Option GrammarKind
limit c ps k =
    first_of (tested kind.Depth c ps k) (tested kind.Operators c ps k) (tested kind.Entries c ps k)
    (tested kind.Disjuncts c ps k) (tested kind.Atoms c ps k)

-- a breach
abbrev pub breach_at : ℕ → GrammarKind → Option GrammarBreach
breach_at n k = Some (record { at = n; kind = k })

-- at the end
abbrev pub on_end : Bool → ℕ → Option GrammarBreach
on_end true n = None
on_end false n = breach_at n kind.Grammar

-- where a terminal passes a limit, and else
abbrev pub on_limit : Option GrammarKind → ℕ → Option GrammarBreach → Option GrammarBreach
on_limit None n on = on
on_limit (Some k) n on = breach_at n k

-- where a terminal may come, and else
abbrev pub on_step : Option (List Part) → ℕ → (List Part → Option GrammarBreach) → Option GrammarBreach
on_step None n on = breach_at n kind.Grammar
on_step (Some ps) n on = on ps

-- what is told of the terminals that are left, where n are before them
abbrev pub look : ℕ → Counts → List Part → List Terminal → Option GrammarBreach
look n c ps [] = on_end (can_end ps) n
look n c ps (k ∷ ks) = on_limit (limit c ps k) n (on_step (step ps k) n (λ qs. look (n + 1) (counting c k) qs ks))
