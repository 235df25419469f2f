-- The limits of a query, and the first breach of terminals.
use Rattle.std.specs.Prelude.{◌≡◌, ℕ, ◌+◌, ◌-◌, ◌<◌, ◌≤◌, ◌⊎◌, Bool, true, false, if◌then◌else◌, List, [], ◌∷◌, ◌++◌, take, slice_get, Option, Some, None}
use Rattle.mast_source.specs.Grammar.{Begins, UnexpectedAt}
use Rattle.mast_grammar.specs.declared.terminal.Terminal.{Terminal}
use Rattle.mast_grammar.specs.declared.terminal.Terminal.TheVariants.{From, And, Or, Not, Union, Except, Intersect, Sparqltable, A, Pname, Var, Iri, Integer, Doubled, Open, Close, OpenBrace, Comma, Dot, Semicolon}
use Rattle.mast_grammar.specs.declared.breach.GrammarKind.{GrammarKind}
use Rattle.mast_grammar.specs.declared.breach.GrammarKind.TheVariants as kind
use Rattle.mast_grammar.specs.declared.breach.GrammarBreach.{GrammarBreach}
use Rattle.mast_grammar.specs.declared.limits.TheConstants.{MOST_OPEN, MOST_OPERATORS, MOST_ENTRIES, MOST_BLOCKS, MOST_ATOMS}
use Rattle.mast_grammar.specs.Grammar.{IsQuery}

-- a number that each terminal changes, behind these terminals
abbrev pub counted : (ℕ → Terminal → ℕ) → ℕ → List Terminal → ℕ
counted change n [] = n
counted change n (k ∷ ks) = counted change (change n k) ks

-- parentheses that are open
abbrev pub opened : ℕ → Terminal → ℕ
opened n Open = n + 1
opened n Close = n - 1
opened n _ = n

-- the words that are operators
abbrev pub is_operator : Terminal → Bool
is_operator Union = true
is_operator Except = true
is_operator Intersect = true
is_operator And = true
is_operator Or = true
is_operator Not = true
is_operator _ = false

-- operators
abbrev pub operated : ℕ → Terminal → ℕ
operated n k = if is_operator k then n + 1 else n

-- entries of the last FROM
abbrev pub listed : ℕ → Terminal → ℕ
listed n From = 0
listed n Sparqltable = n + 1
listed n _ = n

-- braces that open in the last `sparqltable`; of two or more the first is that of the group
abbrev pub braced : ℕ → Terminal → ℕ
braced n Sparqltable = 0
braced n OpenBrace = n + 1
braced n _ = n

-- commas, semicolons and dots behind the last brace that opens; where an object comes, as many atoms are before it
abbrev pub parted : ℕ → Terminal → ℕ
parted n OpenBrace = 0
parted n Comma = n + 1
parted n Dot = n + 1
parted n Semicolon = n + 1
parted n _ = n

-- `a` or a comma
abbrev pub is_class_front : Terminal → Bool
is_class_front A = true
is_class_front Comma = true
is_class_front _ = false

-- whether the last terminal is one of these
abbrev pub after_class : Bool → List Terminal → Bool
after_class b [] = b
after_class b (k ∷ ks) = after_class (is_class_front k) ks

-- an object, also one against the rule on `a`
abbrev pub is_object : Terminal → Bool
is_object Var = true
is_object Pname = true
is_object Iri = true
is_object Integer = true
is_object Doubled = true
is_object _ = false

-- some query begins with the terminals and with this one as well
abbrev pub MayCome : List Terminal → Terminal → Type 0
MayCome before k = Begins IsQuery (before ++ (k ∷ []))

-- an object comes behind the terminals: a text in double quotes may come, or a class behind `a` or a comma
abbrev pub ObjectComes : List Terminal → Type 0
ObjectComes before = MayCome before Doubled ⊎ ((after_class false before ≡ true) × MayCome before Pname)

-- behind the terminals before it, the terminal passes the limit
abbrev pub Passes : GrammarKind → List Terminal → Terminal → Type 0
Passes kind.Grammar before k = ⊥
Passes kind.Depth before k = (k ≡ Open) × (counted opened 0 before ≡ MOST_OPEN)
Passes kind.Operators before k = (is_operator k ≡ true) × (counted operated 0 before ≡ MOST_OPERATORS)
Passes kind.Entries before k = (k ≡ Sparqltable) × (counted listed 0 before ≡ MOST_ENTRIES) × MayCome before k
Passes kind.Disjuncts before k = (k ≡ OpenBrace) × (counted braced 0 before ≡ MOST_BLOCKS + 1) × MayCome before k
Passes kind.Atoms before k = (is_object k ≡ true) × (counted parted 0 before ≡ MOST_ATOMS) × ObjectComes before

-- terminal i passes the limit
abbrev pub LimitAt : List Terminal → ℕ → GrammarKind → Type 0
LimitAt ks i limit = (k : Terminal) × (slice_get ks i ≡ Some k) × Passes limit (take i ks) k

-- terminal i passes no limit
abbrev pub NoLimitAt : List Terminal → ℕ → Type 0
NoLimitAt ks i = (limit : GrammarKind) → LimitAt ks i limit → ⊥

-- terminal i passes the limit, and no breach of either sort comes before
abbrev pub IsFirstLimit : List Terminal → ℕ → GrammarKind → Type 0
IsFirstLimit ks i limit =
    LimitAt ks i limit × ((j : ℕ) → j < i → NoLimitAt ks j) × ((j : ℕ) → j < i → UnexpectedAt IsQuery ks j → ⊥)

-- the first breach is at terminal i and of this kind: a limit comes first at its terminal
abbrev pub IsFirstBreach : List Terminal → ℕ → GrammarKind → Type 0
IsFirstBreach ks i kind.Grammar = UnexpectedAt IsQuery ks i × ((j : ℕ) → j ≤ i → NoLimitAt ks j)
IsFirstBreach ks i kind.Depth = IsFirstLimit ks i kind.Depth
IsFirstBreach ks i kind.Operators = IsFirstLimit ks i kind.Operators
IsFirstBreach ks i kind.Entries = IsFirstLimit ks i kind.Entries
IsFirstBreach ks i kind.Disjuncts = IsFirstLimit ks i kind.Disjuncts
IsFirstBreach ks i kind.Atoms = IsFirstLimit ks i kind.Atoms

-- the terminals are a query within the limits
abbrev pub IsWithinLimits : List Terminal → Type 0
IsWithinLimits ks = ((steps : ℕ) × IsQuery ks steps) × ((i : ℕ) → NoLimitAt ks i)

-- what is told of terminals is right: none where they are a query within the limits, else the first breach
abbrev pub Tells : List Terminal → Option GrammarBreach → Type 0
Tells ks None = IsWithinLimits ks
Tells ks (Some breach) = IsFirstBreach ks breach.at breach.kind
