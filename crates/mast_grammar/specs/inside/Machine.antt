-- The parser: the parts that are still to come, the next one first, and what a terminal makes of them.
use Rattle.std.specs.Prelude.{◌≡◌, ℕ, zero, suc, Bool, true, false, List, [], ◌∷◌, ◌++◌, Option, Some, None, MatchOption}
use denote.Enum.Bare.{sameb}
use Rattle.mast_grammar.specs.contracts.terminal.Terminal.{the_type}
use Rattle.mast_grammar.specs.declared.terminal.Terminal.{Terminal}
use Rattle.mast_grammar.specs.declared.rules.Rule.{Rule}
use Rattle.mast_grammar.specs.declared.rules.Part.{Part}
use Rattle.mast_grammar.specs.declared.rules.Part.TheVariants.{One, The, Maybe, Many}
use Rattle.mast_grammar.specs.inside.Rules.{alternatives}

-- whether two terminals are one
abbrev pub same : Terminal → Terminal → Bool
same wanted k = sameb the_type wanted k

-- the parts, where the test holds
abbrev pub when : Bool → List Part → Option (List Part)
when true a = Some a
when false a = None

-- the parts, and others behind them
abbrev pub behind : Option (List Part) → List Part → Option (List Part)
behind None ps = None
behind (Some a) ps = Some (a ++ ps)

-- the first if there is one, else the second
abbrev pub or_else : Option (List Part) → Option (List Part) → Option (List Part)
or_else a None = a
or_else None (Some b) = Some b
or_else (Some a) (Some b) = Some a

-- what is to come of an alternative behind its first terminal
abbrev pub through : (Rule → Terminal → Option (List Part)) → List Part → Terminal → Option (List Part)
through enter (One wanted ∷ ps) k = when (same wanted k) ps
through enter (The r ∷ ps) k = behind (enter r k) ps
through enter _ k = None

-- the same of the alternative that begins with the terminal
abbrev pub choose : (Rule → Terminal → Option (List Part)) → List (List Part) → Terminal → Option (List Part)
choose enter [] k = None
choose enter (a ∷ more) k = or_else (through enter a k) (choose enter more k)

-- what is to come of a rule behind its first terminal, where that stands n rules deep at most
abbrev pub entered : ℕ → Rule → Terminal → Option (List Part)
entered zero r k = None
entered (suc n) r k = choose (entered n) (alternatives r) k

-- and wherever it stands: no rule has its first terminal deeper
abbrev pub enter : Rule → Terminal → Option (List Part)
enter r k = entered 6 r k

-- what a rule makes of the parts before which it may come; the other where the terminal does not begin it
abbrev pub on_enter : Option (List Part) → Option (List Part) → List Part → Option (List Part)
on_enter None other ps = other
on_enter (Some a) other ps = Some (a ++ ps)

-- what a terminal leaves of the parts to come, or nothing where it may not come
abbrev pub step : List Part → Terminal → Option (List Part)
step [] k = None
step (One wanted ∷ ps) k = when (same wanted k) ps
step (The r ∷ ps) k = behind (enter r k) ps
step (Maybe r ∷ ps) k = on_enter (enter r k) (step ps k) ps
step (Many r ∷ ps) k = on_enter (enter r k) (step ps k) (Many r ∷ ps)

-- whether nothing must come
abbrev pub can_end : List Part → Bool
can_end [] = true
can_end (One wanted ∷ ps) = false
can_end (The r ∷ ps) = false
can_end (Maybe r ∷ ps) = can_end ps
can_end (Many r ∷ ps) = can_end ps

-- what the code makes of its parts by a rule: they are as they were where the terminal does not begin it
abbrev pub Enters : Option (List Part) → List Part → Bool → List Part → Type 0
Enters None old begun new = (begun ≡ false) × (new ≡ old)
Enters (Some a) old begun new = (begun ≡ true) × (new ≡ a ++ old)

-- what the code makes of its parts by a rule that may come any number of times
abbrev pub Repeats : Rule → Option (List Part) → List Part → Bool → List Part → Type 0
Repeats r None old begun new = (begun ≡ false) × (new ≡ old)
Repeats r (Some a) old begun new = (begun ≡ true) × (new ≡ a ++ (Many r ∷ old))

-- what the code makes of its parts by a terminal
abbrev pub Steps : Option (List Part) → Bool → List Part → Type 0
Steps None comes new = comes ≡ false
Steps (Some ps) comes new = (comes ≡ true) × (new ≡ ps)

-- that the rule begins, where it may be left out
abbrev pub found : Bool → Option Bool
found true = Some true
found false = None

-- what the code makes of the parts behind the next one by a terminal: it knows whether it comes, or what follows decides
abbrev pub Tries : Part → List Part → Terminal → Option Bool → List Part → Type 0
Tries part old k known new =
    MatchOption known ((step (part ∷ old) k ≡ step old k) × (new ≡ old)) (λ comes. Steps (step (part ∷ old) k) comes new)
