-- The rules of the parser, which one terminal tells apart, and which terminals they accept.
use Rattle.std.specs.Prelude.{◌≡◌, ℕ, zero, suc, ◌⊎◌, List, [], ◌∷◌, ◌++◌}
use Rattle.mast_grammar.specs.declared.terminal.Terminal.{Terminal}
use Rattle.mast_grammar.specs.declared.terminal.Terminal.TheVariants as terminal
use Rattle.mast_grammar.specs.declared.terminal.Terminal.TheVariants.{Integer, Quoted, Doubled, Pname, Iri, Open, Close, OpenBrace, CloseBrace, Comma, Dot, Equal, Differ, Carets}
use Rattle.mast_grammar.specs.declared.rules.Rule.{Rule}
use Rattle.mast_grammar.specs.declared.rules.Rule.TheVariants as rule
use Rattle.mast_grammar.specs.declared.rules.Part.{Part}
use Rattle.mast_grammar.specs.declared.rules.Part.TheVariants.{One, The, Maybe, Many}

-- alternatives: this one, or this one or those
abbrev pub only : List Part → List (List Part)
only a = a ∷ []

-- a query: PREFIX lines, a body, and a semicolon or none
abbrev pub query_parts : List Part
query_parts = Many rule.Line ∷ The rule.Body ∷ Maybe rule.Semicolon ∷ []

-- what each rule says: a list of alternatives, each a list of parts
abbrev pub alternatives : Rule → List (List Part)
alternatives rule.Line = only (One terminal.Prefix ∷ One terminal.NewPrefix ∷ One Iri ∷ [])
alternatives rule.Body = only (The rule.Term ∷ Many rule.SetTerm ∷ [])
alternatives rule.SetTerm = only (The rule.SetWord ∷ The rule.Term ∷ [])
alternatives rule.SetWord = (One terminal.Union ∷ []) ∷ only (One terminal.Except ∷ [])
alternatives rule.Term = only (The rule.Factor ∷ Many rule.MetFactor ∷ [])
alternatives rule.MetFactor = only (One terminal.Intersect ∷ The rule.Factor ∷ [])
alternatives rule.Factor = (The rule.Select ∷ []) ∷ only (One Open ∷ The rule.Body ∷ One Close ∷ [])
alternatives rule.Select =
    only (One terminal.Select ∷ Maybe rule.Distinct ∷ The rule.Item ∷ Many rule.NextItem
    ∷ One terminal.From ∷ The rule.Entry ∷ Many rule.NextEntry ∷ Maybe rule.Where ∷ [])
alternatives rule.Distinct = only (One terminal.Distinct ∷ [])
alternatives rule.Item = only (The rule.Column ∷ Maybe rule.Output ∷ [])
alternatives rule.NextItem = only (One Comma ∷ The rule.Item ∷ [])
alternatives rule.Output = only (One terminal.As ∷ The rule.Name ∷ [])
alternatives rule.Column = only (The rule.Name ∷ Maybe rule.ColumnName ∷ [])
alternatives rule.ColumnName = only (One Dot ∷ The rule.Name ∷ [])
alternatives rule.Name = (One terminal.Name ∷ []) ∷ only (One terminal.A ∷ [])
alternatives rule.Entry =
    only (One terminal.Sparqltable ∷ One Open ∷ The rule.Sparql ∷ One Close ∷ Maybe rule.As ∷ The rule.Name ∷ [])
alternatives rule.NextEntry = only (One Comma ∷ The rule.Entry ∷ [])
alternatives rule.As = only (One terminal.As ∷ [])
alternatives rule.Where = only (One terminal.Where ∷ The rule.Cond ∷ [])
alternatives rule.Cond = only (The rule.Conj ∷ Many rule.OrConj ∷ [])
alternatives rule.OrConj = only (One terminal.Or ∷ The rule.Conj ∷ [])
alternatives rule.Conj = only (The rule.Neg ∷ Many rule.AndNeg ∷ [])
alternatives rule.AndNeg = only (One terminal.And ∷ The rule.Neg ∷ [])
alternatives rule.Neg =
    (One terminal.Not ∷ The rule.Neg ∷ []) ∷ (One terminal.Exists ∷ One Open ∷ The rule.Body ∷ One Close ∷ [])
    ∷ (One Open ∷ The rule.Cond ∷ One Close ∷ [])
    ∷ only (The rule.Operand ∷ The rule.Comparison ∷ The rule.Operand ∷ [])
alternatives rule.Comparison = (One Equal ∷ []) ∷ only (One Differ ∷ [])
alternatives rule.Operand = (The rule.Value ∷ []) ∷ only (The rule.Name ∷ Maybe rule.OperandRest ∷ [])
alternatives rule.OperandRest = (One Dot ∷ The rule.Name ∷ []) ∷ only (One Open ∷ Maybe rule.Values ∷ One Close ∷ [])
alternatives rule.Values = only (The rule.Value ∷ Many rule.NextValue ∷ [])
alternatives rule.NextValue = only (One Comma ∷ The rule.Value ∷ [])
alternatives rule.Value = (One Integer ∷ []) ∷ (One Quoted ∷ []) ∷ only (One terminal.Date ∷ One Quoted ∷ [])
alternatives rule.Sparql =
    only (One terminal.Select ∷ Maybe rule.Distinct ∷ The rule.Var ∷ Many rule.Var ∷ Maybe rule.WhereWord ∷ The rule.Group ∷ [])
alternatives rule.Var = only (One terminal.Var ∷ [])
alternatives rule.WhereWord = only (One terminal.Where ∷ [])
alternatives rule.Group = only (One OpenBrace ∷ The rule.GroupRest ∷ [])
alternatives rule.GroupRest =
    (The rule.Block ∷ One CloseBrace ∷ [])
    ∷ only (One OpenBrace ∷ The rule.Block ∷ One CloseBrace ∷ Many rule.NextBlock ∷ One CloseBrace ∷ [])
alternatives rule.NextBlock = only (One terminal.Union ∷ One OpenBrace ∷ The rule.Block ∷ One CloseBrace ∷ [])
alternatives rule.Block = only (The rule.Triples ∷ Maybe rule.MoreBlock ∷ [])
alternatives rule.MoreBlock = only (One Dot ∷ Maybe rule.Block ∷ [])
alternatives rule.Triples = only (One terminal.Var ∷ The rule.Property ∷ Many rule.NextProperty ∷ [])
alternatives rule.Property =
    (One terminal.A ∷ The rule.Class ∷ Many rule.NextClass ∷ [])
    ∷ only (The rule.Verb ∷ The rule.Object ∷ Many rule.NextObject ∷ [])
alternatives rule.NextProperty = only (One terminal.Semicolon ∷ The rule.Property ∷ [])
alternatives rule.Class = (One Pname ∷ []) ∷ only (One Iri ∷ [])
alternatives rule.NextClass = only (One Comma ∷ The rule.Class ∷ [])
alternatives rule.Verb = (One Pname ∷ []) ∷ only (One Iri ∷ [])
alternatives rule.Object = (One terminal.Var ∷ []) ∷ (One Integer ∷ []) ∷ only (One Doubled ∷ Maybe rule.Datatype ∷ [])
alternatives rule.NextObject = only (One Comma ∷ The rule.Object ∷ [])
alternatives rule.Datatype = only (One Carets ∷ The rule.Verb ∷ [])
alternatives rule.Semicolon = only (One terminal.Semicolon ∷ [])

-- x is an element of the list
abbrev pub In : {X : Type 0} → X → List X → Type 0
In x [] = ⊥
In x (y ∷ ys) = (x ≡ y) ⊎ In x ys

-- the parts stand for these terminals, in so many steps at most: a terminal for itself, a rule for one of its
-- alternatives, a rule that may be left out for nothing or for the rule, and a rule any number of times for nothing or
-- for the rule and any number of times again
abbrev pub Reads : ℕ → List Part → List Terminal → Type 0
Reads n [] ks = ks ≡ []
Reads zero (p ∷ ps) ks = ⊥
Reads (suc n) (One k ∷ ps) ks = (more : List Terminal) × (ks ≡ k ∷ more) × Reads n ps more
Reads (suc n) (The r ∷ ps) ks =
    (alternative : List Part) × In alternative (alternatives r) × Reads n (alternative ++ ps) ks
Reads (suc n) (Maybe r ∷ ps) ks = Reads n ps ks ⊎ Reads n (The r ∷ ps) ks
Reads (suc n) (Many r ∷ ps) ks = Reads n ps ks ⊎ Reads n (The r ∷ (Many r ∷ ps)) ks
