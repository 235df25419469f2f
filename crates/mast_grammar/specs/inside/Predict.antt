-- What may come behind each rule, and that the rules can be told apart by one terminal.
use Rattle.std.specs.Prelude.{◌≡◌, ◌&&◌, ◌||◌, Bool, true, false, not, List, [], ◌∷◌, ◌++◌, Option, Some, None, is_some}
use Rattle.mast_grammar.specs.declared.terminal.Terminal.{Terminal}
use Rattle.mast_grammar.specs.declared.terminal.Terminal.TheVariants as terminal
use Rattle.mast_grammar.specs.declared.rules.Rule.{Rule}
use Rattle.mast_grammar.specs.declared.rules.Rule.TheVariants as rule
use Rattle.mast_grammar.specs.declared.rules.Part.{Part}
use Rattle.mast_grammar.specs.declared.rules.Part.TheVariants.{One, The, Maybe, Many}
use Rattle.mast_grammar.specs.inside.Rules.{alternatives}
use Rattle.mast_grammar.specs.inside.Machine.{same, through, choose, enter, step, can_end}

-- a test holds of all elements
abbrev pub all : {X : Type 0} → (X → Bool) → List X → Bool
all test [] = true
all test (x ∷ xs) = test x && all test xs

-- the terminals
abbrev pub all_terminals : List Terminal
all_terminals =
    terminal.Select ∷ terminal.Distinct ∷ terminal.From ∷ terminal.Where ∷ terminal.As ∷ terminal.And ∷ terminal.Or
    ∷ terminal.Not ∷ terminal.Exists ∷ terminal.Union ∷ terminal.Except ∷ terminal.Intersect ∷ terminal.Prefix
    ∷ terminal.Sparqltable ∷ terminal.Date ∷ terminal.A ∷ terminal.Name ∷ terminal.Pname ∷ terminal.NewPrefix
    ∷ terminal.Var ∷ terminal.Iri ∷ terminal.Integer ∷ terminal.Quoted ∷ terminal.Doubled ∷ terminal.Open
    ∷ terminal.Close ∷ terminal.OpenBrace ∷ terminal.CloseBrace ∷ terminal.Comma ∷ terminal.Dot ∷ terminal.Semicolon
    ∷ terminal.Equal ∷ terminal.Differ ∷ terminal.Carets ∷ terminal.Other ∷ []

-- behind Line
abbrev pub behind_line : Terminal → Bool
behind_line terminal.Prefix = true
behind_line terminal.Select = true
behind_line terminal.Open = true
behind_line _ = false

-- behind Body
abbrev pub behind_body : Terminal → Bool
behind_body terminal.Close = true
behind_body terminal.Semicolon = true
behind_body _ = false

-- behind SetTerm, Term
abbrev pub behind_term : Terminal → Bool
behind_term terminal.Union = true
behind_term terminal.Except = true
behind_term terminal.Close = true
behind_term terminal.Semicolon = true
behind_term _ = false

-- behind MetFactor, Factor, Select, Where, Cond
abbrev pub behind_factor : Terminal → Bool
behind_factor terminal.Intersect = true
behind_factor terminal.Union = true
behind_factor terminal.Except = true
behind_factor terminal.Close = true
behind_factor terminal.Semicolon = true
behind_factor _ = false

-- behind Item, NextItem, Output
abbrev pub behind_item : Terminal → Bool
behind_item terminal.Comma = true
behind_item terminal.From = true
behind_item _ = false

-- behind Column, ColumnName
abbrev pub behind_column : Terminal → Bool
behind_column terminal.As = true
behind_column terminal.Comma = true
behind_column terminal.From = true
behind_column _ = false

-- behind Entry, NextEntry
abbrev pub behind_entry : Terminal → Bool
behind_entry terminal.Comma = true
behind_entry terminal.Where = true
behind_entry terminal.Intersect = true
behind_entry terminal.Union = true
behind_entry terminal.Except = true
behind_entry terminal.Close = true
behind_entry terminal.Semicolon = true
behind_entry _ = false

-- behind OrConj, Conj
abbrev pub behind_conj : Terminal → Bool
behind_conj terminal.Or = true
behind_conj terminal.Intersect = true
behind_conj terminal.Union = true
behind_conj terminal.Except = true
behind_conj terminal.Close = true
behind_conj terminal.Semicolon = true
behind_conj _ = false

-- behind AndNeg, Neg
abbrev pub behind_neg : Terminal → Bool
behind_neg terminal.And = true
behind_neg terminal.Or = true
behind_neg terminal.Intersect = true
behind_neg terminal.Union = true
behind_neg terminal.Except = true
behind_neg terminal.Close = true
behind_neg terminal.Semicolon = true
behind_neg _ = false

-- behind Operand, OperandRest
abbrev pub behind_operand : Terminal → Bool
behind_operand terminal.Equal = true
behind_operand terminal.Differ = true
behind_operand terminal.And = true
behind_operand terminal.Or = true
behind_operand terminal.Intersect = true
behind_operand terminal.Union = true
behind_operand terminal.Except = true
behind_operand terminal.Close = true
behind_operand terminal.Semicolon = true
behind_operand _ = false

-- behind Values
abbrev pub behind_values : Terminal → Bool
behind_values terminal.Close = true
behind_values _ = false

-- behind NextValue
abbrev pub behind_nextvalue : Terminal → Bool
behind_nextvalue terminal.Comma = true
behind_nextvalue terminal.Close = true
behind_nextvalue _ = false

-- behind Block, MoreBlock
abbrev pub behind_block : Terminal → Bool
behind_block terminal.CloseBrace = true
behind_block _ = false

-- behind Triples
abbrev pub behind_triples : Terminal → Bool
behind_triples terminal.Dot = true
behind_triples terminal.CloseBrace = true
behind_triples _ = false

-- behind Property, NextProperty
abbrev pub behind_property : Terminal → Bool
behind_property terminal.Semicolon = true
behind_property terminal.Dot = true
behind_property terminal.CloseBrace = true
behind_property _ = false

-- behind NextClass, Object, NextObject, Datatype
abbrev pub behind_object : Terminal → Bool
behind_object terminal.Comma = true
behind_object terminal.Semicolon = true
behind_object terminal.Dot = true
behind_object terminal.CloseBrace = true
behind_object _ = false

-- what may come behind a rule, where that matters: its last parts may be left out
abbrev pub follow : Rule → Terminal → Bool
follow rule.Line k = behind_line k
follow rule.Body k = behind_body k
follow rule.SetTerm k = behind_term k
follow rule.Term k = behind_term k
follow rule.MetFactor k = behind_factor k
follow rule.Factor k = behind_factor k
follow rule.Select k = behind_factor k
follow rule.Where k = behind_factor k
follow rule.Cond k = behind_factor k
follow rule.Item k = behind_item k
follow rule.NextItem k = behind_item k
follow rule.Output k = behind_item k
follow rule.Column k = behind_column k
follow rule.ColumnName k = behind_column k
follow rule.Entry k = behind_entry k
follow rule.NextEntry k = behind_entry k
follow rule.OrConj k = behind_conj k
follow rule.Conj k = behind_conj k
follow rule.AndNeg k = behind_neg k
follow rule.Neg k = behind_neg k
follow rule.Operand k = behind_operand k
follow rule.OperandRest k = behind_operand k
follow rule.Values k = behind_values k
follow rule.NextValue k = behind_nextvalue k
follow rule.Block k = behind_block k
follow rule.MoreBlock k = behind_block k
follow rule.Triples k = behind_triples k
follow rule.Property k = behind_property k
follow rule.NextProperty k = behind_property k
follow rule.NextClass k = behind_object k
follow rule.Object k = behind_object k
follow rule.NextObject k = behind_object k
follow rule.Datatype k = behind_object k
follow _ k = true

-- the second test holds where the first does
abbrev pub implies : Bool → Bool → Bool
implies true b = b
implies false b = true

-- an alternative begins with a terminal or a rule
abbrev pub is_front : List Part → Bool
is_front (One wanted ∷ ps) = true
is_front (The r ∷ ps) = true
is_front _ = false

-- no two of the alternatives begin with the terminal
abbrev pub apart_at : Terminal → List (List Part) → Bool
apart_at k [] = true
apart_at k (a ∷ more) = not (is_some (through enter a k) && is_some (choose enter more k)) && apart_at k more

-- the terminal may come at the parts, where it may come behind them if `last` says so
abbrev pub ahead : List Part → Terminal → Bool → Bool
ahead [] k last = last
ahead (One wanted ∷ ps) k last = same wanted k
ahead (The r ∷ ps) k last = is_some (enter r k)
ahead (Maybe r ∷ ps) k last = is_some (enter r k) || ahead ps k last
ahead (Many r ∷ ps) k last = is_some (enter r k) || ahead ps k last

-- by the terminal it can be told at each part whether it comes, and what may come behind a rule is what may follow it
abbrev pub fits : List Part → Terminal → Bool → Bool
fits [] k last = true
fits (One wanted ∷ ps) k last = fits ps k last
fits (The r ∷ ps) k last = implies (ahead ps k last) (follow r k) && fits ps k last
fits (Maybe r ∷ ps) k last =
    (not (is_some (enter r k) && ahead ps k last) && implies (ahead ps k last) (follow r k)) && fits ps k last
fits (Many r ∷ ps) k last =
    (not (is_some (enter r k) && ahead ps k last) && implies (is_some (enter r k) || ahead ps k last) (follow r k))
    && fits ps k last

-- what terminals leave of the parts to come
abbrev pub run : Option (List Part) → List Terminal → Option (List Part)
run s [] = s
run None (k ∷ ks) = None
run (Some ps) (k ∷ ks) = run (step ps k) ks

-- nothing must come
abbrev pub closes : Option (List Part) → Bool
closes None = false
closes (Some ps) = can_end ps

-- `?x a <h:A>`
abbrev pub some_triples : List Terminal
some_triples = terminal.Var ∷ terminal.A ∷ terminal.Iri ∷ []

-- the same in braces, behind the first one
abbrev pub some_block : List Terminal
some_block = some_triples ++ (terminal.CloseBrace ∷ [])

-- `SELECT ?x { ?x a <h:A> }`
abbrev pub some_sparql : List Terminal
some_sparql = terminal.Select ∷ terminal.Var ∷ terminal.OpenBrace ∷ some_block

-- `SPARQLTABLE ( SELECT ?x { ?x a <h:A> } ) t`
abbrev pub some_entry : List Terminal
some_entry = terminal.Sparqltable ∷ terminal.Open ∷ (some_sparql ++ (terminal.Close ∷ terminal.Name ∷ []))

-- `SELECT x FROM SPARQLTABLE ( SELECT ?x { ?x a <h:A> } ) t`
abbrev pub some_select : List Terminal
some_select = terminal.Select ∷ terminal.Name ∷ terminal.From ∷ some_entry

-- `5 = 5`
abbrev pub some_condition : List Terminal
some_condition = terminal.Integer ∷ terminal.Equal ∷ terminal.Integer ∷ []

-- terminals that a rule stands for
abbrev pub some_of : Rule → List Terminal
some_of rule.Line = terminal.Prefix ∷ terminal.NewPrefix ∷ terminal.Iri ∷ []
some_of rule.Body = some_select
some_of rule.SetTerm = terminal.Union ∷ some_select
some_of rule.SetWord = terminal.Union ∷ []
some_of rule.Term = some_select
some_of rule.MetFactor = terminal.Intersect ∷ some_select
some_of rule.Factor = some_select
some_of rule.Select = some_select
some_of rule.Distinct = terminal.Distinct ∷ []
some_of rule.Item = terminal.Name ∷ []
some_of rule.NextItem = terminal.Comma ∷ terminal.Name ∷ []
some_of rule.Output = terminal.As ∷ terminal.Name ∷ []
some_of rule.Column = terminal.Name ∷ []
some_of rule.ColumnName = terminal.Dot ∷ terminal.Name ∷ []
some_of rule.Name = terminal.Name ∷ []
some_of rule.Entry = some_entry
some_of rule.NextEntry = terminal.Comma ∷ some_entry
some_of rule.As = terminal.As ∷ []
some_of rule.Where = terminal.Where ∷ some_condition
some_of rule.Cond = some_condition
some_of rule.OrConj = terminal.Or ∷ some_condition
some_of rule.Conj = some_condition
some_of rule.AndNeg = terminal.And ∷ some_condition
some_of rule.Neg = some_condition
some_of rule.Comparison = terminal.Equal ∷ []
some_of rule.Operand = terminal.Integer ∷ []
some_of rule.OperandRest = terminal.Dot ∷ terminal.Name ∷ []
some_of rule.Values = terminal.Integer ∷ []
some_of rule.NextValue = terminal.Comma ∷ terminal.Integer ∷ []
some_of rule.Value = terminal.Integer ∷ []
some_of rule.Sparql = some_sparql
some_of rule.Var = terminal.Var ∷ []
some_of rule.WhereWord = terminal.Where ∷ []
some_of rule.Group = terminal.OpenBrace ∷ some_block
some_of rule.GroupRest = some_block
some_of rule.NextBlock = terminal.Union ∷ terminal.OpenBrace ∷ some_block
some_of rule.Block = some_triples
some_of rule.MoreBlock = terminal.Dot ∷ []
some_of rule.Triples = some_triples
some_of rule.Property = terminal.A ∷ terminal.Iri ∷ []
some_of rule.NextProperty = terminal.Semicolon ∷ terminal.A ∷ terminal.Iri ∷ []
some_of rule.Class = terminal.Iri ∷ []
some_of rule.NextClass = terminal.Comma ∷ terminal.Iri ∷ []
some_of rule.Verb = terminal.Iri ∷ []
some_of rule.Object = terminal.Var ∷ []
some_of rule.NextObject = terminal.Comma ∷ terminal.Var ∷ []
some_of rule.Datatype = terminal.Carets ∷ terminal.Iri ∷ []
some_of rule.Semicolon = terminal.Semicolon ∷ []

-- what the proofs need of a rule: how its alternatives begin, that the parser finds the one that begins with a terminal, and
-- no other, that its parts can be told apart, and that some terminals are it
pub record IsPredicted (r : Rule) : Type 0 where
  pub fronts : all is_front (alternatives r) ≡ true
  pub fixed : (k : Terminal) → enter r k ≡ choose enter (alternatives r) k
  pub apart : all (λ k. apart_at k (alternatives r)) all_terminals ≡ true
  pub fit : all (λ k. all (λ a. fits a k (follow r k)) (alternatives r)) all_terminals ≡ true
  pub stands : closes (run (Some (The r ∷ [])) (some_of r)) ≡ true
