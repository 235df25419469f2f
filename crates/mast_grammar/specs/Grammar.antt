-- The grammar of queries, and which terminals are a query.
use Rattle.std.specs.Prelude.{◌≡◌, ℕ, zero, suc, ◌⊎◌, List, [], ◌∷◌, ◌++◌}
use Rattle.mast_grammar.specs.declared.terminal.Terminal.{Terminal}
use Rattle.mast_grammar.specs.declared.terminal.Terminal.TheVariants.{Select, Distinct, From, Where, As, And, Or, Not, Exists, Union, Except, Intersect, Prefix, Sparqltable, Date, A, Name, Pname, NewPrefix, Var, Iri, Integer, Quoted, Doubled, Open, Close, OpenBrace, CloseBrace, Comma, Dot, Semicolon, Equal, Differ, Carets}

infixr 40 ◌·◌
infixr 30 ◌∣◌
-- the nonterminals of the grammar
pub data Nonterminal : Type 0 where
  query : Nonterminal
  body : Nonterminal
  term : Nonterminal
  factor : Nonterminal
  select : Nonterminal
  item : Nonterminal
  column : Nonterminal
  entry : Nonterminal
  cond : Nonterminal
  conj : Nonterminal
  neg : Nonterminal
  operand : Nonterminal
  value : Nonterminal
  sparql : Nonterminal
  group : Nonterminal
  block : Nonterminal
  triples : Nonterminal
  property : Nonterminal
  object : Nonterminal
  iri : Nonterminal
  name : Nonterminal

-- what a rule says: a terminal, a nonterminal, one form behind another, one of two forms, a form or nothing (`[form]` in
-- the usual notation), and a form any number of times (`{form}`)
pub data Form : Type 0 where
  one : Terminal → Form
  the : Nonterminal → Form
  ◌·◌ : Form → Form → Form
  ◌∣◌ : Form → Form → Form
  maybe : Form → Form
  many : Form → Form

-- the grammar. A prefix that a PREFIX line before has is no NewPrefix. Behind `a` each object is an IRI, and behind
-- another verb none is
abbrev pub grammar : Nonterminal → Form
grammar query = many (one Prefix · one NewPrefix · one Iri) · the body · maybe (one Semicolon)
grammar body = the term · many ((one Union ∣ one Except) · the term)
grammar term = the factor · many (one Intersect · the factor)
grammar factor = the select ∣ one Open · the body · one Close
grammar select =
    one Select · maybe (one Distinct) · the item · many (one Comma · the item)
    · one From · the entry · many (one Comma · the entry) · maybe (one Where · the cond)
grammar item = the column · maybe (one As · the name)
grammar column = the name · maybe (one Dot · the name)
grammar entry = one Sparqltable · one Open · the sparql · one Close · maybe (one As) · the name
grammar cond = the conj · many (one Or · the conj)
grammar conj = the neg · many (one And · the neg)
grammar neg =
    one Not · the neg ∣ one Exists · one Open · the body · one Close ∣ one Open · the cond · one Close
    ∣ the operand · (one Equal ∣ one Differ) · the operand
grammar operand =
    the column ∣ the value ∣ the name · one Open · maybe (the value · many (one Comma · the value)) · one Close
grammar value = one Integer ∣ one Quoted ∣ one Date · one Quoted
grammar sparql = one Select · maybe (one Distinct) · one Var · many (one Var) · maybe (one Where) · the group
grammar group =
    one OpenBrace · the block · one CloseBrace
    ∣ one OpenBrace · one OpenBrace · the block · one CloseBrace
    · many (one Union · one OpenBrace · the block · one CloseBrace) · one CloseBrace
grammar block = the triples · many (one Dot · the triples) · maybe (one Dot)
grammar triples = one Var · the property · many (one Semicolon · the property)
grammar property = one A · the iri · many (one Comma · the iri) ∣ the iri · the object · many (one Comma · the object)
grammar object = one Var ∣ one Integer ∣ one Doubled · maybe (one Carets · the iri)
grammar iri = one Pname ∣ one Iri
grammar name = one Name ∣ one A

-- the form stands for the terminals, by a derivation of so many levels at most
abbrev pub StandsFor : ℕ → Form → List Terminal → Type 0
StandsFor zero form ks = ⊥
StandsFor (suc n) (one k) ks = ks ≡ k ∷ []
StandsFor (suc n) (the rule) ks = StandsFor n (grammar rule) ks
StandsFor (suc n) (a · b) ks =
    (xs : List Terminal) × (ys : List Terminal) × (ks ≡ xs ++ ys) × StandsFor n a xs × StandsFor n b ys
StandsFor (suc n) (a ∣ b) ks = StandsFor n a ks ⊎ StandsFor n b ks
StandsFor (suc n) (maybe a) ks = (ks ≡ []) ⊎ StandsFor n a ks
StandsFor (suc n) (many a) ks = (ks ≡ []) ⊎ StandsFor n (a · many a) ks

-- the terminals are a query, however many of anything it has
abbrev pub IsQuery : List Terminal → ℕ → Type 0
IsQuery ks levels = StandsFor levels (the query) ks
