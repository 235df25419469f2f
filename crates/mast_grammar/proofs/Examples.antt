-- Worked terminals: the definitions say of them what the text of the grammar says.
use Rattle.std.proofs.Common.{◌≡◌, refl, subst, List, [], ◌∷◌, ◌++◌}
use Rattle.std.specs.Prelude.{Option, None}
use Rattle.mast_grammar.specs.declared.terminal.Terminal.{Terminal}
use Rattle.mast_grammar.specs.declared.terminal.Terminal.TheVariants.{Select, From, Where, Prefix, NewPrefix, Sparqltable, A, Name, Pname, Var, Iri, Integer, Open, Close, OpenBrace, CloseBrace, Comma, Dot}
use Rattle.mast_grammar.specs.declared.breach.GrammarKind.TheVariants as kind
use Rattle.mast_grammar.specs.declared.breach.GrammarBreach.{GrammarBreach}
use Rattle.mast_grammar.specs.Breaches.{Tells}
use Rattle.mast_grammar.specs.inside.Reader.{breach_at}
use Rattle.mast_grammar.proofs.LookLemmas.{look_exact}
use Rattle.mast_grammar.proofs.ReaderLemmas.{told}

-- what is computed is told
tells : (ks : List Terminal) (answer : Option GrammarBreach) → told ks ≡ answer → Tells ks answer
tells ks answer e = subst (λ x. Tells ks x) e (look_exact ks)

-- `PREFIX : <http://e/> SELECT t.x FROM sparqltable(SELECT ?x WHERE {`
abbrev front : List Terminal
front =
    Prefix ∷ NewPrefix ∷ Iri ∷ Select ∷ Name ∷ Dot ∷ Name ∷ From ∷ Sparqltable ∷ Open ∷ Select ∷ Var ∷ Where ∷ OpenBrace ∷ []

-- `?x :likes ?y }) t` ends a query
a_query : Tells (front ++ (Var ∷ Pname ∷ Var ∷ CloseBrace ∷ Close ∷ Name ∷ [])) None
a_query = tells _ None refl

-- of `?x :likes :y` the second Pname is a breach, token 16: behind a verb no object is a Pname
a_name_behind_a_verb : Tells (front ++ (Var ∷ Pname ∷ Pname ∷ CloseBrace ∷ [])) (breach_at 16 kind.Grammar)
a_name_behind_a_verb = tells _ (breach_at 16 kind.Grammar) refl

-- of `?x a :A , 5` the integer is a breach, token 18: behind `a` each object is a Pname or an Iri
a_number_behind_a : Tells (front ++ (Var ∷ A ∷ Pname ∷ Comma ∷ Integer ∷ [])) (breach_at 18 kind.Grammar)
a_number_behind_a = tells _ (breach_at 18 kind.Grammar) refl

-- a query that ends in a block has a breach at the number of its tokens
an_open_block : Tells front (breach_at 14 kind.Grammar)
an_open_block = tells front (breach_at 14 kind.Grammar) refl

-- the 17th open parenthesis passes the limit
abbrev four : List Terminal
four = Open ∷ Open ∷ Open ∷ Open ∷ []

a_deep_query : Tells (four ++ (four ++ (four ++ (four ++ (Open ∷ []))))) (breach_at 16 kind.Depth)
a_deep_query = tells _ (breach_at 16 kind.Depth) refl
