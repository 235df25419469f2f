-- The three lists of a TBox, of the items that axioms state.
use Rattle.std.specs.Prelude.{ℕ, suc, List, [], ◌∷◌}
use Rattle.mast_tbox.specs.declared.axiom.Inclusion.{Inclusion}
use Rattle.mast_tbox.specs.declared.axiom.Inclusion.TheVariants.{Class, Exists, HasValue, Role, Attr, Range}
use Rattle.mast_tbox.specs.declared.axiom.Lined.{Lined}
use Rattle.mast_tbox.specs.declared.axiom.Negative.{Negative}
use Rattle.mast_tbox.specs.declared.expression.Prop.{Prop}
use Rattle.mast_onto.specs.declared.statement.Statement.{Statement}
use Rattle.mast_onto.specs.declared.statement.Statement.TheVariants as statement

-- an item with a line, before a list
abbrev pub put : {X : Type 0} → ℕ → X → List (Lined X) → List (Lined X)
put line x xs = record { line = line; item = x } ∷ xs

-- a statement before a list, where it is an inclusion
abbrev pub if_inclusion : ℕ → Statement → List (Lined Inclusion) → List (Lined Inclusion)
if_inclusion line (statement.Inclusion i) is = put line i is
if_inclusion line (statement.Negative n) is = is
if_inclusion line (statement.Functional p) is = is

-- the inclusions
abbrev pub inclusions_in : List (Lined Statement) → List (Lined Inclusion)
inclusions_in [] = []
inclusions_in (s ∷ ss) = if_inclusion s.line s.item (inclusions_in ss)

-- a statement before a list, where it is a negative
abbrev pub if_negative : ℕ → Statement → List (Lined Negative) → List (Lined Negative)
if_negative line (statement.Inclusion i) ns = ns
if_negative line (statement.Negative n) ns = put line n ns
if_negative line (statement.Functional p) ns = ns

-- the negatives
abbrev pub negatives_in : List (Lined Statement) → List (Lined Negative)
negatives_in [] = []
negatives_in (s ∷ ss) = if_negative s.line s.item (negatives_in ss)

-- a statement before a list, where it says that a property is functional
abbrev pub if_functional : ℕ → Statement → List (Lined Prop) → List (Lined Prop)
if_functional line (statement.Inclusion i) ps = ps
if_functional line (statement.Negative n) ps = ps
if_functional line (statement.Functional p) ps = put line p ps

-- the functional properties
abbrev pub functional_in : List (Lined Statement) → List (Lined Prop)
functional_in [] = []
functional_in (s ∷ ss) = if_functional s.line s.item (functional_in ss)

-- an existential inclusion with this number; any other inclusion stays as it is
abbrev pub with_number : ℕ → Inclusion → Inclusion
with_number n (Class b a) = Class b a
with_number n (Exists b r end k) = Exists b r end n
with_number n (HasValue b u k) = HasValue b u n
with_number n (Role r s) = Role r s
with_number n (Attr u v) = Attr u v
with_number n (Range u kind) = Range u kind

-- the next number after an inclusion
abbrev pub next_number : ℕ → Inclusion → ℕ
next_number n (Class b a) = n
next_number n (Exists b r end k) = suc n
next_number n (HasValue b u k) = suc n
next_number n (Role r s) = n
next_number n (Attr u v) = n
next_number n (Range u kind) = n

-- the existential inclusions numbered from n on, in order
abbrev pub numbered : ℕ → List (Lined Inclusion) → List (Lined Inclusion)
numbered n [] = []
numbered n (l ∷ ls) = put l.line (with_number n l.item) (numbered (next_number n l.item) ls)
