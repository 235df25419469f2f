-- The tree of a query, and the tokens that it is written with. Tokens stand in it by their numbers, from 0.
use Rattle.std.specs.Prelude.{◌≡◌, ℕ, suc, ◌&&◌, ◌||◌, nat_le, not, Bool, true, false, if◌then◌else◌, List, [], ◌∷◌, ◌++◌, Option, Some, None}
use Rattle.std.specs.List.{flat_map, list_all}
use Rattle.mast_grammar.specs.declared.terminal.Terminal.{Terminal}
use Rattle.mast_grammar.specs.declared.terminal.Terminal.TheVariants as terminal
use Rattle.mast_sparsql.specs.declared.tree.Line.{Line}
use Rattle.mast_sparsql.specs.declared.tree.Column.{Column}
use Rattle.mast_sparsql.specs.declared.tree.Item.{Item}
use Rattle.mast_sparsql.specs.declared.tree.Constant.{Constant}
use Rattle.mast_sparsql.specs.declared.tree.Constant.TheVariants as constant
use Rattle.mast_sparsql.specs.declared.tree.Operand.{Operand}
use Rattle.mast_sparsql.specs.declared.tree.Operand.TheVariants as operand
use Rattle.mast_sparsql.specs.declared.tree.Object.{Object}
use Rattle.mast_sparsql.specs.declared.tree.Object.TheVariants as object
use Rattle.mast_sparsql.specs.declared.tree.Property.{Property}
use Rattle.mast_sparsql.specs.declared.tree.Property.TheVariants as property
use Rattle.mast_sparsql.specs.declared.tree.Triples.{Triples}
use Rattle.mast_sparsql.specs.declared.tree.Block.{Block}
use Rattle.mast_sparsql.specs.declared.tree.Table.{Table}
use Rattle.mast_sparsql.specs.declared.tree.Entry.{Entry}
use Rattle.mast_sparsql.specs.Terminals.{same}

-- a body or a condition: a select with its items, its entries and its condition, and whether DISTINCT and WHERE are written; two
-- bodies with a set operator, the token of this number, between them; a body or a condition in parentheses; the condition of a
-- select without WHERE; a comparison by a sign; EXISTS with a body; NOT, AND and OR
pub data Part : Type 0 where
  select : Bool → List Item → List Entry → Bool → Part → Part
  set : Terminal → ℕ → Part → Part → Part
  inner : Part → Part
  always : Part
  compare : Operand → Terminal → ℕ → Operand → Part
  exists : Part → Part
  negation : Part → Part
  both : Part → Part → Part
  either : Part → Part → Part

-- a query: its PREFIX lines, its body, and whether a semicolon ends it
pub record Tree : Type 0 where
  pub lines : List Line
  pub body : Part
  pub semicolon : Bool

-- what a part can stand in: a body as a factor (0), a term (1) or a body (2) of the grammar, a condition as a neg (0), a conj
-- (1) or a cond (2), or as that of a select without WHERE (3)
pub data Rank : Type 0 where
  a_body : ℕ → Rank
  a_condition : ℕ → Rank
  neither : Rank

-- a body of at most this rank
abbrev pub is_body : ℕ → Rank → Bool
is_body most (a_body n) = nat_le n most
is_body most (a_condition n) = false
is_body most neither = false

-- a condition of at most this rank
abbrev pub is_condition : ℕ → Rank → Bool
is_condition most (a_body n) = false
is_condition most (a_condition n) = nat_le n most
is_condition most neither = false

-- the rank, where the test holds
abbrev pub ranked : Bool → Rank → Rank
ranked true r = r
ranked false r = neither

-- a condition behind WHERE, or that of a select without WHERE
abbrev pub is_where : Bool → Rank → Bool
is_where true r = is_condition 2 r
is_where false r = not (is_condition 2 r) && is_condition 3 r

-- UNION or EXCEPT
abbrev pub is_union : Terminal → Bool
is_union terminal.Union = true
is_union terminal.Except = true
is_union _ = false

-- UNION and EXCEPT make a body of a body and a term, INTERSECT a term of a term and a factor
abbrev pub set_rank : Terminal → Rank → Rank → Rank
set_rank terminal.Union a b = ranked (is_body 2 a && is_body 1 b) (a_body 2)
set_rank terminal.Except a b = ranked (is_body 2 a && is_body 1 b) (a_body 2)
set_rank terminal.Intersect a b = ranked (is_body 1 a && is_body 0 b) (a_body 1)
set_rank k a b = neither

-- parentheses stand around a body or a condition
abbrev pub inner_rank : Rank → Rank
inner_rank a = if is_body 2 a then a_body 0 else ranked (is_condition 2 a) (a_condition 0)

-- the list has elements
abbrev pub some : {X : Type 0} → List X → Bool
some [] = false
some (x ∷ xs) = true

-- the list has one element
abbrev pub single : {X : Type 0} → List X → Bool
single [] = false
single (x ∷ []) = true
single (x ∷ y ∷ xs) = false

-- one class or more, or one object or more
abbrev pub property_stands : Property → Bool
property_stands (property.Classes ns) = some ns
property_stands (property.Verb n os) = some os

-- one property or more
abbrev pub triples_stand : Triples → Bool
triples_stand t = some t.properties && list_all property_stands t.properties

-- one subject or more
abbrev pub block_stands : Block → Bool
block_stands b = some b.triples && list_all triples_stand b.triples

-- one block, or one or more in braces of their own
abbrev pub group_stands : Bool → List Block → Bool
group_stands true blocks = some blocks && list_all block_stands blocks
group_stands false blocks = single blocks && list_all block_stands blocks

-- one Var or more, and a group
abbrev pub table_stands : Table → Bool
table_stands t = some t.variables && group_stands t.braces t.blocks

-- the same of an entry's table
abbrev pub entry_stands : Entry → Bool
entry_stands e = table_stands e.table

-- one item or more, and one entry or more
abbrev pub select_stands : List Item → List Entry → Bool
select_stands items entries = some items && (some entries && list_all entry_stands entries)

-- `=` or `<>`
abbrev pub is_comparison : Terminal → Bool
is_comparison k = same k terminal.Equal || same k terminal.Differ

-- what a part can stand in: a chain of operators nests to the left, INTERSECT binds tighter than UNION and EXCEPT, and AND
-- tighter than OR
abbrev pub rank_of : Part → Rank
rank_of (select distinct items entries w c) = ranked (select_stands items entries && is_where w (rank_of c)) (a_body 0)
rank_of (set k n a b) = set_rank k (rank_of a) (rank_of b)
rank_of (inner a) = inner_rank (rank_of a)
rank_of always = a_condition 3
rank_of (compare l k n r) = ranked (is_comparison k) (a_condition 0)
rank_of (exists a) = ranked (is_body 2 (rank_of a)) (a_condition 0)
rank_of (negation a) = ranked (is_condition 0 (rank_of a)) (a_condition 0)
rank_of (both a b) = ranked (is_condition 1 (rank_of a) && is_condition 0 (rank_of b)) (a_condition 1)
rank_of (either a b) = ranked (is_condition 2 (rank_of a) && is_condition 1 (rank_of b)) (a_condition 2)

-- a written token: this word or sign, or the token of this number, whose terminal has a test
pub data Shape : Type 0 where
  word : Terminal → Shape
  token : ℕ → (Terminal → Bool) → Shape

-- a name
abbrev pub is_name : Terminal → Bool
is_name k = same k terminal.Name || same k terminal.A

-- a Pname or an Iri
abbrev pub is_iri : Terminal → Bool
is_iri k = same k terminal.Pname || same k terminal.Iri

-- a token with this terminal
abbrev pub the : Terminal → ℕ → Shape
the k n = token n (same k)

-- a word that may be left out
abbrev pub optional : Bool → Terminal → List Shape
optional true k = word k ∷ []
optional false k = []

-- what follows the first of a list, with a word before each
abbrev pub following : {X : Type 0} → Terminal → (X → List Shape) → List X → List Shape
following k f [] = []
following k f (x ∷ xs) = word k ∷ (f x ++ following k f xs)

-- a list with a word between its elements
abbrev pub separated : {X : Type 0} → Terminal → (X → List Shape) → List X → List Shape
separated k f [] = []
separated k f (x ∷ xs) = f x ++ following k f xs

-- the tokens of a PREFIX line
abbrev pub line_written : Line → List Shape
line_written l = word terminal.Prefix ∷ the terminal.NewPrefix l.prefix ∷ the terminal.Iri l.iri ∷ []

-- tokens, and a parenthesis that closes
abbrev pub closed : List Shape → List Shape
closed tokens = tokens ++ (word terminal.Close ∷ [])

-- the tokens of an alias and its dot
abbrev pub alias_written : Option ℕ → List Shape
alias_written None = []
alias_written (Some n) = token n is_name ∷ word terminal.Dot ∷ []

-- the tokens of a column
abbrev pub column_written : Column → List Shape
column_written c = alias_written c.alias ++ (token c.name is_name ∷ [])

-- the tokens of AS and a name
abbrev pub output_written : Option ℕ → List Shape
output_written None = []
output_written (Some n) = word terminal.As ∷ token n is_name ∷ []

-- the tokens of an item
abbrev pub item_written : Item → List Shape
item_written i = column_written i.column ++ output_written i.output

-- the tokens of a value in a condition
abbrev pub constant_written : Constant → List Shape
constant_written (constant.Integer n) = the terminal.Integer n ∷ []
constant_written (constant.Quoted n) = the terminal.Quoted n ∷ []
constant_written (constant.Date n) = word terminal.Date ∷ the terminal.Quoted n ∷ []

-- the tokens of a side of a comparison
abbrev pub operand_written : Operand → List Shape
operand_written (operand.Column c) = column_written c
operand_written (operand.Value v) = constant_written v
operand_written (operand.Object n vs) =
    token n is_name ∷ word terminal.Open ∷ closed (separated terminal.Comma constant_written vs)

-- the tokens of what stands behind a verb
abbrev pub object_written : Object → List Shape
object_written (object.Var n) = the terminal.Var n ∷ []
object_written (object.Integer n) = the terminal.Integer n ∷ []
object_written (object.Text n) = the terminal.Doubled n ∷ []
object_written (object.Typed n m) = the terminal.Doubled n ∷ word terminal.Carets ∷ token m is_iri ∷ []

-- a class, or a verb
abbrev pub iri_written : ℕ → List Shape
iri_written n = token n is_iri ∷ []

-- the tokens of a verb and its objects
abbrev pub property_written : Property → List Shape
property_written (property.Classes ns) = word terminal.A ∷ separated terminal.Comma iri_written ns
property_written (property.Verb n os) = token n is_iri ∷ separated terminal.Comma object_written os

-- the tokens of a subject and its properties
abbrev pub triples_written : Triples → List Shape
triples_written t = the terminal.Var t.subject ∷ separated terminal.Semicolon property_written t.properties

-- the tokens of a block
abbrev pub block_written : Block → List Shape
block_written b = separated terminal.Dot triples_written b.triples ++ optional b.dot terminal.Dot

-- a block in braces
abbrev pub braced : Block → List Shape
braced b = word terminal.OpenBrace ∷ (block_written b ++ (word terminal.CloseBrace ∷ []))

-- the tokens of a group: one block, or blocks in braces of their own
abbrev pub group_written : Bool → List Block → List Shape
group_written false bs = flat_map braced bs
group_written true bs = word terminal.OpenBrace ∷ (separated terminal.Union braced bs ++ (word terminal.CloseBrace ∷ []))

-- a selected Var
abbrev pub variable_written : ℕ → List Shape
variable_written n = the terminal.Var n ∷ []

-- the tokens of what stands in the parentheses of a `sparqltable`
abbrev pub table_written : Table → List Shape
table_written t =
    word terminal.Select ∷ (optional t.distinct terminal.Distinct ++ (flat_map variable_written t.variables
    ++ (optional t.where_word terminal.Where ++ group_written t.braces t.blocks)))

-- the tokens of an entry
abbrev pub entry_written : Entry → List Shape
entry_written e =
    word terminal.Sparqltable ∷ word terminal.Open ∷ (table_written e.table
    ++ (word terminal.Close ∷ (optional e.as_word terminal.As ++ (token e.alias is_name ∷ []))))

-- tokens in parentheses
abbrev pub in_parentheses : List Shape → List Shape
in_parentheses tokens = word terminal.Open ∷ closed tokens

-- the tokens of a part
abbrev pub part_written : Part → List Shape
part_written (select distinct items entries w c) =
    word terminal.Select ∷ (optional distinct terminal.Distinct ++ (separated terminal.Comma item_written items
    ++ (word terminal.From ∷ (separated terminal.Comma entry_written entries
    ++ (optional w terminal.Where ++ part_written c)))))
part_written (set k n a b) = part_written a ++ (the k n ∷ part_written b)
part_written (inner a) = in_parentheses (part_written a)
part_written always = []
part_written (compare l k n r) = operand_written l ++ (the k n ∷ operand_written r)
part_written (exists a) = word terminal.Exists ∷ in_parentheses (part_written a)
part_written (negation a) = word terminal.Not ∷ part_written a
part_written (both a b) = part_written a ++ (word terminal.And ∷ part_written b)
part_written (either a b) = part_written a ++ (word terminal.Or ∷ part_written b)

-- the tokens of a query
abbrev pub tree_written : Tree → List Shape
tree_written t = flat_map line_written t.lines ++ (part_written t.body ++ optional t.semicolon terminal.Semicolon)

-- token n with this terminal is written so
abbrev pub IsShape : ℕ → Terminal → Shape → Type 0
IsShape n k (word w) = same w k ≡ true
IsShape n k (token m test) = (m ≡ n) × (test k ≡ true)

-- the tokens from number n on, with these terminals, are written so
abbrev pub AreShapes : ℕ → List Terminal → List Shape → Type 0
AreShapes n [] [] = Unit {0}
AreShapes n [] (s ∷ ss) = ⊥
AreShapes n (k ∷ ks) [] = ⊥
AreShapes n (k ∷ ks) (s ∷ ss) = IsShape n k s × AreShapes (suc n) ks ss

-- the tree of a query with these terminals
pub record IsTree (ks : List Terminal) (tree : Tree) : Type 0 where
  pub body : is_body 2 (rank_of tree.body) ≡ true
  pub written : AreShapes 0 ks (tree_written tree)
