-- Which symbols are a source query, which query they are, and where the first breach is.
use Rattle.std.specs.Prelude.{◌≡◌, ℕ, ℤ, ◌<◌, ◌≤◌, List, [], ◌∷◌, ◌++◌, length, Option, Some, None}
use Rattle.mast_source.specs.Grammar.{UnexpectedAt}
use Rattle.mast_terms.specs.declared.date.Date.{Date as ADate}
use Rattle.mast_terms.specs.declared.value.Value.TheVariants as value
use Rattle.mast_sql.specs.declared.token.SqlToken.{SqlToken}
use Rattle.mast_sql.specs.declared.symbol.Symbol.{Symbol}
use Rattle.mast_sql.specs.declared.symbol.Symbol.TheVariants.{Select, Distinct, From, Where, As, And, Date, Name, Integer, Quoted, Comma, Dot, Compare}
use Rattle.mast_sql.specs.declared.query.Compare.{Compare as ACompare}
use Rattle.mast_sql.specs.declared.query.Operand.{Operand}
use Rattle.mast_sql.specs.declared.query.Operand.TheVariants as operand
use Rattle.mast_sql.specs.declared.query.SelectItem.{SelectItem}
use Rattle.mast_sql.specs.declared.query.FromEntry.{FromEntry}
use Rattle.mast_sql.specs.declared.query.Comparison.{Comparison}
use Rattle.mast_sql.specs.declared.query.SourceQuery.{SourceQuery}
use Rattle.mast_sql.specs.declared.query.SqlBreach.{SqlBreach}
use Rattle.mast_sql.specs.declared.query.SqlBreachKind.{SqlBreachKind}
use Rattle.mast_sql.specs.declared.query.SqlBreachKind.TheVariants as kind
use Rattle.mast_sql.specs.declared.query.TheConstants.{MOST_ENTRIES}
use Rattle.mast_sql.specs.Symbols.{AreSymbols}

-- a column, with the alias before it if there is one; alone, or with `AS` and a name
pub data Item : Type 0 where
  alone : Option (List ℕ) → List ℕ → Item
  named : Option (List ℕ) → List ℕ → List ℕ → Item

-- a table; alone, with an alias, or with `AS` and an alias
pub data Entry : Type 0 where
  bare : List ℕ → Entry
  beside : List ℕ → List ℕ → Entry
  aliased : List ℕ → List ℕ → Entry

-- a column or a constant; a text in quotes tells whether it is a date
pub data Side : Type 0 where
  column : Option (List ℕ) → List ℕ → Side
  integer : ℤ → Side
  quoted : List ℕ → Option ADate → Side
  dated : List ℕ → ADate → Side

-- the first comparison, and those after it
pub data Conditions : Type 0 where
  condition : Side → ACompare → Side → Conditions
  condition_and : Side → ACompare → Side → Conditions → Conditions

-- the first entry, and those after it or the comparisons
pub data Entries : Type 0 where
  entry : Entry → Entries
  entry_where : Entry → Conditions → Entries
  entry_and : Entry → Entries → Entries

-- the first item, and those after it or the entries
pub data Items : Type 0 where
  item_from : Item → Entries → Items
  item_and : Item → Items → Items

-- a query: `SELECT`, or `SELECT DISTINCT`, which means the same
pub data Query : Type 0 where
  select : Items → Query
  select_distinct : Items → Query

-- the symbols of a column: an alias and a dot before it, if there is an alias
abbrev pub column_symbols : Option (List ℕ) → List ℕ → List Symbol
column_symbols None a = Name a ∷ []
column_symbols (Some alias) a = Name alias ∷ (Dot ∷ (Name a ∷ []))

-- the symbols of an item
abbrev pub item_symbols : Item → List Symbol
item_symbols (alone alias a) = column_symbols alias a
item_symbols (named alias a output) = column_symbols alias a ++ (As ∷ (Name output ∷ []))

-- the symbols of an entry
abbrev pub entry_symbols : Entry → List Symbol
entry_symbols (bare table) = Name table ∷ []
entry_symbols (beside table alias) = Name table ∷ (Name alias ∷ [])
entry_symbols (aliased table alias) = Name table ∷ (As ∷ (Name alias ∷ []))

-- the symbols of a side
abbrev pub side_symbols : Side → List Symbol
side_symbols (column alias a) = column_symbols alias a
side_symbols (integer n) = Integer n ∷ []
side_symbols (quoted t day) = Quoted t day ∷ []
side_symbols (dated t day) = Date ∷ (Quoted t (Some day) ∷ [])

-- the symbols of comparisons, with `AND` between them
abbrev pub conditions_symbols : Conditions → List Symbol
conditions_symbols (condition x op y) = side_symbols x ++ (Compare op ∷ (side_symbols y ++ []))
conditions_symbols (condition_and x op y more) =
    side_symbols x ++ (Compare op ∷ (side_symbols y ++ (And ∷ conditions_symbols more)))

-- the symbols of entries, with commas between them, and of what stands behind `WHERE`
abbrev pub entries_symbols : Entries → List Symbol
entries_symbols (entry e) = entry_symbols e ++ []
entries_symbols (entry_where e conditions) = entry_symbols e ++ (Where ∷ conditions_symbols conditions)
entries_symbols (entry_and e more) = entry_symbols e ++ (Comma ∷ entries_symbols more)

-- the symbols of items, with commas between them, and of what stands behind `FROM`
abbrev pub items_symbols : Items → List Symbol
items_symbols (item_from i entries) = item_symbols i ++ (From ∷ entries_symbols entries)
items_symbols (item_and i more) = item_symbols i ++ (Comma ∷ items_symbols more)

-- the symbols of a query
abbrev pub symbols_of : Query → List Symbol
symbols_of (select items) = Select ∷ items_symbols items
symbols_of (select_distinct items) = Select ∷ (Distinct ∷ items_symbols items)

-- an item without a name goes out under the name of its column
abbrev pub item_of : Item → SelectItem
item_of (alone alias a) = record { alias = alias; column = a; output = a }
item_of (named alias a output) = record { alias = alias; column = a; output = output }

-- a table under its own name
abbrev pub plain_entry : List ℕ → FromEntry
plain_entry name = record { table = name; alias = name }

-- an entry without an alias has its table's name as alias
abbrev pub entry_of : Entry → FromEntry
entry_of (bare table) = plain_entry table
entry_of (beside table alias) = record { table = table; alias = alias }
entry_of (aliased table alias) = record { table = table; alias = alias }

-- a column or a constant
abbrev pub side_of : Side → Operand
side_of (column alias a) = operand.Column alias a
side_of (integer n) = operand.Constant (value.Int n)
side_of (quoted t day) = operand.Constant (value.Text t)
side_of (dated t day) = operand.Constant (value.Date day)

-- a comparison
abbrev pub comparison_of : Side → ACompare → Side → Comparison
comparison_of x op y = record { left = side_of x; op = op; right = side_of y }

-- the comparisons, in order
abbrev pub conditions_of : Conditions → List Comparison
conditions_of (condition x op y) = comparison_of x op y ∷ []
conditions_of (condition_and x op y more) = comparison_of x op y ∷ conditions_of more

-- the entries, in order
abbrev pub from_of : Entries → List FromEntry
from_of (entry e) = entry_of e ∷ []
from_of (entry_where e conditions) = entry_of e ∷ []
from_of (entry_and e more) = entry_of e ∷ from_of more

-- the comparisons behind the entries; none without `WHERE`
abbrev pub where_of : Entries → List Comparison
where_of (entry e) = []
where_of (entry_where e conditions) = conditions_of conditions
where_of (entry_and e more) = where_of more

-- the items, in order
abbrev pub items_of : Items → List SelectItem
items_of (item_from i entries) = item_of i ∷ []
items_of (item_and i more) = item_of i ∷ items_of more

-- the entries behind the items
abbrev pub entries_of : Items → Entries
entries_of (item_from i entries) = entries
entries_of (item_and i more) = entries_of more

-- the query that is written so
abbrev pub query_of : Items → SourceQuery
query_of items =
    record { items = items_of items; from = from_of (entries_of items); conditions = where_of (entries_of items) }

-- what is selected; `DISTINCT` has no effect
abbrev pub selection : Query → Items
selection (select items) = items
selection (select_distinct items) = items

-- the symbols are this query, however many entries it has
abbrev pub IsQuery : List Symbol → SourceQuery → Type 0
IsQuery ks q = (tree : Query) × (ks ≡ symbols_of tree) × (q ≡ query_of (selection tree))

-- the query with one more entry, a table under its own name
abbrev pub with_table : SourceQuery → List ℕ → SourceQuery
with_table q name = record { items = q.items; from = q.from ++ (plain_entry name ∷ []); conditions = q.conditions }

-- behind these symbols a name begins the ninth entry: with any name they are a query whose ninth entry is that table
abbrev pub BeforeNinth : List Symbol → SourceQuery → Type 0
BeforeNinth before q =
    (length q.from ≡ MOST_ENTRIES) × ((name : List ℕ) → IsQuery (before ++ (Name name ∷ [])) (with_table q name))

-- symbol i is a name that begins the ninth entry
abbrev pub NinthAt : List Symbol → ℕ → Type 0
NinthAt ks i =
    (before after : List Symbol) × (name : List ℕ) × (q : SourceQuery) × (ks ≡ before ++ (Name name ∷ after))
    × (i ≡ length before) × BeforeNinth before q

-- what is told of symbols: the query, or the number of the symbol with the first breach
pub data Found : Type 0 where
  fine : SourceQuery → Found
  grammar : ℕ → Found
  aliases : ℕ → Found

-- that it is right: no breach comes before it, and at one symbol the ninth entry comes first
abbrev pub Tells : List Symbol → Found → Type 0
Tells ks (fine q) = IsQuery ks q × ((i : ℕ) → NinthAt ks i → ⊥)
Tells ks (grammar i) = UnexpectedAt IsQuery ks i × ((j : ℕ) → j ≤ i → NinthAt ks j → ⊥)
Tells ks (aliases i) =
    NinthAt ks i × ((j : ℕ) → j < i → NinthAt ks j → ⊥) × ((j : ℕ) → j < i → UnexpectedAt IsQuery ks j → ⊥)

-- the first breach by its kind and its symbol
abbrev pub found_of : SqlBreachKind → ℕ → Found
found_of kind.Grammar i = grammar i
found_of kind.Aliases i = aliases i

-- the source query that the tokens of a text are
abbrev pub IsSourceQuery : List ℕ → List SqlToken → SourceQuery → Type 0
IsSourceQuery text tokens q = (ks : List Symbol) × AreSymbols text tokens ks × Tells ks (fine q)

-- the first breach of the grammar
abbrev pub IsSqlBreach : List ℕ → List SqlToken → SqlBreach → Type 0
IsSqlBreach text tokens breach =
    (ks : List Symbol) × AreSymbols text tokens ks × Tells ks (found_of breach.kind breach.token)
