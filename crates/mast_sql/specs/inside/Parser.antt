-- The parser: an automaton that reads symbols one by one and keeps the query so far. What it reads is said by Grammar.
use Rattle.std.specs.Prelude.{ℕ, ◌+◌, ◌==◌, ◌&&◌, Bool, true, false, if◌then◌else◌, List, [], ◌∷◌, ◌++◌, length, Option, Some, None}
use Rattle.mast_terms.specs.declared.date.Date.{Date as ADate}
use Rattle.mast_terms.specs.declared.value.Value.TheVariants as value
use Rattle.mast_sql.specs.declared.symbol.Symbol.{Symbol}
use Rattle.mast_sql.specs.declared.symbol.Symbol.TheVariants.{Select, Distinct, From, Where, As, And, Date, Name, Integer, Quoted, Comma, Dot, Compare}
use Rattle.mast_sql.specs.declared.query.SourceQuery.{SourceQuery}
use Rattle.mast_sql.specs.declared.query.SelectItem.{SelectItem}
use Rattle.mast_sql.specs.declared.query.FromEntry.{FromEntry}
use Rattle.mast_sql.specs.declared.query.Comparison.{Comparison}
use Rattle.mast_sql.specs.declared.query.Operand.{Operand as AnOperand}
use Rattle.mast_sql.specs.declared.query.Operand.TheVariants as operands
use Rattle.mast_sql.specs.declared.query.TheConstants.{MOST_ENTRIES}
use Rattle.mast_sql.specs.declared.parser.ParseState.{ParseState}
use Rattle.mast_sql.specs.declared.parser.ParseState.TheVariants.{Start, Selected, Item, Column, Dotted, Named, ItemEnd, Entry, Table, TableAs, EntryEnd, Operand, OperandColumn, OperandDotted, OperandDate, LeftEnd, ComparisonEnd}
use Rattle.mast_sql.specs.declared.parser.Side.{Side}
use Rattle.mast_sql.specs.declared.parser.Side.TheVariants.{Left, Right}
use Rattle.mast_sql.specs.Grammar.{Found, fine, grammar, aliases, plain_entry}

-- the query before anything is read
abbrev pub empty : SourceQuery
empty = record { items = []; from = []; conditions = [] }

-- with one more item
abbrev pub with_item : SourceQuery → SelectItem → SourceQuery
with_item q i = record { items = q.items ++ i ∷ []; from = q.from; conditions = q.conditions }

-- with one more entry
abbrev pub with_entry : SourceQuery → FromEntry → SourceQuery
with_entry q e = record { items = q.items; from = q.from ++ e ∷ []; conditions = q.conditions }

-- with one more comparison
abbrev pub with_condition : SourceQuery → Comparison → SourceQuery
with_condition q c = record { items = q.items; from = q.from; conditions = q.conditions ++ c ∷ [] }

-- a state and the query so far, or nothing where no query goes on
abbrev pub at : SourceQuery → Option ParseState → Option (ParseState × SourceQuery)
at q None = None
at q (Some p) = Some (p, q)

-- `SELECT` comes first
abbrev pub start : Symbol → Option ParseState
start Select = Some Selected
start k = None

-- a name begins an item
abbrev pub item : Symbol → Option ParseState
item (Name a) = Some (Column None a)
item k = None

-- behind `SELECT`: `DISTINCT` or an item
abbrev pub selected : Symbol → Option ParseState
selected Distinct = Some Item
selected k = item k

-- behind an alias and a dot: a name
abbrev pub dotted : List ℕ → Symbol → Option ParseState
dotted alias (Name a) = Some (Column (Some alias) a)
dotted alias k = None

-- a column takes one dot
abbrev pub dot : Option (List ℕ) → List ℕ → Option ParseState
dot None a = Some (Dotted a)
dot (Some alias) a = None

-- behind an item: another one, or `FROM`
abbrev pub item_end : Symbol → Option ParseState
item_end Comma = Some Item
item_end From = Some Entry
item_end k = None

-- an item without a name ends, where the symbol may come behind it
abbrev pub end_item : Option (List ℕ) → List ℕ → SourceQuery → Symbol → Option (ParseState × SourceQuery)
end_item alias a q k = at (with_item q (record { alias = alias; column = a; output = a })) (item_end k)

-- behind a column of an item: a dot, `AS`, or the item ends
abbrev pub column : Option (List ℕ) → List ℕ → SourceQuery → Symbol → Option (ParseState × SourceQuery)
column alias a q Dot = at q (dot alias a)
column alias a q As = Some (Named alias a, q)
column alias a q k = end_item alias a q k

-- behind `AS`: the name under which the item goes out
abbrev pub named : Option (List ℕ) → List ℕ → SourceQuery → Symbol → Option (ParseState × SourceQuery)
named alias a q (Name output) = Some (ItemEnd, with_item q (record { alias = alias; column = a; output = output }))
named alias a q k = None

-- a name begins an entry
abbrev pub entry : Symbol → Option ParseState
entry (Name t) = Some (Table t)
entry k = None

-- behind an entry: another one, or `WHERE`
abbrev pub entry_end : Symbol → Option ParseState
entry_end Comma = Some Entry
entry_end Where = Some (Operand Left)
entry_end k = None

-- an entry without an alias ends, where the symbol may come behind it
abbrev pub end_entry : List ℕ → SourceQuery → Symbol → Option (ParseState × SourceQuery)
end_entry t q k = at (with_entry q (plain_entry t)) (entry_end k)

-- behind a table: `AS`, an alias, or the entry ends
abbrev pub table : List ℕ → SourceQuery → Symbol → Option (ParseState × SourceQuery)
table t q As = Some (TableAs t, q)
table t q (Name alias) = Some (EntryEnd, with_entry q (record { table = t; alias = alias }))
table t q k = end_entry t q k

-- behind `AS`: an alias
abbrev pub table_as : List ℕ → SourceQuery → Symbol → Option (ParseState × SourceQuery)
table_as t q (Name alias) = Some (EntryEnd, with_entry q (record { table = t; alias = alias }))
table_as t q k = None

-- behind a whole operand
abbrev pub whole : Side → AnOperand → SourceQuery → ParseState × SourceQuery
whole Left x q = (LeftEnd x, q)
whole (Right left op) x q = (ComparisonEnd, with_condition q (record { left = left; op = op; right = x }))

-- behind `DATE`: a text that is a date
abbrev pub dated : Side → Option ADate → SourceQuery → Option (ParseState × SourceQuery)
dated side None q = None
dated side (Some date) q = Some (whole side (operands.Constant (value.Date date)) q)

-- an operand begins: a column, a constant, or `DATE`
abbrev pub operand : Side → SourceQuery → Symbol → Option (ParseState × SourceQuery)
operand side q (Name a) = Some (OperandColumn side None a, q)
operand side q (Integer n) = Some (whole side (operands.Constant (value.Int n)) q)
operand side q (Quoted text date) = Some (whole side (operands.Constant (value.Text text)) q)
operand side q Date = Some (OperandDate side, q)
operand side q k = None

-- behind `DATE`: a text in quotes
abbrev pub operand_date : Side → SourceQuery → Symbol → Option (ParseState × SourceQuery)
operand_date side q (Quoted text date) = dated side date q
operand_date side q k = None

-- behind the left operand: a sign of comparison
abbrev pub left_end : AnOperand → Symbol → Option ParseState
left_end x (Compare op) = Some (Operand (Right x op))
left_end x k = None

-- behind a comparison: `AND`
abbrev pub comparison_end : Symbol → Option ParseState
comparison_end And = Some (Operand Left)
comparison_end k = None

-- a comparison ends, where the symbol may come behind it
abbrev pub end_comparison : Comparison → SourceQuery → Symbol → Option (ParseState × SourceQuery)
end_comparison c q k = at (with_condition q c) (comparison_end k)

-- behind an operand of either side
abbrev pub operand_end : Side → AnOperand → SourceQuery → Symbol → Option (ParseState × SourceQuery)
operand_end Left x q k = at q (left_end x k)
operand_end (Right left op) x q k = end_comparison (record { left = left; op = op; right = x }) q k

-- an operand's column takes one dot
abbrev pub operand_dot : Side → Option (List ℕ) → List ℕ → Option ParseState
operand_dot side None a = Some (OperandDotted side a)
operand_dot side (Some alias) a = None

-- behind a column of an operand: a dot, or the operand ends
abbrev pub operand_column : Side → Option (List ℕ) → List ℕ → SourceQuery → Symbol → Option (ParseState × SourceQuery)
operand_column side alias a q Dot = at q (operand_dot side alias a)
operand_column side alias a q k = operand_end side (operands.Column alias a) q k

-- behind an operand's alias and dot: a name
abbrev pub operand_dotted : Side → List ℕ → Symbol → Option ParseState
operand_dotted side alias (Name a) = Some (OperandColumn side (Some alias) a)
operand_dotted side alias k = None

-- a symbol read at a state: the state and the query behind it, or nothing where no query goes on so
abbrev pub step : ParseState → SourceQuery → Symbol → Option (ParseState × SourceQuery)
step Start q k = at q (start k)
step Selected q k = at q (selected k)
step Item q k = at q (item k)
step (Column alias a) q k = column alias a q k
step (Dotted alias) q k = at q (dotted alias k)
step (Named alias a) q k = named alias a q k
step ItemEnd q k = at q (item_end k)
step Entry q k = at q (entry k)
step (Table t) q k = table t q k
step (TableAs t) q k = table_as t q k
step EntryEnd q k = at q (entry_end k)
step (Operand side) q k = operand side q k
step (OperandColumn side alias a) q k = operand_column side alias a q k
step (OperandDotted side alias) q k = at q (operand_dotted side alias k)
step (OperandDate side) q k = operand_date side q k
step (LeftEnd x) q k = at q (left_end x k)
step ComparisonEnd q k = at q (comparison_end k)

-- the query, where the operand is the right one
abbrev pub right_finish : Side → AnOperand → SourceQuery → Option SourceQuery
right_finish Left x q = None
right_finish (Right left op) x q = Some (with_condition q (record { left = left; op = op; right = x }))

-- the query, where it may end at the state
abbrev pub finish : ParseState → SourceQuery → Option SourceQuery
finish (Table t) q = Some (with_entry q (plain_entry t))
finish EntryEnd q = Some q
finish (OperandColumn side alias a) q = right_finish side (operands.Column alias a) q
finish ComparisonEnd q = Some q
finish _ q = None

-- a name
abbrev pub is_name : Symbol → Bool
is_name (Name a) = true
is_name _ = false

-- a name that begins the ninth entry
abbrev pub is_ninth : ParseState → SourceQuery → Symbol → Bool
is_ninth Entry q k = is_name k && length q.from == MOST_ENTRIES
is_ninth _ q k = false

-- if n symbols more stand before
abbrev pub later : ℕ → Found → Found
later n (fine q) = fine q
later n (grammar i) = grammar (n + i)
later n (aliases i) = aliases (n + i)

-- at the end of the symbols
abbrev pub on_finish : Option SourceQuery → Found
on_finish None = grammar 0
on_finish (Some q) = fine q

-- on a state and a query, or where none is
abbrev pub on_step : Option (ParseState × SourceQuery) → Found → (ParseState → SourceQuery → Found) → Found
on_step None halt on = halt
on_step (Some s) halt on = on s.0 s.1

-- what is told of the symbols that are left, at a state
abbrev pub look : ParseState → SourceQuery → List Symbol → Found
look p q [] = on_finish (finish p q)
look p q (k ∷ ks) =
    if is_ninth p q k then aliases 0 else on_step (step p q k) (grammar 0) (λ p2 q2. later 1 (look p2 q2 ks))
