-- What may come at a place, by trees: a step of the machine is a derivative of it.
use Rattle.std.proofs.Common.{◌≡◌, ◌⊎◌, inl, inr, List, ◌∷◌, [], ◌++◌, refl, ap, ◌∙◌}
use Rattle.std.specs.Prelude.{Option, Some, None}
use Rattle.mast_sql.specs.declared.symbol.Symbol.{Symbol}
use Rattle.mast_sql.specs.declared.symbol.Symbol.TheVariants.{Select, Distinct, From, Where, As, And, Date, Name, Comma, Dot, Compare}
use Rattle.mast_sql.specs.declared.query.Compare.{Compare as ACompare}
use Rattle.mast_sql.specs.declared.query.Operand.{Operand as AnOperand}
use Rattle.mast_sql.specs.declared.query.SourceQuery.{SourceQuery}
use Rattle.mast_sql.specs.declared.parser.ParseState.{ParseState}
use Rattle.mast_sql.specs.declared.parser.ParseState.TheVariants as state
use Rattle.mast_sql.specs.declared.parser.Side.{Side as ASide}
use Rattle.mast_sql.specs.declared.parser.Side.TheVariants.{Left, Right}
use Rattle.mast_sql.specs.inside.Parser.{with_item, with_entry, with_condition}
use Rattle.mast_sql.specs.Grammar.{Item, Entry, Side, Conditions, condition, condition_and, Entries, entry, entry_where, entry_and, Items, item_from, item_and, column_symbols, item_symbols, entry_symbols, side_symbols, conditions_symbols, entries_symbols, items_symbols, item_of, entry_of, side_of, comparison_of}

-- the query with what a tree has, one by one

-- with the comparisons of a tree
abbrev pub with_conditions : SourceQuery → Conditions → SourceQuery
with_conditions q (condition x op y) = with_condition q (comparison_of x op y)
with_conditions q (condition_and x op y more) = with_conditions (with_condition q (comparison_of x op y)) more

-- with the entries of a tree
abbrev pub with_entries : SourceQuery → Entries → SourceQuery
with_entries q (entry e) = with_entry q (entry_of e)
with_entries q (entry_where e conditions) = with_conditions (with_entry q (entry_of e)) conditions
with_entries q (entry_and e more) = with_entries (with_entry q (entry_of e)) more

-- with the items of a tree
abbrev pub with_items : SourceQuery → Items → SourceQuery
with_items q (item_from i entries) = with_entries (with_item q (item_of i)) entries
with_items q (item_and i more) = with_items (with_item q (item_of i)) more

-- what may follow a comparison, an entry and an item, to give the query r

-- what may follow a comparison
abbrev pub AfterCondition : SourceQuery → List Symbol → SourceQuery → Type 0
AfterCondition q ks r = ((ks ≡ []) × (r ≡ q)) ⊎ ((t : Conditions) × (ks ≡ And ∷ conditions_symbols t) × (r ≡ with_conditions q t))

-- what may follow an entry
abbrev pub AfterEntry : SourceQuery → List Symbol → SourceQuery → Type 0
AfterEntry q ks r = ((ks ≡ []) × (r ≡ q)) ⊎ (((t : Conditions) × (ks ≡ Where ∷ conditions_symbols t) × (r ≡ with_conditions q t)) ⊎ ((t : Entries) × (ks ≡ Comma ∷ entries_symbols t) × (r ≡ with_entries q t)))

-- what may follow an item
abbrev pub AfterItem : SourceQuery → List Symbol → SourceQuery → Type 0
AfterItem q ks r = ((t : Items) × (ks ≡ Comma ∷ items_symbols t) × (r ≡ with_items q t)) ⊎ ((t : Entries) × (ks ≡ From ∷ entries_symbols t) × (r ≡ with_entries q t))

-- an item, an entry, an operand, and what may follow it

-- an item, and what may follow it
abbrev pub ItemThen : SourceQuery → List Symbol → SourceQuery → Type 0
ItemThen q ks r = (i : Item) × (rest : List Symbol) × (ks ≡ item_symbols i ++ rest) × AfterItem (with_item q (item_of i)) rest r

-- an entry, and what may follow it
abbrev pub EntryThen : SourceQuery → List Symbol → SourceQuery → Type 0
EntryThen q ks r = (e : Entry) × (rest : List Symbol) × (ks ≡ entry_symbols e ++ rest) × AfterEntry (with_entry q (entry_of e)) rest r

-- a right operand, and what may follow it
abbrev pub RightThen : AnOperand → ACompare → SourceQuery → List Symbol → SourceQuery → Type 0
RightThen left op q ks r = (x : Side) × (rest : List Symbol) × (ks ≡ side_symbols x ++ rest) × AfterCondition (with_condition q (record { left = left; op = op; right = side_of x })) rest r

-- what may follow an operand
abbrev pub AfterOperand : ASide → AnOperand → SourceQuery → List Symbol → SourceQuery → Type 0
AfterOperand Left x q ks r = (op : ACompare) × (rest : List Symbol) × (ks ≡ Compare op ∷ rest) × RightThen x op q rest r
AfterOperand (Right left op) x q ks r = AfterCondition (with_condition q (record { left = left; op = op; right = x })) ks r

-- an operand, and what may follow it
abbrev pub OperandThen : ASide → SourceQuery → List Symbol → SourceQuery → Type 0
OperandThen side q ks r = (x : Side) × (rest : List Symbol) × (ks ≡ side_symbols x ++ rest) × AfterOperand side (side_of x) q rest r

-- what may follow `SELECT`
abbrev pub SelectedThen : SourceQuery → List Symbol → SourceQuery → Type 0
SelectedThen q ks r = ItemThen q ks r ⊎ ((rest : List Symbol) × (ks ≡ Distinct ∷ rest) × ItemThen q rest r)

-- symbols that may come at a place, to give the query r
abbrev pub Reads : ParseState → SourceQuery → List Symbol → SourceQuery → Type 0
Reads state.Start q ks r = (rest : List Symbol) × (ks ≡ Select ∷ rest) × SelectedThen q rest r
Reads state.Selected q ks r = SelectedThen q ks r
Reads state.Item q ks r = ItemThen q ks r
Reads (state.Column alias a) q ks r = ItemThen q (column_symbols alias a ++ ks) r
Reads (state.Dotted alias) q ks r = ItemThen q (Name alias ∷ (Dot ∷ ks)) r
Reads (state.Named alias a) q ks r = ItemThen q (column_symbols alias a ++ (As ∷ ks)) r
Reads state.ItemEnd q ks r = AfterItem q ks r
Reads state.Entry q ks r = EntryThen q ks r
Reads (state.Table t) q ks r = EntryThen q (Name t ∷ ks) r
Reads (state.TableAs t) q ks r = EntryThen q (Name t ∷ (As ∷ ks)) r
Reads state.EntryEnd q ks r = AfterEntry q ks r
Reads (state.Operand side) q ks r = OperandThen side q ks r
Reads (state.OperandColumn side alias a) q ks r = OperandThen side q (column_symbols alias a ++ ks) r
Reads (state.OperandDotted side alias) q ks r = OperandThen side q (Name alias ∷ (Dot ∷ ks)) r
Reads (state.OperandDate side) q ks r = OperandThen side q (Date ∷ ks) r
Reads (state.LeftEnd x) q ks r = AfterOperand Left x q ks r
Reads state.ComparisonEnd q ks r = AfterCondition q ks r

-- symbols that may come behind a step
abbrev pub GoesTo : Option (ParseState × SourceQuery) → List Symbol → SourceQuery → Type 0
GoesTo None ks r = ⊥
GoesTo (Some s) ks r = Reads s.0 s.1 ks r

-- a tree, by its first part

-- a tree of comparisons begins with an operand
pub open_conditions : (t : Conditions) (q : SourceQuery) (ks : List Symbol) (r : SourceQuery) → ks ≡ conditions_symbols t → r ≡ with_conditions q t → OperandThen Left q ks r
open_conditions (condition x op y) q ks r e h = (x, Compare op ∷ (side_symbols y ++ []), e, (op, side_symbols y ++ [], refl, (y, [], refl, inl (refl, h))))
open_conditions (condition_and x op y more) q ks r e h = (x, Compare op ∷ (side_symbols y ++ (And ∷ conditions_symbols more)), e, (op, side_symbols y ++ (And ∷ conditions_symbols more), refl, (y, And ∷ conditions_symbols more, refl, inr (more, refl, h))))

-- a tree of entries begins with an entry
pub open_entries : (t : Entries) (q : SourceQuery) (ks : List Symbol) (r : SourceQuery) → ks ≡ entries_symbols t → r ≡ with_entries q t → EntryThen q ks r
open_entries (entry x) q ks r e h = (x, [], e, inl (refl, h))
open_entries (entry_where x conditions) q ks r e h = (x, Where ∷ conditions_symbols conditions, e, inr (inl (conditions, refl, h)))
open_entries (entry_and x more) q ks r e h = (x, Comma ∷ entries_symbols more, e, inr (inr (more, refl, h)))

-- a tree of items begins with an item
pub open_items : (t : Items) (q : SourceQuery) (ks : List Symbol) (r : SourceQuery) → ks ≡ items_symbols t → r ≡ with_items q t → ItemThen q ks r
open_items (item_from i entries) q ks r e h = (i, From ∷ entries_symbols entries, e, inr (entries, refl, h))
open_items (item_and i more) q ks r e h = (i, Comma ∷ items_symbols more, e, inl (more, refl, h))

-- and back

-- an operand, and what may follow it, make a tree of comparisons
pub close_conditions : (q : SourceQuery) (ks : List Symbol) (r : SourceQuery) → OperandThen Left q ks r → (t : Conditions) × (ks ≡ conditions_symbols t) × (r ≡ with_conditions q t)
close_conditions q ks r (x, rest, e, (op, more, f, (y, last, g, inl h))) = (condition x op y, e ∙ ap (λ z. side_symbols x ++ z) (f ∙ ap (λ z. Compare op ∷ z) (g ∙ ap (λ z. side_symbols y ++ z) h.0)), h.1)
close_conditions q ks r (x, rest, e, (op, more, f, (y, last, g, inr h))) = (condition_and x op y h.0, e ∙ ap (λ z. side_symbols x ++ z) (f ∙ ap (λ z. Compare op ∷ z) (g ∙ ap (λ z. side_symbols y ++ z) h.1)), h.2)

-- an entry, and what may follow it, make a tree of entries
pub close_entries : (q : SourceQuery) (ks : List Symbol) (r : SourceQuery) → EntryThen q ks r → (t : Entries) × (ks ≡ entries_symbols t) × (r ≡ with_entries q t)
close_entries q ks r (x, rest, e, inl h) = (entry x, e ∙ ap (λ z. entry_symbols x ++ z) h.0, h.1)
close_entries q ks r (x, rest, e, inr (inl h)) = (entry_where x h.0, e ∙ ap (λ z. entry_symbols x ++ z) h.1, h.2)
close_entries q ks r (x, rest, e, inr (inr h)) = (entry_and x h.0, e ∙ ap (λ z. entry_symbols x ++ z) h.1, h.2)

-- an item, and what may follow it, make a tree of items
pub close_items : (q : SourceQuery) (ks : List Symbol) (r : SourceQuery) → ItemThen q ks r → (t : Items) × (ks ≡ items_symbols t) × (r ≡ with_items q t)
close_items q ks r (i, rest, e, inl h) = (item_and i h.0, e ∙ ap (λ z. item_symbols i ++ z) h.1, h.2)
close_items q ks r (i, rest, e, inr h) = (item_from i h.0, e ∙ ap (λ z. item_symbols i ++ z) h.1, h.2)
