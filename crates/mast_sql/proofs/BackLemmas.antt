-- What a step reads may come at its place; where a query may end; and each place has some rest.
use Rattle.std.proofs.Common.{◌≡◌, inl, inr, ℕ, List, ◌∷◌, [], ◌++◌, refl, ap, sym, append_assoc, arith}
use Rattle.std.specs.Prelude.{Option, Some, None}
use Rattle.mast_terms.specs.Printed.{date_text}
use Rattle.mast_terms.specs.declared.date.Date.{Date as ADate}
use Rattle.mast_terms.specs.declared.value.Value.TheVariants as value
use Rattle.mast_sql.specs.declared.symbol.Symbol.{Symbol}
use Rattle.mast_sql.specs.declared.symbol.Symbol.TheVariants.{Select, Distinct, From, Where, As, And, Date, Name, Integer, Quoted, Comma, Dot, Compare}
use Rattle.mast_sql.specs.declared.query.Compare.TheVariants as op
use Rattle.mast_sql.specs.declared.query.Operand.{Operand as AnOperand}
use Rattle.mast_sql.specs.declared.query.Operand.TheVariants as operand
use Rattle.mast_sql.specs.declared.query.SourceQuery.{SourceQuery}
use Rattle.mast_sql.specs.declared.parser.ParseState.{ParseState}
use Rattle.mast_sql.specs.declared.parser.ParseState.TheVariants as state
use Rattle.mast_sql.specs.declared.parser.Side.{Side as ASide}
use Rattle.mast_sql.specs.declared.parser.Side.TheVariants.{Left, Right}
use Rattle.mast_sql.specs.inside.Parser as parser
use Rattle.mast_sql.specs.inside.Parser.{with_item, with_entry, with_condition, at, step, finish, right_finish, whole}
use Rattle.mast_sql.specs.Grammar.{Item, alone, named, Entry, bare, beside, aliased, Side, column, integer, quoted, dated, entry, column_symbols, item_symbols, entry_symbols, side_symbols}
use Rattle.mast_sql.proofs.ReadsLemmas.{AfterCondition, AfterEntry, AfterItem, ItemThen, EntryThen, AfterOperand, OperandThen, SelectedThen, Reads, GoesTo, close_conditions, close_entries, close_items}
use Rattle.mast_sql.proofs.ForthLemmas.{column_whole, named_next, dotted_next, table_whole, table_as_next, operand_whole, operand_dotted_next, date_next}

item_end_back : (q : SourceQuery) (k : Symbol) (ks : List Symbol) (r : SourceQuery) → GoesTo (at q (parser.item_end k)) ks r → AfterItem q (k ∷ ks) r
item_end_back q Comma ks r t = let c = close_items q ks r t in inl (c.0, ap (λ x. Comma ∷ x) c.1, c.2)
item_end_back q From ks r t = let c = close_entries q ks r t in inr (c.0, ap (λ x. From ∷ x) c.1, c.2)
item_end_back q k ks r t = absurd t

entry_end_back : (q : SourceQuery) (k : Symbol) (ks : List Symbol) (r : SourceQuery) → GoesTo (at q (parser.entry_end k)) ks r → AfterEntry q (k ∷ ks) r
entry_end_back q Comma ks r t = let c = close_entries q ks r t in inr (inr (c.0, ap (λ x. Comma ∷ x) c.1, c.2))
entry_end_back q Where ks r t = let c = close_conditions q ks r t in inr (inl (c.0, ap (λ x. Where ∷ x) c.1, c.2))
entry_end_back q k ks r t = absurd t

comparison_end_back : (q : SourceQuery) (k : Symbol) (ks : List Symbol) (r : SourceQuery) → GoesTo (at q (parser.comparison_end k)) ks r → AfterCondition q (k ∷ ks) r
comparison_end_back q And ks r t = let c = close_conditions q ks r t in inr (c.0, ap (λ x. And ∷ x) c.1, c.2)
comparison_end_back q k ks r t = absurd t

start_back : (q : SourceQuery) (k : Symbol) (ks : List Symbol) (r : SourceQuery) → GoesTo (at q (parser.start k)) ks r → Reads state.Start q (k ∷ ks) r
start_back q Select ks r t = (ks, refl, t)
start_back q k ks r t = absurd t

item_back : (q : SourceQuery) (k : Symbol) (ks : List Symbol) (r : SourceQuery) → GoesTo (at q (parser.item k)) ks r → ItemThen q (k ∷ ks) r
item_back q (Name a) ks r t = t
item_back q k ks r t = absurd t

selected_back : (q : SourceQuery) (k : Symbol) (ks : List Symbol) (r : SourceQuery) → GoesTo (at q (parser.selected k)) ks r → SelectedThen q (k ∷ ks) r
selected_back q Distinct ks r t = inr (ks, refl, t)
selected_back q k ks r t = inl (item_back q k ks r t)

column_back : (alias : Option (List ℕ)) (a : List ℕ) (q : SourceQuery) (k : Symbol) (ks : List Symbol) (r : SourceQuery) → GoesTo (parser.column alias a q k) ks r → ItemThen q (column_symbols alias a ++ (k ∷ ks)) r
column_back None a q Dot ks r t = t
column_back (Some b) a q Dot ks r t = absurd t
column_back alias a q As ks r t = t
column_back alias a q k ks r t = (alone alias a, k ∷ ks, refl, item_end_back (with_item q (record { alias = alias; column = a; output = a })) k ks r t)

named_back : (alias : Option (List ℕ)) (a : List ℕ) (q : SourceQuery) (k : Symbol) (ks : List Symbol) (r : SourceQuery) → GoesTo (parser.named alias a q k) ks r → ItemThen q (column_symbols alias a ++ (As ∷ (k ∷ ks))) r
named_back alias a q (Name o) ks r t = (named alias a o, ks, sym (append_assoc (column_symbols alias a) (As ∷ (Name o ∷ [])) ks), t)
named_back alias a q k ks r t = absurd t

dotted_back : (b : List ℕ) (q : SourceQuery) (k : Symbol) (ks : List Symbol) (r : SourceQuery) → GoesTo (at q (parser.dotted b k)) ks r → ItemThen q (Name b ∷ (Dot ∷ (k ∷ ks))) r
dotted_back b q (Name a) ks r t = t
dotted_back b q k ks r t = absurd t

entry_back : (q : SourceQuery) (k : Symbol) (ks : List Symbol) (r : SourceQuery) → GoesTo (at q (parser.entry k)) ks r → EntryThen q (k ∷ ks) r
entry_back q (Name t) ks r x = x
entry_back q k ks r x = absurd x

table_back : (t : List ℕ) (q : SourceQuery) (k : Symbol) (ks : List Symbol) (r : SourceQuery) → GoesTo (parser.table t q k) ks r → EntryThen q (Name t ∷ (k ∷ ks)) r
table_back t q As ks r x = x
table_back t q (Name a) ks r x = (beside t a, ks, refl, x)
table_back t q k ks r x = (bare t, k ∷ ks, refl, entry_end_back (with_entry q (record { table = t; alias = t })) k ks r x)

table_as_back : (t : List ℕ) (q : SourceQuery) (k : Symbol) (ks : List Symbol) (r : SourceQuery) → GoesTo (parser.table_as t q k) ks r → EntryThen q (Name t ∷ (As ∷ (k ∷ ks))) r
table_as_back t q (Name a) ks r x = (aliased t a, ks, refl, x)
table_as_back t q k ks r x = absurd x

whole_back : (side : ASide) (x : AnOperand) (q : SourceQuery) (ks : List Symbol) (r : SourceQuery) → Reads (whole side x q).0 (whole side x q).1 ks r → AfterOperand side x q ks r
whole_back Left x q ks r t = t
whole_back (Right l op) x q ks r t = t

operand_back : (side : ASide) (q : SourceQuery) (k : Symbol) (ks : List Symbol) (r : SourceQuery) → GoesTo (parser.operand side q k) ks r → OperandThen side q (k ∷ ks) r
operand_back side q (Name a) ks r t = t
operand_back side q (Integer n) ks r t = (integer n, ks, refl, whole_back side (operand.Constant (value.Int n)) q ks r t)
operand_back side q (Quoted u d) ks r t = (quoted u d, ks, refl, whole_back side (operand.Constant (value.Text u)) q ks r t)
operand_back side q Date ks r t = t
operand_back side q k ks r t = absurd t

operand_date_back : (side : ASide) (q : SourceQuery) (k : Symbol) (ks : List Symbol) (r : SourceQuery) → GoesTo (parser.operand_date side q k) ks r → OperandThen side q (Date ∷ (k ∷ ks)) r
operand_date_back side q (Quoted u None) ks r t = absurd t
operand_date_back side q (Quoted u (Some d)) ks r t = (dated u d, ks, refl, whole_back side (operand.Constant (value.Date d)) q ks r t)
operand_date_back side q k ks r t = absurd t

left_end_back : (x : AnOperand) (q : SourceQuery) (k : Symbol) (ks : List Symbol) (r : SourceQuery) → GoesTo (at q (parser.left_end x k)) ks r → AfterOperand Left x q (k ∷ ks) r
left_end_back x q (Compare o) ks r t = (o, ks, refl, t)
left_end_back x q k ks r t = absurd t

operand_end_back : (side : ASide) (x : AnOperand) (q : SourceQuery) (k : Symbol) (ks : List Symbol) (r : SourceQuery) → GoesTo (parser.operand_end side x q k) ks r → AfterOperand side x q (k ∷ ks) r
operand_end_back Left x q k ks r t = left_end_back x q k ks r t
operand_end_back (Right l o) x q k ks r t = comparison_end_back (with_condition q (record { left = l; op = o; right = x })) k ks r t

operand_column_back : (side : ASide) (alias : Option (List ℕ)) (a : List ℕ) (q : SourceQuery) (k : Symbol) (ks : List Symbol) (r : SourceQuery) → GoesTo (parser.operand_column side alias a q k) ks r → OperandThen side q (column_symbols alias a ++ (k ∷ ks)) r
operand_column_back side None a q Dot ks r t = t
operand_column_back side (Some b) a q Dot ks r t = absurd t
operand_column_back side alias a q k ks r t = (column alias a, k ∷ ks, refl, operand_end_back side (operand.Column alias a) q k ks r t)

operand_dotted_back : (side : ASide) (b : List ℕ) (q : SourceQuery) (k : Symbol) (ks : List Symbol) (r : SourceQuery) → GoesTo (at q (parser.operand_dotted side b k)) ks r → OperandThen side q (Name b ∷ (Dot ∷ (k ∷ ks))) r
operand_dotted_back side b q (Name a) ks r t = t
operand_dotted_back side b q k ks r t = absurd t

-- what may come behind a step may come with its symbol
pub back : (p : ParseState) (q : SourceQuery) (k : Symbol) (ks : List Symbol) (r : SourceQuery) → GoesTo (step p q k) ks r → Reads p q (k ∷ ks) r
back state.Start q k ks r t = start_back q k ks r t
back state.Selected q k ks r t = selected_back q k ks r t
back state.Item q k ks r t = item_back q k ks r t
back (state.Column alias a) q k ks r t = column_back alias a q k ks r t
back (state.Dotted alias) q k ks r t = dotted_back alias q k ks r t
back (state.Named alias a) q k ks r t = named_back alias a q k ks r t
back state.ItemEnd q k ks r t = item_end_back q k ks r t
back state.Entry q k ks r t = entry_back q k ks r t
back (state.Table u) q k ks r t = table_back u q k ks r t
back (state.TableAs u) q k ks r t = table_as_back u q k ks r t
back state.EntryEnd q k ks r t = entry_end_back q k ks r t
back (state.Operand side) q k ks r t = operand_back side q k ks r t
back (state.OperandColumn side alias a) q k ks r t = operand_column_back side alias a q k ks r t
back (state.OperandDotted side alias) q k ks r t = operand_dotted_back side alias q k ks r t
back (state.OperandDate side) q k ks r t = operand_date_back side q k ks r t
back (state.LeftEnd x) q k ks r t = left_end_back x q k ks r t
back state.ComparisonEnd q k ks r t = comparison_end_back q k ks r t

-- where a query may end

no_item : (i : Item) (rest : List Symbol) → [] ≡ item_symbols i ++ rest → ⊥
no_item (alone None a) rest e = cc
no_item (alone (Some b) a) rest e = cc
no_item (named None a o) rest e = cc
no_item (named (Some b) a o) rest e = cc

no_entry : (x : Entry) (rest : List Symbol) → [] ≡ entry_symbols x ++ rest → ⊥
no_entry (bare t) rest e = cc
no_entry (beside t a) rest e = cc
no_entry (aliased t a) rest e = cc

no_side : (x : Side) (rest : List Symbol) → [] ≡ side_symbols x ++ rest → ⊥
no_side (column None a) rest e = cc
no_side (column (Some b) a) rest e = cc
no_side (integer n) rest e = cc
no_side (quoted t d) rest e = cc
no_side (dated t d) rest e = cc

item_open : (q r : SourceQuery) → AfterItem q [] r → ⊥
item_open q r (inl t) = let f = t.1 in cc
item_open q r (inr t) = let f = t.1 in cc

entry_ends : (q r : SourceQuery) → AfterEntry q [] r → ◌≡◌ {A = Option SourceQuery} (Some q) (Some r)
entry_ends q r (inl t) = ap (λ x. Some x) (sym t.1)
entry_ends q r (inr (inl t)) = absurd (let f = t.1 in cc)
entry_ends q r (inr (inr t)) = absurd (let f = t.1 in cc)

condition_ends : (q r : SourceQuery) → AfterCondition q [] r → ◌≡◌ {A = Option SourceQuery} (Some q) (Some r)
condition_ends q r (inl t) = ap (λ x. Some x) (sym t.1)
condition_ends q r (inr t) = absurd (let f = t.1 in cc)

operand_ends : (side : ASide) (x : AnOperand) (q r : SourceQuery) → AfterOperand side x q [] r → right_finish side x q ≡ Some r
operand_ends Left x q r t = absurd (let f = t.2 in cc)
operand_ends (Right l o) x q r t = condition_ends (with_condition q (record { left = l; op = o; right = x })) r t

-- where nothing more comes, the query ends
pub ends : (p : ParseState) (q r : SourceQuery) → Reads p q [] r → finish p q ≡ Some r
ends state.Start q r t = absurd (let f = t.1 in cc)
ends state.Selected q r (inl t) = absurd (no_item t.0 t.1 t.2)
ends state.Selected q r (inr t) = absurd (let f = t.1 in cc)
ends state.Item q r t = absurd (no_item t.0 t.1 t.2)
ends (state.Column alias a) q r t = absurd (item_open (with_item q (record { alias = alias; column = a; output = a })) r (column_whole alias a q [] r (λ more e. cc) (λ more e. cc) t))
ends (state.Dotted b) q r t = absurd (let f = (dotted_next b q [] r t.0 t.1 t.2 t.3).2 in cc)
ends (state.Named alias a) q r t = absurd (let f = (named_next alias a q [] r t).2 in cc)
ends state.ItemEnd q r t = absurd (item_open q r t)
ends state.Entry q r t = absurd (no_entry t.0 t.1 t.2)
ends (state.Table u) q r t = entry_ends (with_entry q (record { table = u; alias = u })) r (table_whole u q [] r (λ more e. cc) (λ a more e. cc) t.0 t.1 t.2 t.3)
ends (state.TableAs u) q r t = absurd (let f = (table_as_next u q [] r t.0 t.1 t.2 t.3).1 in cc)
ends state.EntryEnd q r t = entry_ends q r t
ends (state.Operand side) q r t = absurd (no_side t.0 t.1 t.2)
ends (state.OperandColumn side alias a) q r t = operand_ends side (operand.Column alias a) q r (operand_whole side alias a q [] r (λ more e. cc) t)
ends (state.OperandDotted side b) q r t = absurd (let f = (operand_dotted_next side b q [] r t.0 t.1 t.2 t.3).2 in cc)
ends (state.OperandDate side) q r t = absurd (let f = (date_next side q [] r t.0 t.1 t.2 t.3).2 in cc)
ends (state.LeftEnd x) q r t = absurd (let f = t.2 in cc)
ends state.ComparisonEnd q r t = condition_ends q r t

some_is : (q r : SourceQuery) → ◌≡◌ {A = Option SourceQuery} (Some q) (Some r) → r ≡ q
some_is q r e = cc

operand_ended : (side : ASide) (x : AnOperand) (q r : SourceQuery) → right_finish side x q ≡ Some r → AfterOperand side x q [] r
operand_ended Left x q r e = absurd (cc)
operand_ended (Right l o) x q r e = inl (refl, some_is (with_condition q (record { left = l; op = o; right = x })) r e)

-- and where a query ends, nothing more may come
pub ended : (p : ParseState) (q r : SourceQuery) → finish p q ≡ Some r → Reads p q [] r
ended (state.Table u) q r e = (bare u, [], refl, inl (refl, some_is (with_entry q (record { table = u; alias = u })) r e))
ended state.EntryEnd q r e = inl (refl, some_is q r e)
ended (state.OperandColumn side alias a) q r e = (column alias a, [], refl, operand_ended side (operand.Column alias a) q r e)
ended state.ComparisonEnd q r e = inl (refl, some_is q r e)
ended _ q r e = absurd (cc)

-- each place has some rest

a_name : List ℕ
a_name = 97 ∷ []

after_item : (q : SourceQuery) → (ks : List Symbol) × (r : SourceQuery) × AfterItem q ks r
after_item q = (From ∷ (Name a_name ∷ []), with_entry q (record { table = a_name; alias = a_name }), inr (entry (bare a_name), refl, refl))

after_operand : (side : ASide) (x : AnOperand) (q : SourceQuery) → (ks : List Symbol) × (r : SourceQuery) × AfterOperand side x q ks r
after_operand Left x q = (Compare op.Equal ∷ (Name a_name ∷ []), with_condition q (record { left = x; op = op.Equal; right = operand.Column None a_name }), (op.Equal, Name a_name ∷ [], refl, (column None a_name, [], refl, inl (refl, refl))))
after_operand (Right l o) x q = ([], with_condition q (record { left = l; op = o; right = x }), inl (refl, refl))

a_day : ADate
a_day = record { year = 1; month = 1; day = 1; valid = record { year_from = omega arith; year_to = omega arith; month_from = omega arith; month_to = omega arith; day_from = omega arith; day_to = omega arith } }

-- at each state something may come that makes a query
pub completes : (p : ParseState) (q : SourceQuery) → (ks : List Symbol) × (r : SourceQuery) × Reads p q ks r
completes state.Start q = let c = after_item (with_item q (record { alias = None; column = a_name; output = a_name })) in (Select ∷ (Name a_name ∷ c.0), c.1, (Name a_name ∷ c.0, refl, inl (alone None a_name, c.0, refl, c.2)))
completes state.Selected q = let c = after_item (with_item q (record { alias = None; column = a_name; output = a_name })) in (Name a_name ∷ c.0, c.1, inl (alone None a_name, c.0, refl, c.2))
completes state.Item q = let c = after_item (with_item q (record { alias = None; column = a_name; output = a_name })) in (Name a_name ∷ c.0, c.1, (alone None a_name, c.0, refl, c.2))
completes (state.Column alias a) q = let c = after_item (with_item q (record { alias = alias; column = a; output = a })) in (c.0, c.1, (alone alias a, c.0, refl, c.2))
completes (state.Dotted b) q = let c = after_item (with_item q (record { alias = Some b; column = a_name; output = a_name })) in (Name a_name ∷ c.0, c.1, (alone (Some b) a_name, c.0, refl, c.2))
completes (state.Named alias a) q = let c = after_item (with_item q (record { alias = alias; column = a; output = a_name })) in (Name a_name ∷ c.0, c.1, (named alias a a_name, c.0, sym (append_assoc (column_symbols alias a) (As ∷ (Name a_name ∷ [])) c.0), c.2))
completes state.ItemEnd q = after_item q
completes state.Entry q = (Name a_name ∷ [], with_entry q (record { table = a_name; alias = a_name }), (bare a_name, [], refl, inl (refl, refl)))
completes (state.Table u) q = ([], with_entry q (record { table = u; alias = u }), (bare u, [], refl, inl (refl, refl)))
completes (state.TableAs u) q = (Name a_name ∷ [], with_entry q (record { table = u; alias = a_name }), (aliased u a_name, [], refl, inl (refl, refl)))
completes state.EntryEnd q = ([], q, inl (refl, refl))
completes (state.Operand side) q = let c = after_operand side (operand.Column None a_name) q in (Name a_name ∷ c.0, c.1, (column None a_name, c.0, refl, c.2))
completes (state.OperandColumn side alias a) q = let c = after_operand side (operand.Column alias a) q in (c.0, c.1, (column alias a, c.0, refl, c.2))
completes (state.OperandDotted side b) q = let c = after_operand side (operand.Column (Some b) a_name) q in (Name a_name ∷ c.0, c.1, (column (Some b) a_name, c.0, refl, c.2))
completes (state.OperandDate side) q = let c = after_operand side (operand.Constant (value.Date a_day)) q in (Quoted (date_text a_day) (Some a_day) ∷ c.0, c.1, (dated (date_text a_day) a_day, c.0, refl, c.2))
completes (state.LeftEnd x) q = after_operand Left x q
completes state.ComparisonEnd q = ([], q, inl (refl, refl))
