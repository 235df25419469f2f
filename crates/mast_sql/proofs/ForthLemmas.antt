-- What may come at a place is read by a step.
use Rattle.std.proofs.Common.{◌≡◌, ◌⊎◌, inl, inr, ℕ, List, ◌∷◌, ◌++◌, refl, ap, sym, ◌∙◌, subst}
use Rattle.std.specs.Prelude.{Option, Some, None}
use Rattle.std.specs.Prelude.{ℤ}
use Rattle.mast_terms.specs.declared.date.Date.{Date as ADate}
use Rattle.mast_terms.specs.declared.value.Value.TheVariants as value
use Rattle.mast_sql.specs.declared.symbol.Symbol.{Symbol}
use Rattle.mast_sql.specs.declared.symbol.Symbol.TheVariants.{Select, Distinct, From, Where, As, And, Date, Name, Integer, Quoted, Comma, Dot, Compare}
use Rattle.mast_sql.specs.declared.query.Operand.{Operand as AnOperand}
use Rattle.mast_sql.specs.declared.query.Operand.TheVariants as operand
use Rattle.mast_sql.specs.declared.query.SourceQuery.{SourceQuery}
use Rattle.mast_sql.specs.declared.parser.ParseState.{ParseState}
use Rattle.mast_sql.specs.declared.parser.ParseState.TheVariants as state
use Rattle.mast_sql.specs.declared.parser.Side.{Side as ASide}
use Rattle.mast_sql.specs.declared.parser.Side.TheVariants.{Left, Right}
use Rattle.mast_sql.specs.inside.Parser as parser
use Rattle.mast_sql.specs.inside.Parser.{with_item, with_entry, with_condition, at, step, finish, right_finish, whole}
use Rattle.mast_sql.specs.Grammar.{Item, alone, named, Entry, bare, beside, aliased, Side, column, integer, quoted, dated, column_symbols, item_symbols, entry_symbols, side_symbols, item_of, entry_of, side_of}
use Rattle.mast_sql.proofs.ReadsLemmas.{AfterCondition, AfterEntry, AfterItem, ItemThen, EntryThen, AfterOperand, OperandThen, SelectedThen, Reads, GoesTo, open_conditions, open_entries, open_items}

-- what an item, an entry and an operand begin with

item_name : (i : Item) (k : Symbol) (ks rest : List Symbol) → k ∷ ks ≡ item_symbols i ++ rest → (a : List ℕ) × (k ≡ Name a)
item_name (alone None a) k ks rest e = (a, cc)
item_name (alone (Some b) a) k ks rest e = (b, cc)
item_name (named None a o) k ks rest e = (a, cc)
item_name (named (Some b) a o) k ks rest e = (b, cc)

entry_name : (x : Entry) (k : Symbol) (ks rest : List Symbol) → k ∷ ks ≡ entry_symbols x ++ rest → (a : List ℕ) × (k ≡ Name a)
entry_name (bare t) k ks rest e = (t, cc)
entry_name (beside t a) k ks rest e = (t, cc)
entry_name (aliased t a) k ks rest e = (t, cc)

-- a column at the front is the item's or the operand's, or a dot follows one of them

abbrev pub ItemSplit : Option (List ℕ) → List ℕ → List Symbol → Item → List Symbol → Type 0
ItemSplit alias a ks i rest = ((i ≡ alone alias a) × (ks ≡ rest)) ⊎ (((o : List ℕ) × (i ≡ named alias a o) × (ks ≡ As ∷ (Name o ∷ rest))) ⊎ (((more : List Symbol) × (ks ≡ Dot ∷ more)) ⊎ ((more : List Symbol) × (rest ≡ Dot ∷ more))))

item_split : (alias : Option (List ℕ)) (a : List ℕ) (ks : List Symbol) (i : Item) (rest : List Symbol) → column_symbols alias a ++ ks ≡ item_symbols i ++ rest → ItemSplit alias a ks i rest
item_split None a ks (alone None c) rest e = let s : a ≡ c = cc in inl (ap (λ x. alone None x) (sym s), cc)
item_split None a ks (alone (Some b) c) rest e = inr (inr (inl (Name c ∷ rest, cc)))
item_split None a ks (named None c o) rest e = let s : a ≡ c = cc in inr (inl (o, ap (λ x. named None x o) (sym s), cc))
item_split None a ks (named (Some b) c o) rest e = inr (inr (inl (Name c ∷ (As ∷ (Name o ∷ rest)), cc)))
item_split (Some x) a ks (alone None c) rest e = inr (inr (inr (Name a ∷ ks, cc)))
item_split (Some x) a ks (alone (Some b) c) rest e = let s : a ≡ c = cc in let t : x ≡ b = cc in inl (ap (λ y. alone (Some y) c) (sym t) ∙ ap (λ y. alone (Some x) y) (sym s), cc)
item_split (Some x) a ks (named None c o) rest e = absurd (cc)
item_split (Some x) a ks (named (Some b) c o) rest e = let s : a ≡ c = cc in let t : x ≡ b = cc in inr (inl (o, ap (λ y. named (Some y) c o) (sym t) ∙ ap (λ y. named (Some x) y o) (sym s), cc))

abbrev pub SideSplit : Option (List ℕ) → List ℕ → List Symbol → Side → List Symbol → Type 0
SideSplit alias a ks x rest = ((x ≡ column alias a) × (ks ≡ rest)) ⊎ (((more : List Symbol) × (ks ≡ Dot ∷ more)) ⊎ ((more : List Symbol) × (rest ≡ Dot ∷ more)))

side_split : (alias : Option (List ℕ)) (a : List ℕ) (ks : List Symbol) (x : Side) (rest : List Symbol) → column_symbols alias a ++ ks ≡ side_symbols x ++ rest → SideSplit alias a ks x rest
side_split None a ks (column None c) rest e = let s : a ≡ c = cc in inl (ap (λ y. column None y) (sym s), cc)
side_split None a ks (column (Some b) c) rest e = inr (inl (Name c ∷ rest, cc))
side_split None a ks (integer n) rest e = absurd (cc)
side_split None a ks (quoted t d) rest e = absurd (cc)
side_split None a ks (dated t d) rest e = absurd (cc)
side_split (Some x) a ks (column None c) rest e = inr (inr (Name a ∷ ks, cc))
side_split (Some x) a ks (column (Some b) c) rest e = let s : a ≡ c = cc in let t : x ≡ b = cc in inl (ap (λ y. column (Some y) c) (sym t) ∙ ap (λ y. column (Some x) y) (sym s), cc)
side_split (Some x) a ks (integer n) rest e = absurd (cc)
side_split (Some x) a ks (quoted t d) rest e = absurd (cc)
side_split (Some x) a ks (dated t d) rest e = absurd (cc)

-- what follows a whole part begins with none of these

no_dot_item : (q r : SourceQuery) (ks more : List Symbol) → ks ≡ Dot ∷ more → AfterItem q ks r → ⊥
no_dot_item q r ks more e (inl t) = let f = t.1 in cc
no_dot_item q r ks more e (inr t) = let f = t.1 in cc

no_as_item : (q r : SourceQuery) (ks more : List Symbol) → As ∷ more ≡ ks → AfterItem q ks r → ⊥
no_as_item q r ks more e (inl t) = let f = t.1 in cc
no_as_item q r ks more e (inr t) = let f = t.1 in cc

no_as_entry : (q r : SourceQuery) (ks more : List Symbol) → As ∷ more ≡ ks → AfterEntry q ks r → ⊥
no_as_entry q r ks more e (inl t) = let f = t.0 in cc
no_as_entry q r ks more e (inr (inl t)) = let f = t.1 in cc
no_as_entry q r ks more e (inr (inr t)) = let f = t.1 in cc

no_name_entry : (q r : SourceQuery) (a : List ℕ) (ks more : List Symbol) → Name a ∷ more ≡ ks → AfterEntry q ks r → ⊥
no_name_entry q r a ks more e (inl t) = let f = t.0 in cc
no_name_entry q r a ks more e (inr (inl t)) = let f = t.1 in cc
no_name_entry q r a ks more e (inr (inr t)) = let f = t.1 in cc

no_dot_condition : (q r : SourceQuery) (ks more : List Symbol) → ks ≡ Dot ∷ more → AfterCondition q ks r → ⊥
no_dot_condition q r ks more e (inl t) = let f = t.0 in cc
no_dot_condition q r ks more e (inr t) = let f = t.1 in cc

no_dot_operand : (side : ASide) (x : AnOperand) (q r : SourceQuery) (ks more : List Symbol) → ks ≡ Dot ∷ more → AfterOperand side x q ks r → ⊥
no_dot_operand Left x q r ks more e t = let f = t.2 in cc
no_dot_operand (Right l op) x q r ks more e t = no_dot_condition (with_condition q (record { left = l; op = op; right = x })) r ks more e t

-- the ends

pub item_end_forth : (q : SourceQuery) (k : Symbol) (ks : List Symbol) (r : SourceQuery) → AfterItem q (k ∷ ks) r → GoesTo (at q (parser.item_end k)) ks r
item_end_forth q Comma ks r (inl t) = open_items t.0 q ks r (let f = t.1 in cc) t.2
item_end_forth q Comma ks r (inr t) = absurd (let f = t.1 in cc)
item_end_forth q From ks r (inl t) = absurd (let f = t.1 in cc)
item_end_forth q From ks r (inr t) = open_entries t.0 q ks r (let f = t.1 in cc) t.2
item_end_forth q k ks r (inl t) = absurd (let f = t.1 in cc)
item_end_forth q k ks r (inr t) = absurd (let f = t.1 in cc)

pub entry_end_forth : (q : SourceQuery) (k : Symbol) (ks : List Symbol) (r : SourceQuery) → AfterEntry q (k ∷ ks) r → GoesTo (at q (parser.entry_end k)) ks r
entry_end_forth q Comma ks r (inr (inr t)) = open_entries t.0 q ks r (let f = t.1 in cc) t.2
entry_end_forth q Where ks r (inr (inl t)) = open_conditions t.0 q ks r (let f = t.1 in cc) t.2
entry_end_forth q k ks r (inl t) = absurd (let f = t.0 in cc)
entry_end_forth q k ks r (inr (inl t)) = absurd (let f = t.1 in cc)
entry_end_forth q k ks r (inr (inr t)) = absurd (let f = t.1 in cc)

pub comparison_end_forth : (q : SourceQuery) (k : Symbol) (ks : List Symbol) (r : SourceQuery) → AfterCondition q (k ∷ ks) r → GoesTo (at q (parser.comparison_end k)) ks r
comparison_end_forth q And ks r (inr t) = open_conditions t.0 q ks r (let f = t.1 in cc) t.2
comparison_end_forth q k ks r (inl t) = absurd (let f = t.0 in cc)
comparison_end_forth q k ks r (inr t) = absurd (let f = t.1 in cc)

-- items

item_forth : (q : SourceQuery) (k : Symbol) (ks : List Symbol) (r : SourceQuery) → ItemThen q (k ∷ ks) r → GoesTo (at q (parser.item k)) ks r
item_forth q (Name a) ks r t = t
item_forth q k ks r t = let n = (item_name t.0 k ks t.1 t.2).1 in absurd (cc)

selected_forth : (q : SourceQuery) (k : Symbol) (ks : List Symbol) (r : SourceQuery) → SelectedThen q (k ∷ ks) r → GoesTo (at q (parser.selected k)) ks r
selected_forth q Distinct ks r (inl t) = let n = (item_name t.0 Distinct ks t.1 t.2).1 in absurd (cc)
selected_forth q Distinct ks r (inr t) = let s : t.0 ≡ ks = (let f = t.1 in cc) in subst (λ x. ItemThen q x r) s t.2
selected_forth q k ks r (inl t) = item_forth q k ks r t
selected_forth q k ks r (inr t) = let f = t.1 in absurd (cc)

start_forth : (q : SourceQuery) (k : Symbol) (ks : List Symbol) (r : SourceQuery) → Reads state.Start q (k ∷ ks) r → GoesTo (at q (parser.start k)) ks r
start_forth q Select ks r t = let s : t.0 ≡ ks = (let f = t.1 in cc) in subst (λ x. SelectedThen q x r) s t.2
start_forth q k ks r t = let f = t.1 in absurd (cc)

-- behind a column that neither a dot nor `AS` follows
pub column_whole : (alias : Option (List ℕ)) (a : List ℕ) (q : SourceQuery) (ks : List Symbol) (r : SourceQuery) → ((more : List Symbol) → ks ≡ Dot ∷ more → ⊥) → ((more : List Symbol) → ks ≡ As ∷ more → ⊥) → ItemThen q (column_symbols alias a ++ ks) r → AfterItem (with_item q (record { alias = alias; column = a; output = a })) ks r
column_whole alias a q ks r no_dot no_as t = go (item_split alias a ks t.0 t.1 t.2)
  where
    go : ItemSplit alias a ks t.0 t.1 → AfterItem (with_item q (record { alias = alias; column = a; output = a })) ks r
    go (inl s) = subst (λ x. AfterItem (with_item q (record { alias = alias; column = a; output = a })) x r) (sym s.1) (subst (λ i. AfterItem (with_item q (item_of i)) t.1 r) s.0 t.3)
    go (inr (inl s)) = absurd (no_as (Name s.0 ∷ t.1) s.2)
    go (inr (inr (inl s))) = absurd (no_dot s.0 s.1)
    go (inr (inr (inr s))) = absurd (no_dot_item (with_item q (item_of t.0)) r t.1 s.0 s.1 t.3)

column_forth : (alias : Option (List ℕ)) (a : List ℕ) (q : SourceQuery) (k : Symbol) (ks : List Symbol) (r : SourceQuery) → ItemThen q (column_symbols alias a ++ (k ∷ ks)) r → GoesTo (parser.column alias a q k) ks r
column_forth None a q Dot ks r t = t
column_forth (Some b) a q Dot ks r t = absurd (two_dots t.0 t.1 t.2 t.3)
  where
    two_dots : (i : Item) (rest : List Symbol) → Name b ∷ (Dot ∷ (Name a ∷ (Dot ∷ ks))) ≡ item_symbols i ++ rest → AfterItem (with_item q (item_of i)) rest r → ⊥
    two_dots (alone None c) rest e h = no_dot_item (with_item q (item_of (alone None c))) r rest (Name a ∷ (Dot ∷ ks)) (cc) h
    two_dots (alone (Some d) c) rest e h = no_dot_item (with_item q (item_of (alone (Some d) c))) r rest ks (cc) h
    two_dots (named None c o) rest e h = cc
    two_dots (named (Some d) c o) rest e h = cc
column_forth alias a q As ks r t = t
column_forth alias a q k ks r t = item_end_forth (with_item q (record { alias = alias; column = a; output = a })) k ks r (column_whole alias a q (k ∷ ks) r (λ more e. cc) (λ more e. cc) t)

-- behind `AS`
pub named_next : (alias : Option (List ℕ)) (a : List ℕ) (q : SourceQuery) (ks : List Symbol) (r : SourceQuery) → ItemThen q (column_symbols alias a ++ (As ∷ ks)) r → (o : List ℕ) × (rest : List Symbol) × (ks ≡ Name o ∷ rest) × AfterItem (with_item q (record { alias = alias; column = a; output = o })) rest r
named_next alias a q ks r t = go (item_split alias a (As ∷ ks) t.0 t.1 t.2)
  where
    go : ItemSplit alias a (As ∷ ks) t.0 t.1 → (o : List ℕ) × (rest : List Symbol) × (ks ≡ Name o ∷ rest) × AfterItem (with_item q (record { alias = alias; column = a; output = o })) rest r
    go (inl s) = absurd (no_as_item (with_item q (item_of t.0)) r t.1 ks s.1 t.3)
    go (inr (inl s)) = (s.0, t.1, (let f = s.2 in cc), subst (λ i. AfterItem (with_item q (item_of i)) t.1 r) s.1 t.3)
    go (inr (inr (inl s))) = absurd (let f = s.1 in cc)
    go (inr (inr (inr s))) = absurd (no_dot_item (with_item q (item_of t.0)) r t.1 s.0 s.1 t.3)

named_forth : (alias : Option (List ℕ)) (a : List ℕ) (q : SourceQuery) (k : Symbol) (ks : List Symbol) (r : SourceQuery) → ItemThen q (column_symbols alias a ++ (As ∷ (k ∷ ks))) r → GoesTo (parser.named alias a q k) ks r
named_forth alias a q (Name o) ks r t =
    let n = named_next alias a q (Name o ∷ ks) r t in
    let f = n.2 in
    let s : n.1 ≡ ks = cc in
    let p : n.0 ≡ o = cc in
    subst (λ x. AfterItem (with_item q (record { alias = alias; column = a; output = x })) ks r) p (subst (λ x. AfterItem (with_item q (record { alias = alias; column = a; output = n.0 })) x r) s n.3)
named_forth alias a q k ks r t = let f = (named_next alias a q (k ∷ ks) r t).2 in absurd (cc)

-- behind a dot
pub dotted_next : (b : List ℕ) (q : SourceQuery) (ks : List Symbol) (r : SourceQuery) (i : Item) (rest : List Symbol) → Name b ∷ (Dot ∷ ks) ≡ item_symbols i ++ rest → AfterItem (with_item q (item_of i)) rest r → (a : List ℕ) × (more : List Symbol) × (ks ≡ Name a ∷ more)
dotted_next b q ks r (alone None c) rest e h = absurd (no_dot_item (with_item q (item_of (alone None c))) r rest ks (cc) h)
dotted_next b q ks r (alone (Some d) c) rest e h = (c, rest, cc)
dotted_next b q ks r (named None c o) rest e h = absurd (cc)
dotted_next b q ks r (named (Some d) c o) rest e h = (c, As ∷ (Name o ∷ rest), cc)

dotted_forth : (b : List ℕ) (q : SourceQuery) (k : Symbol) (ks : List Symbol) (r : SourceQuery) → ItemThen q (Name b ∷ (Dot ∷ (k ∷ ks))) r → GoesTo (at q (parser.dotted b k)) ks r
dotted_forth b q (Name a) ks r t = t
dotted_forth b q k ks r t = let f = (dotted_next b q (k ∷ ks) r t.0 t.1 t.2 t.3).2 in absurd (cc)

-- entries

entry_forth : (q : SourceQuery) (k : Symbol) (ks : List Symbol) (r : SourceQuery) → EntryThen q (k ∷ ks) r → GoesTo (at q (parser.entry k)) ks r
entry_forth q (Name t) ks r x = x
entry_forth q k ks r x = let n = (entry_name x.0 k ks x.1 x.2).1 in absurd (cc)

after_entry_is : (q q2 : SourceQuery) (ks ks2 : List Symbol) (r : SourceQuery) → q ≡ q2 → ks ≡ ks2 → AfterEntry q ks r → AfterEntry q2 ks2 r
after_entry_is q q2 ks ks2 r e f h = subst (λ x. AfterEntry q2 x r) f (subst (λ x. AfterEntry x ks r) e h)

same_entry : (q : SourceQuery) (t u a b : List ℕ) → t ≡ u → a ≡ b → with_entry q (record { table = t; alias = a }) ≡ with_entry q (record { table = u; alias = b })
same_entry q t u a b e f = ap (λ x. with_entry q (record { table = x; alias = a })) e ∙ ap (λ x. with_entry q (record { table = u; alias = x })) f

-- behind a table that neither `AS` nor a name follows
pub table_whole : (t : List ℕ) (q : SourceQuery) (ks : List Symbol) (r : SourceQuery) → ((more : List Symbol) → ks ≡ As ∷ more → ⊥) → ((a : List ℕ) (more : List Symbol) → ks ≡ Name a ∷ more → ⊥) → (x : Entry) (rest : List Symbol) → Name t ∷ ks ≡ entry_symbols x ++ rest → AfterEntry (with_entry q (entry_of x)) rest r → AfterEntry (with_entry q (record { table = t; alias = t })) ks r
table_whole t q ks r no_as no_name (bare u) rest e h = let s : u ≡ t = cc in after_entry_is (with_entry q (record { table = u; alias = u })) (with_entry q (record { table = t; alias = t })) rest ks r (same_entry q u t u t s s) (cc) h
table_whole t q ks r no_as no_name (beside u a) rest e h = absurd (no_name a rest cc)
table_whole t q ks r no_as no_name (aliased u a) rest e h = absurd (no_as (Name a ∷ rest) cc)

-- behind a table that a name follows
table_named : (t a : List ℕ) (q : SourceQuery) (ks : List Symbol) (r : SourceQuery) (x : Entry) (rest : List Symbol) → Name t ∷ (Name a ∷ ks) ≡ entry_symbols x ++ rest → AfterEntry (with_entry q (entry_of x)) rest r → AfterEntry (with_entry q (record { table = t; alias = a })) ks r
table_named t a q ks r (bare u) rest e h = absurd (no_name_entry (with_entry q (record { table = u; alias = u })) r a rest ks (cc) h)
table_named t a q ks r (beside u b) rest e h = let s : u ≡ t = cc in let p : b ≡ a = cc in after_entry_is (with_entry q (record { table = u; alias = b })) (with_entry q (record { table = t; alias = a })) rest ks r (same_entry q u t b a s p) (cc) h
table_named t a q ks r (aliased u b) rest e h = absurd (cc)

table_forth : (t : List ℕ) (q : SourceQuery) (k : Symbol) (ks : List Symbol) (r : SourceQuery) → EntryThen q (Name t ∷ (k ∷ ks)) r → GoesTo (parser.table t q k) ks r
table_forth t q As ks r x = x
table_forth t q (Name a) ks r x = table_named t a q ks r x.0 x.1 x.2 x.3
table_forth t q k ks r x = entry_end_forth (with_entry q (record { table = t; alias = t })) k ks r (table_whole t q (k ∷ ks) r (λ more e. cc) (λ a more e. cc) x.0 x.1 x.2 x.3)

-- behind a table and `AS` comes an alias
pub table_as_next : (t : List ℕ) (q : SourceQuery) (ks : List Symbol) (r : SourceQuery) (x : Entry) (rest : List Symbol) → Name t ∷ (As ∷ ks) ≡ entry_symbols x ++ rest → AfterEntry (with_entry q (entry_of x)) rest r → (a : List ℕ) × (ks ≡ Name a ∷ rest) × AfterEntry (with_entry q (record { table = t; alias = a })) rest r
table_as_next t q ks r (bare u) rest e h = absurd (no_as_entry (with_entry q (record { table = u; alias = u })) r rest ks (cc) h)
table_as_next t q ks r (beside u a) rest e h = absurd (cc)
table_as_next t q ks r (aliased u a) rest e h = let s : u ≡ t = cc in (a, cc, after_entry_is (with_entry q (record { table = u; alias = a })) (with_entry q (record { table = t; alias = a })) rest rest r (same_entry q u t a a s refl) refl h)

table_as_forth : (t : List ℕ) (q : SourceQuery) (k : Symbol) (ks : List Symbol) (r : SourceQuery) → EntryThen q (Name t ∷ (As ∷ (k ∷ ks))) r → GoesTo (parser.table_as t q k) ks r
table_as_forth t q (Name a) ks r x =
    let n = table_as_next t q (Name a ∷ ks) r x.0 x.1 x.2 x.3 in
    let f = n.1 in
    let s : x.1 ≡ ks = cc in
    let p : n.0 ≡ a = cc in
    after_entry_is (with_entry q (record { table = t; alias = n.0 })) (with_entry q (record { table = t; alias = a })) x.1 ks r (same_entry q t t n.0 a refl p) s n.2
table_as_forth t q k ks r x = let f = (table_as_next t q (k ∷ ks) r x.0 x.1 x.2 x.3).1 in absurd (cc)

-- comparisons

pub whole_reads : (side : ASide) (x : AnOperand) (q : SourceQuery) (ks : List Symbol) (r : SourceQuery) → AfterOperand side x q ks r → Reads (whole side x q).0 (whole side x q).1 ks r
whole_reads Left x q ks r t = t
whole_reads (Right l op) x q ks r t = t

after_operand_is : (side : ASide) (x y : AnOperand) (q : SourceQuery) (ks ks2 : List Symbol) (r : SourceQuery) → x ≡ y → ks ≡ ks2 → AfterOperand side x q ks r → AfterOperand side y q ks2 r
after_operand_is side x y q ks ks2 r e f h = subst (λ z. AfterOperand side y q z r) f (subst (λ z. AfterOperand side z q ks r) e h)

integer_next : (side : ASide) (q : SourceQuery) (n : ℤ) (ks : List Symbol) (r : SourceQuery) (x : Side) (rest : List Symbol) → Integer n ∷ ks ≡ side_symbols x ++ rest → AfterOperand side (side_of x) q rest r → AfterOperand side (operand.Constant (value.Int n)) q ks r
integer_next side q n ks r (column None c) rest e h = absurd (cc)
integer_next side q n ks r (column (Some b) c) rest e h = absurd (cc)
integer_next side q n ks r (integer m) rest e h = let s : m ≡ n = cc in after_operand_is side (operand.Constant (value.Int m)) (operand.Constant (value.Int n)) q rest ks r (ap (λ z. operand.Constant (value.Int z)) s) (cc) h
integer_next side q n ks r (quoted t d) rest e h = absurd (cc)
integer_next side q n ks r (dated t d) rest e h = absurd (cc)

text_next : (side : ASide) (q : SourceQuery) (t : List ℕ) (d : Option ADate) (ks : List Symbol) (r : SourceQuery) (x : Side) (rest : List Symbol) → Quoted t d ∷ ks ≡ side_symbols x ++ rest → AfterOperand side (side_of x) q rest r → AfterOperand side (operand.Constant (value.Text t)) q ks r
text_next side q t d ks r (column None c) rest e h = absurd (cc)
text_next side q t d ks r (column (Some b) c) rest e h = absurd (cc)
text_next side q t d ks r (integer m) rest e h = absurd (cc)
text_next side q t d ks r (quoted u f) rest e h = let s : u ≡ t = cc in after_operand_is side (operand.Constant (value.Text u)) (operand.Constant (value.Text t)) q rest ks r (ap (λ z. operand.Constant (value.Text z)) s) (cc) h
text_next side q t d ks r (dated u f) rest e h = absurd (cc)

no_operand : (side : ASide) (q : SourceQuery) (k : Symbol) (ks rest : List Symbol) (x : Side) → k ∷ ks ≡ side_symbols x ++ rest → ((a : List ℕ) × (k ≡ Name a)) ⊎ (((n : ℤ) × (k ≡ Integer n)) ⊎ (((t : List ℕ) × (d : Option ADate) × (k ≡ Quoted t d)) ⊎ (k ≡ Date)))
no_operand side q k ks rest (column None c) e = inl (c, cc)
no_operand side q k ks rest (column (Some b) c) e = inl (b, cc)
no_operand side q k ks rest (integer m) e = inr (inl (m, cc))
no_operand side q k ks rest (quoted t d) e = inr (inr (inl (t, d, cc)))
no_operand side q k ks rest (dated t d) e = inr (inr (inr cc))

operand_forth : (side : ASide) (q : SourceQuery) (k : Symbol) (ks : List Symbol) (r : SourceQuery) → OperandThen side q (k ∷ ks) r → GoesTo (parser.operand side q k) ks r
operand_forth side q (Name a) ks r t = t
operand_forth side q (Integer n) ks r t = whole_reads side (operand.Constant (value.Int n)) q ks r (integer_next side q n ks r t.0 t.1 t.2 t.3)
operand_forth side q (Quoted u d) ks r t = whole_reads side (operand.Constant (value.Text u)) q ks r (text_next side q u d ks r t.0 t.1 t.2 t.3)
operand_forth side q Date ks r t = t
operand_forth side q k ks r t = absurd (elim (no_operand side q k ks t.1 t.0 t.2) [
  | inl s ↦ (let f = s.1 in cc)
  | inr s ↦ elim s [
    | inl s ↦ (let f = s.1 in cc)
    | inr s ↦ elim s [
      | inl s ↦ (let f = s.2 in cc)
      | inr s ↦ (let f = s in cc)
    ]
  ]
])

-- behind `DATE` comes a text that is a date
pub date_next : (side : ASide) (q : SourceQuery) (ks : List Symbol) (r : SourceQuery) (x : Side) (rest : List Symbol) → Date ∷ ks ≡ side_symbols x ++ rest → AfterOperand side (side_of x) q rest r → (t : List ℕ) × (d : ADate) × (ks ≡ Quoted t (Some d) ∷ rest) × AfterOperand side (operand.Constant (value.Date d)) q rest r
date_next side q ks r (column None c) rest e h = absurd (cc)
date_next side q ks r (column (Some b) c) rest e h = absurd (cc)
date_next side q ks r (integer m) rest e h = absurd (cc)
date_next side q ks r (quoted u f) rest e h = absurd (cc)
date_next side q ks r (dated u f) rest e h = (u, f, cc, h)

operand_date_forth : (side : ASide) (q : SourceQuery) (k : Symbol) (ks : List Symbol) (r : SourceQuery) → OperandThen side q (Date ∷ (k ∷ ks)) r → GoesTo (parser.operand_date side q k) ks r
operand_date_forth side q (Quoted t None) ks r x = let f = (date_next side q (Quoted t None ∷ ks) r x.0 x.1 x.2 x.3).2 in absurd (cc)
operand_date_forth side q (Quoted t (Some d)) ks r x =
    let n = date_next side q (Quoted t (Some d) ∷ ks) r x.0 x.1 x.2 x.3 in
    let f = n.2 in
    let s : n.1 ≡ d = cc in
    let p : x.1 ≡ ks = cc in
    whole_reads side (operand.Constant (value.Date d)) q ks r (after_operand_is side (operand.Constant (value.Date n.1)) (operand.Constant (value.Date d)) q x.1 ks r (ap (λ z. operand.Constant (value.Date z)) s) p n.3)
operand_date_forth side q k ks r x = let f = (date_next side q (k ∷ ks) r x.0 x.1 x.2 x.3).2 in absurd (cc)

left_end_forth : (x : AnOperand) (q : SourceQuery) (k : Symbol) (ks : List Symbol) (r : SourceQuery) → AfterOperand Left x q (k ∷ ks) r → GoesTo (at q (parser.left_end x k)) ks r
left_end_forth x q (Compare op) ks r t =
    let f = t.2 in
    let s : t.0 ≡ op = cc in
    let p : t.1 ≡ ks = cc in
    subst (λ o. OperandThen (Right x o) q ks r) s (subst (λ z. OperandThen (Right x t.0) q z r) p t.3)
left_end_forth x q k ks r t = let f = t.2 in absurd (cc)

operand_end_forth : (side : ASide) (x : AnOperand) (q : SourceQuery) (k : Symbol) (ks : List Symbol) (r : SourceQuery) → AfterOperand side x q (k ∷ ks) r → GoesTo (parser.operand_end side x q k) ks r
operand_end_forth Left x q k ks r t = left_end_forth x q k ks r t
operand_end_forth (Right l op) x q k ks r t = comparison_end_forth (with_condition q (record { left = l; op = op; right = x })) k ks r t

-- behind an operand's column that no dot follows
pub operand_whole : (side : ASide) (alias : Option (List ℕ)) (a : List ℕ) (q : SourceQuery) (ks : List Symbol) (r : SourceQuery) → ((more : List Symbol) → ks ≡ Dot ∷ more → ⊥) → OperandThen side q (column_symbols alias a ++ ks) r → AfterOperand side (operand.Column alias a) q ks r
operand_whole side alias a q ks r no_dot t = go (side_split alias a ks t.0 t.1 t.2)
  where
    go : SideSplit alias a ks t.0 t.1 → AfterOperand side (operand.Column alias a) q ks r
    go (inl s) = after_operand_is side (side_of t.0) (operand.Column alias a) q t.1 ks r (ap (λ x. side_of x) s.0) (sym s.1) t.3
    go (inr (inl s)) = absurd (no_dot s.0 s.1)
    go (inr (inr s)) = absurd (no_dot_operand side (side_of t.0) q r t.1 s.0 s.1 t.3)

operand_column_forth : (side : ASide) (alias : Option (List ℕ)) (a : List ℕ) (q : SourceQuery) (k : Symbol) (ks : List Symbol) (r : SourceQuery) → OperandThen side q (column_symbols alias a ++ (k ∷ ks)) r → GoesTo (parser.operand_column side alias a q k) ks r
operand_column_forth side None a q Dot ks r t = t
operand_column_forth side (Some b) a q Dot ks r t = absurd (two_dots t.0 t.1 t.2 t.3)
  where
    two_dots : (x : Side) (rest : List Symbol) → Name b ∷ (Dot ∷ (Name a ∷ (Dot ∷ ks))) ≡ side_symbols x ++ rest → AfterOperand side (side_of x) q rest r → ⊥
    two_dots (column None c) rest e h = no_dot_operand side (operand.Column None c) q r rest (Name a ∷ (Dot ∷ ks)) (cc) h
    two_dots (column (Some d) c) rest e h = no_dot_operand side (operand.Column (Some d) c) q r rest ks (cc) h
    two_dots (integer m) rest e h = cc
    two_dots (quoted u f) rest e h = cc
    two_dots (dated u f) rest e h = cc
operand_column_forth side alias a q k ks r t = operand_end_forth side (operand.Column alias a) q k ks r (operand_whole side alias a q (k ∷ ks) r (λ more e. cc) t)

-- behind an alias and a dot comes a name
pub operand_dotted_next : (side : ASide) (b : List ℕ) (q : SourceQuery) (ks : List Symbol) (r : SourceQuery) (x : Side) (rest : List Symbol) → Name b ∷ (Dot ∷ ks) ≡ side_symbols x ++ rest → AfterOperand side (side_of x) q rest r → (a : List ℕ) × (more : List Symbol) × (ks ≡ Name a ∷ more)
operand_dotted_next side b q ks r (column None c) rest e h = absurd (no_dot_operand side (operand.Column None c) q r rest ks (cc) h)
operand_dotted_next side b q ks r (column (Some d) c) rest e h = (c, rest, cc)
operand_dotted_next side b q ks r (integer m) rest e h = absurd (cc)
operand_dotted_next side b q ks r (quoted u f) rest e h = absurd (cc)
operand_dotted_next side b q ks r (dated u f) rest e h = absurd (cc)

operand_dotted_forth : (side : ASide) (b : List ℕ) (q : SourceQuery) (k : Symbol) (ks : List Symbol) (r : SourceQuery) → OperandThen side q (Name b ∷ (Dot ∷ (k ∷ ks))) r → GoesTo (at q (parser.operand_dotted side b k)) ks r
operand_dotted_forth side b q (Name a) ks r t = t
operand_dotted_forth side b q k ks r t = let f = (operand_dotted_next side b q (k ∷ ks) r t.0 t.1 t.2 t.3).2 in absurd (cc)

-- what may come with a symbol may come behind its step
pub forth : (p : ParseState) (q : SourceQuery) (k : Symbol) (ks : List Symbol) (r : SourceQuery) → Reads p q (k ∷ ks) r → GoesTo (step p q k) ks r
forth state.Start q k ks r t = start_forth q k ks r t
forth state.Selected q k ks r t = selected_forth q k ks r t
forth state.Item q k ks r t = item_forth q k ks r t
forth (state.Column alias a) q k ks r t = column_forth alias a q k ks r t
forth (state.Dotted alias) q k ks r t = dotted_forth alias q k ks r t
forth (state.Named alias a) q k ks r t = named_forth alias a q k ks r t
forth state.ItemEnd q k ks r t = item_end_forth q k ks r t
forth state.Entry q k ks r t = entry_forth q k ks r t
forth (state.Table u) q k ks r t = table_forth u q k ks r t
forth (state.TableAs u) q k ks r t = table_as_forth u q k ks r t
forth state.EntryEnd q k ks r t = entry_end_forth q k ks r t
forth (state.Operand side) q k ks r t = operand_forth side q k ks r t
forth (state.OperandColumn side alias a) q k ks r t = operand_column_forth side alias a q k ks r t
forth (state.OperandDotted side alias) q k ks r t = operand_dotted_forth side alias q k ks r t
forth (state.OperandDate side) q k ks r t = operand_date_forth side q k ks r t
forth (state.LeftEnd x) q k ks r t = left_end_forth x q k ks r t
forth state.ComparisonEnd q k ks r t = comparison_end_forth q k ks r t
