-- Symbols run through the parser to a state: the queries that begin with them are those that may go on there.
use Rattle.std.proofs.Common.{◌≡◌, inl, inr, List, ◌∷◌, [], ◌++◌, refl, ap, sym, ◌∙◌, subst, append_assoc}
use Rattle.std.specs.Prelude.{Option, Some, None}
use Rattle.std.proofs.lemmas.List.{append-nil}
use Rattle.mast_source.specs.Grammar.{Begins}
use Rattle.mast_sql.specs.declared.symbol.Symbol.{Symbol}
use Rattle.mast_sql.specs.declared.symbol.Symbol.TheVariants.{Select, Distinct}
use Rattle.mast_sql.specs.declared.query.SourceQuery.{SourceQuery}
use Rattle.mast_sql.specs.declared.parser.ParseState.{ParseState}
use Rattle.mast_sql.specs.declared.parser.ParseState.TheVariants as state
use Rattle.mast_sql.specs.inside.Parser.{empty, with_item, with_entry, with_condition, step, finish}
use Rattle.mast_sql.specs.Grammar.{Conditions, condition, condition_and, Entries, entry, entry_where, entry_and, Items, item_from, item_and, select, select_distinct, conditions_of, from_of, where_of, items_of, entries_of, comparison_of, entry_of, item_of, items_symbols, IsQuery}
use Rattle.mast_sql.proofs.ReadsLemmas.{Reads, GoesTo, with_conditions, with_entries, with_items, open_items, close_items}
use Rattle.mast_sql.proofs.ForthLemmas.{forth}
use Rattle.mast_sql.proofs.BackLemmas.{back, ends, ended, completes}

-- the query of a tree, one by one and by its lists

conditions_lists : (t : Conditions) (q : SourceQuery) → with_conditions q t ≡ record { items = q.items; from = q.from; conditions = q.conditions ++ conditions_of t }
conditions_lists (condition x o y) q = refl
conditions_lists (condition_and x o y more) q =
    conditions_lists more (with_condition q (comparison_of x o y))
    ∙ ap (λ c. record { items = q.items; from = q.from; conditions = c }) (append_assoc q.conditions (comparison_of x o y ∷ []) (conditions_of more))

entries_lists : (t : Entries) (q : SourceQuery) → with_entries q t ≡ record { items = q.items; from = q.from ++ from_of t; conditions = q.conditions ++ where_of t }
entries_lists (entry e) q = ap (λ c. record { items = q.items; from = q.from ++ entry_of e ∷ []; conditions = c }) (sym (append-nil q.conditions))
entries_lists (entry_where e conditions) q = conditions_lists conditions (with_entry q (entry_of e))
entries_lists (entry_and e more) q =
    entries_lists more (with_entry q (entry_of e))
    ∙ ap (λ f. record { items = q.items; from = f; conditions = q.conditions ++ where_of more }) (append_assoc q.from (entry_of e ∷ []) (from_of more))

items_lists : (t : Items) (q : SourceQuery) → with_items q t ≡ record { items = q.items ++ items_of t; from = q.from ++ from_of (entries_of t); conditions = q.conditions ++ where_of (entries_of t) }
items_lists (item_from i entries) q = entries_lists entries (with_item q (item_of i))
items_lists (item_and i more) q =
    items_lists more (with_item q (item_of i))
    ∙ ap (λ x. record { items = x; from = q.from ++ from_of (entries_of more); conditions = q.conditions ++ where_of (entries_of more) }) (append_assoc q.items (item_of i ∷ []) (items_of more))

-- a query is what may come at the start
pub query_reads : (ks : List Symbol) (r : SourceQuery) → IsQuery ks r → Reads state.Start empty ks r
query_reads ks r (select t, e, h) = (items_symbols t, e, inl (open_items t empty (items_symbols t) r refl (h ∙ sym (items_lists t empty))))
query_reads ks r (select_distinct t, e, h) = (Distinct ∷ items_symbols t, e, inr (items_symbols t, refl, open_items t empty (items_symbols t) r refl (h ∙ sym (items_lists t empty))))

-- what may come at the start is a query
pub reads_query : (ks : List Symbol) (r : SourceQuery) → Reads state.Start empty ks r → IsQuery ks r
reads_query ks r (rest, e, inl t) = let c = close_items empty rest r t in (select c.0, e ∙ ap (λ x. Select ∷ x) c.1, c.2 ∙ items_lists c.0 empty)
reads_query ks r (rest, e, inr t) = let c = close_items empty t.0 r t.2 in (select_distinct c.0, e ∙ ap (λ x. Select ∷ x) (t.1 ∙ ap (λ x. Distinct ∷ x) c.1), c.2 ∙ items_lists c.0 empty)

-- the state and the query behind symbols
abbrev pub run : Option (ParseState × SourceQuery) → List Symbol → Option (ParseState × SourceQuery)
run s [] = s
run None (k ∷ ks) = None
run (Some s) (k ∷ ks) = run (step s.0 s.1 k) ks

-- before any symbol
abbrev pub begun : Option (ParseState × SourceQuery)
begun = Some (state.Start, empty)

-- what may come behind symbols may come with them
pub back_run : (ks more : List Symbol) (s : Option (ParseState × SourceQuery)) (r : SourceQuery) → GoesTo (run s ks) more r → GoesTo s (ks ++ more) r
back_run [] more s r t = t
back_run (k ∷ ks) more None r t = t
back_run (k ∷ ks) more (Some s) r t = back s.0 s.1 k (ks ++ more) r (back_run ks more (step s.0 s.1 k) r t)

-- and what may come with them may come behind them
pub forth_run : (ks more : List Symbol) (s : Option (ParseState × SourceQuery)) (r : SourceQuery) → GoesTo s (ks ++ more) r → GoesTo (run s ks) more r
forth_run [] more s r t = t
forth_run (k ∷ ks) more None r t = t
forth_run (k ∷ ks) more (Some s) r t = forth_run ks more (step s.0 s.1 k) r (forth s.0 s.1 k (ks ++ more) r t)

-- symbols behind symbols run from where the first ones end
pub run_append : (xs ys : List Symbol) (s : Option (ParseState × SourceQuery)) → run s (xs ++ ys) ≡ run (run s xs) ys
run_append [] ys s = refl
run_append (k ∷ xs) ys None = run_none ys
  where
    run_none : (ys : List Symbol) → None ≡ run None ys
    run_none [] = refl
    run_none (k ∷ ys) = refl
run_append (k ∷ xs) ys (Some s) = run_append xs ys (step s.0 s.1 k)

-- some query begins with symbols that run somewhere
pub begins_at : (ks : List Symbol) (s : ParseState × SourceQuery) → run begun ks ≡ Some s → Begins IsQuery ks
begins_at ks s e =
    let c = completes s.0 s.1 in
    (c.0, c.1, reads_query (ks ++ c.0) c.1 (back_run ks c.0 begun c.1 (subst (λ x. GoesTo x c.0 c.1) (sym e) c.2)))

-- no query begins with symbols that run nowhere
pub stuck_begins : (ks : List Symbol) → run begun ks ≡ None → Begins IsQuery ks → ⊥
stuck_begins ks e b = subst (λ x. GoesTo x b.0 b.1) e (forth_run ks b.0 begun b.1 (query_reads (ks ++ b.0) b.1 b.2))

-- where a query may end, the symbols are that query
pub query_at : (ks : List Symbol) (s : ParseState × SourceQuery) (r : SourceQuery) → run begun ks ≡ Some s → finish s.0 s.1 ≡ Some r → IsQuery ks r
query_at ks s r e f = subst (λ x. IsQuery x r) (append-nil ks) (reads_query (ks ++ []) r (back_run ks [] begun r (subst (λ x. GoesTo x [] r) (sym e) (ended s.0 s.1 r f))))

-- and a query may end where its symbols run
pub at_query : (ks : List Symbol) (s : ParseState × SourceQuery) (r : SourceQuery) → run begun ks ≡ Some s → IsQuery ks r → finish s.0 s.1 ≡ Some r
at_query ks s r e h = ends s.0 s.1 r (subst (λ x. GoesTo x [] r) e (forth_run ks [] begun r (query_reads (ks ++ []) r (subst (λ x. IsQuery x r) (sym (append-nil ks)) h))))

query_runs : (ks : List Symbol) (r : SourceQuery) → IsQuery ks r → (s : ParseState × SourceQuery) × (run begun ks ≡ Some s)
query_runs ks r h = go (run begun ks) refl
  where
    go : (o : Option (ParseState × SourceQuery)) → run begun ks ≡ o → (s : ParseState × SourceQuery) × (run begun ks ≡ Some s)
    go None e = absurd (stuck_begins ks e ([], r, subst (λ x. IsQuery x r) (sym (append-nil ks)) h))
    go (Some s) e = (s, e)

-- what is given is one
pub some_same : (q r : SourceQuery) → ◌≡◌ {A = Option SourceQuery} (Some q) (Some r) → q ≡ r
some_same q r e = cc

-- symbols are one query at most
pub one_query : (ks : List Symbol) (q r : SourceQuery) → IsQuery ks q → IsQuery ks r → q ≡ r
one_query ks q r h g =
    let s = query_runs ks q h in
    some_same q r (sym (at_query ks s.0 q s.1 h) ∙ at_query ks s.0 r s.1 g)
