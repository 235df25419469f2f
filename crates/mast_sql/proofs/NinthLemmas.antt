-- The ninth entry begins exactly where the parser finds it.
use Rattle.std.proofs.Common.{◌≡◌, inl, ℕ, ◌<◌, ◌==◌, true, false, List, ◌∷◌, [], ◌++◌, length, refl, ap, sym, ◌∙◌, subst, arith}
use Rattle.std.specs.Prelude.{Option, Some, None}
use Rattle.std.proofs.lemmas.List.{length-append}
use Rattle.mast_source.proofs.ByteLemmas.{is_byte}
use Rattle.mast_sql.specs.declared.symbol.Symbol.{Symbol}
use Rattle.mast_sql.specs.declared.symbol.Symbol.TheVariants.{Name}
use Rattle.mast_sql.specs.declared.query.Compare.{Compare as ACompare}
use Rattle.mast_sql.specs.declared.query.Operand.{Operand as AnOperand}
use Rattle.mast_sql.specs.declared.query.Operand.TheVariants as operand
use Rattle.mast_sql.specs.declared.query.FromEntry.{FromEntry}
use Rattle.mast_sql.specs.declared.query.SourceQuery.{SourceQuery}
use Rattle.mast_sql.specs.declared.query.TheConstants.{MOST_ENTRIES}
use Rattle.mast_sql.specs.declared.parser.ParseState.{ParseState}
use Rattle.mast_sql.specs.declared.parser.ParseState.TheVariants as state
use Rattle.mast_sql.specs.declared.parser.Side.{Side as ASide}
use Rattle.mast_sql.specs.declared.parser.Side.TheVariants.{Left, Right}
use Rattle.mast_sql.specs.inside.Parser.{with_item, with_entry, with_condition, step, is_ninth}
use Rattle.mast_sql.specs.Grammar.{bare, plain_entry, with_table, NinthAt}
use Rattle.mast_sql.proofs.ReadsLemmas.{Reads, GoesTo}
use Rattle.mast_sql.proofs.ForthLemmas.{forth}
use Rattle.mast_sql.proofs.BackLemmas.{ends}
use Rattle.mast_sql.proofs.RunLemmas.{run, begun, query_reads, reads_query, back_run, forth_run, some_same}

same_split : (xs ys ks js : List Symbol) (k j : Symbol) → xs ++ (k ∷ ks) ≡ ys ++ (j ∷ js) → length xs ≡ length ys → (xs ≡ ys) × (k ≡ j)
same_split [] [] ks js k j e l = (refl, cc)
same_split [] (y ∷ ys) ks js k j e l = absurd (omega arith)
same_split (x ∷ xs) [] ks js k j e l = absurd (omega arith)
same_split (x ∷ xs) (y ∷ ys) ks js k j e l =
    let rest : xs ++ (k ∷ ks) ≡ ys ++ (j ∷ js) = cc in
    let first : x ≡ y = cc in
    let s = same_split xs ys ks js k j rest (omega arith) in
    (ap (λ z. z ∷ xs) first ∙ ap (λ z. y ∷ z) s.0, s.1)

same_last : (xs ys : List FromEntry) (x y : FromEntry) → xs ++ x ∷ [] ≡ ys ++ y ∷ [] → (xs ≡ ys) × (x ≡ y)
same_last [] [] x y e = (refl, cc)
same_last [] (b ∷ []) x y e = absurd (cc)
same_last [] (b ∷ c ∷ ys) x y e = absurd (cc)
same_last (a ∷ []) [] x y e = absurd (cc)
same_last (a ∷ c ∷ xs) [] x y e = absurd (cc)
same_last (a ∷ xs) (b ∷ ys) x y e =
    let rest : xs ++ x ∷ [] ≡ ys ++ y ∷ [] = cc in
    let first : a ≡ b = cc in
    let s = same_last xs ys x y rest in
    (ap (λ z. z ∷ xs) first ∙ ap (λ z. b ∷ z) s.0, s.1)

-- what a place tells, where with any name the symbols end with that table
abbrev pub NamesTable : ParseState → SourceQuery → SourceQuery → Type 0
NamesTable p q w = (name : List ℕ) → Reads p q (Name name ∷ []) (with_table w name)

names_finish : (p : ParseState) (q w : SourceQuery) → NamesTable p q w → (name : List ℕ) → GoesTo (step p q (Name name)) [] (with_table w name)
names_finish p q w h name = forth p q (Name name) [] (with_table w name) (h name)

longer : (a : List ℕ) → a ≡ 0 ∷ a → ⊥
longer a e = let l = ap length e in omega arith

-- an alias is not each table
no_alias : (t : List ℕ) (q w : SourceQuery) → ((name : List ℕ) → Reads state.EntryEnd (with_entry q (record { table = t; alias = name })) [] (with_table w name)) → ⊥
no_alias t q w h =
    let name : List ℕ = 0 ∷ t in
    let e = some_same (with_entry q (record { table = t; alias = name })) (with_table w name) (ends state.EntryEnd (with_entry q (record { table = t; alias = name })) (with_table w name) (h name)) in
    let l = same_last q.from w.from (record { table = t; alias = name }) (plain_entry name) (ap (λ x. x.from) e) in
    longer t (ap (λ x. x.table) l.1)

-- nor is a column of a comparison
no_column : (left : AnOperand) (op : ACompare) (x : List ℕ → AnOperand) (q w : SourceQuery) → ((name : List ℕ) → ◌≡◌ {A = Option SourceQuery} (Some (with_condition q (record { left = left; op = op; right = x name }))) (Some (with_table w name))) → ⊥
no_column left op x q w h =
    let e : q.from ≡ w.from ++ plain_entry [] ∷ [] = ap (λ y. y.from) (some_same (with_condition q (record { left = left; op = op; right = x [] })) (with_table w []) (h [])) in
    let f : q.from ≡ w.from ++ plain_entry (0 ∷ []) ∷ [] = ap (λ y. y.from) (some_same (with_condition q (record { left = left; op = op; right = x (0 ∷ []) })) (with_table w (0 ∷ [])) (h (0 ∷ []))) in
    let l = same_last w.from w.from (plain_entry []) (plain_entry (0 ∷ [])) (sym e ∙ f) in
    longer [] (ap (λ y. y.table) l.1)

-- nothing is not something
pub nothing : (r : SourceQuery) → ◌≡◌ {A = Option SourceQuery} None (Some r) → ⊥
nothing r e = cc

eighth : (q w : SourceQuery) → length w.from ≡ MOST_ENTRIES → NamesTable state.Entry q w → length q.from ≡ MOST_ENTRIES
eighth q w h n =
    let e = some_same (with_entry q (plain_entry [])) (with_table w []) (ends (state.Table []) q (with_table w []) (names_finish state.Entry q w n [])) in
    let l = same_last q.from w.from (plain_entry []) (plain_entry []) (ap (λ x. x.from) e) in
    ap length l.0 ∙ h

column_place : (side : ASide) (alias : Option (List ℕ)) (q w : SourceQuery) → ((name : List ℕ) → Reads (state.OperandColumn side alias name) q [] (with_table w name)) → ⊥
column_place Left alias q w h = nothing (with_table w []) (ends (state.OperandColumn Left alias []) q (with_table w []) (h []))
column_place (Right l o) alias q w h = no_column l o (λ name. operand.Column alias name) q w (λ name. ends (state.OperandColumn (Right l o) alias name) q (with_table w name) (h name))

side_place : (side : ASide) (alias : Option (List ℕ)) (a : List ℕ) (q w : SourceQuery) → NamesTable (state.OperandColumn side alias a) q w → ⊥
side_place Left alias a q w h = names_finish (state.OperandColumn Left alias a) q w h []
side_place (Right l o) alias a q w h = names_finish (state.OperandColumn (Right l o) alias a) q w h []

ninth_place : (p : ParseState) (q w : SourceQuery) (name : List ℕ) → length w.from ≡ MOST_ENTRIES → NamesTable p q w → is_ninth p q (Name name) ≡ true
ninth_place state.Entry q w name l h = ap (λ n. n == 8) (eighth q w l h)
ninth_place state.Start q w name l h = absurd (names_finish state.Start q w h [])
ninth_place state.Selected q w name l h = absurd (nothing (with_table w []) (ends (state.Column None []) q (with_table w []) (names_finish state.Selected q w h [])))
ninth_place state.Item q w name l h = absurd (nothing (with_table w []) (ends (state.Column None []) q (with_table w []) (names_finish state.Item q w h [])))
ninth_place (state.Column alias a) q w name l h = absurd (names_finish (state.Column alias a) q w h [])
ninth_place (state.Dotted b) q w name l h = absurd (nothing (with_table w []) (ends (state.Column (Some b) []) q (with_table w []) (names_finish (state.Dotted b) q w h [])))
ninth_place (state.Named alias a) q w name l h = absurd (nothing (with_table w []) (ends state.ItemEnd (with_item q (record { alias = alias; column = a; output = [] })) (with_table w []) (names_finish (state.Named alias a) q w h [])))
ninth_place state.ItemEnd q w name l h = absurd (names_finish state.ItemEnd q w h [])
ninth_place (state.Table t) q w name l h = absurd (no_alias t q w (λ x. names_finish (state.Table t) q w h x))
ninth_place (state.TableAs t) q w name l h = absurd (no_alias t q w (λ x. names_finish (state.TableAs t) q w h x))
ninth_place state.EntryEnd q w name l h = absurd (names_finish state.EntryEnd q w h [])
ninth_place (state.Operand side) q w name l h = absurd (column_place side None q w (λ x. names_finish (state.Operand side) q w h x))
ninth_place (state.OperandColumn side alias a) q w name l h = absurd (side_place side alias a q w h)
ninth_place (state.OperandDotted side b) q w name l h = absurd (column_place side (Some b) q w (λ x. names_finish (state.OperandDotted side b) q w h x))
ninth_place (state.OperandDate side) q w name l h = absurd (names_finish (state.OperandDate side) q w h [])
ninth_place (state.LeftEnd x) q w name l h = absurd (names_finish (state.LeftEnd x) q w h [])
ninth_place state.ComparisonEnd q w name l h = absurd (names_finish state.ComparisonEnd q w h [])

-- where the ninth entry begins, the parser finds it
pub ninth_found : (before ks : List Symbol) (k : Symbol) (s : ParseState × SourceQuery) → run begun before ≡ Some s → NinthAt (before ++ (k ∷ ks)) (length before) → is_ninth s.0 s.1 k ≡ true
ninth_found before ks k s e n =
    let split = same_split before n.0 ks n.1 k (Name n.2) n.4 n.5 in
    subst (λ x. is_ninth s.0 s.1 x ≡ true) (sym split.1)
    (ninth_place s.0 s.1 n.3 n.2 n.6.0 (λ name. subst (λ x. GoesTo x (Name name ∷ []) (with_table n.3 name)) (ap (λ x. run begun x) (sym split.0) ∙ e) (forth_run n.0 (Name name ∷ []) begun (with_table n.3 name) (query_reads (n.0 ++ (Name name ∷ [])) (with_table n.3 name) (n.6.1 name)))))

-- and where the parser finds it, it is
pub ninth_here : (before ks : List Symbol) (p : ParseState) (k : Symbol) (q : SourceQuery) → run begun before ≡ Some (p, q) → is_ninth p q k ≡ true → NinthAt (before ++ (k ∷ ks)) (length before)
ninth_here before ks state.Entry (Name a) q e h = (before, ks, a, q, refl, refl, (eight (length q.from) h, λ other. reads_query (before ++ (Name other ∷ [])) (with_table q other) (back_run before (Name other ∷ []) begun (with_table q other) (subst (λ x. GoesTo x (Name other ∷ []) (with_table q other)) (sym e) (bare other, [], refl, inl (refl, refl))))))
  where
    eight : (n : ℕ) → (n == 8) ≡ true → n ≡ MOST_ENTRIES
    eight n g = is_byte n 8 g
ninth_here before ks state.Entry k q e h = absurd (let g : false ≡ true = h in cc)
ninth_here before ks p k q e h = absurd (let g : false ≡ true = h in cc)

-- it is one of the symbols
pub ninth_short : (ks : List Symbol) (j : ℕ) → NinthAt ks j → j < length ks
ninth_short ks j n = let l = ap length n.4 ∙ length-append n.0 (Name n.2 ∷ n.1) in let i = n.5 in omega arith
