-- What was read of terminals.
use Rattle.std.proofs.Common.{◌≡◌, ℕ, Bool, true, false, List, [], ◌∷◌, ◌++◌, subst, sym, ap, ◌∙◌, refl, append_assoc, ◌&&◌}
use Rattle.std.specs.List.{flat_map, list_all}
use Rattle.std.proofs.lemmas.List.{append-nil}
use Rattle.mast_grammar.specs.declared.terminal.Terminal.{Terminal}
use Rattle.mast_grammar.specs.declared.terminal.Terminal.TheVariants as terminal
use Rattle.mast_sparsql.specs.declared.tree.Triples.{Triples}
use Rattle.mast_sparsql.specs.declared.tree.Block.{Block}
use Rattle.mast_sparsql.specs.declared.tree.Table.{Table}
use Rattle.mast_sparsql.specs.declared.tree.Entry.{Entry}
use Rattle.mast_sparsql.specs.Terminals.{same}
use Rattle.mast_sparsql.specs.Trees.{Shape, word, token, optional, AreShapes, IsShape, separated, following, some, is_name, braced, triples_written, triples_stand, block_written, block_stands, group_written, group_stands, variable_written, table_written, table_stands, entry_written}
use Rattle.mast_sparsql.specs.inside.Cursors.{Left, Goes, Reads, ReadsEach, ReadsList, ReadsMany, Steps, Takes, starts}

-- one token is written as a shape
pub reads_one : (old new : Left) (n : ℕ) (k : Terminal) (s : Shape) → Steps old new n k → IsShape n k s → Reads old new (s ∷ [])
reads_one old new n k s steps is more goes =
    subst (λ ks. AreShapes old.at ks (s ∷ more)) (sym steps.rest)
    (subst (λ m. IsShape m k s) steps.number is, subst (λ m. AreShapes m new.rest more) steps.next goes)

-- a token with a test
pub reads_token : (old new : Left) (n : ℕ) (k : Terminal) (test : Terminal → Bool) → Steps old new n k → test k ≡ true → Reads old new (token n test ∷ [])
reads_token old new n k test steps is = reads_one old new n k (token n test) steps (refl, is)

-- a word
pub reads_word : (old new : Left) (n : ℕ) (k w : Terminal) → Steps old new n k → same w k ≡ true → Reads old new (word w ∷ [])
reads_word old new n k w steps is = reads_one old new n k (word w) steps is

-- a word that was seen
pub reads_seen : (old new : Left) (n : ℕ) (k w : Terminal) → Steps old new n k → starts w old.rest ≡ true → Reads old new (word w ∷ [])
reads_seen old new n k w steps is = reads_word old new n k w steps (subst (λ ks. starts w ks ≡ true) steps.rest is)

-- nothing
pub reads_none : (old new : Left) → new ≡ old → Reads old new []
reads_none old new same more goes = subst (λ left. Goes left more) same goes

-- one after the other
pub reads_both : (old mid new : Left) (a b : List Shape) → Reads old mid a → Reads mid new b → Reads old new (a ++ b)
reads_both old mid new a b first second more goes =
    subst (λ ss. Goes old ss) (sym (append_assoc a b more)) (first (b ++ more) (second more goes))

-- and nothing more
pub reads_on : (old mid new : Left) (a : List Shape) → Reads old mid a → new ≡ mid → Reads old new a
reads_on old mid new a first same more goes = first more (subst (λ left. Goes left more) same goes)

following_more : {X : Type 0} (k : Terminal) (f : X → List Shape) (xs : List X) (x : X) → following k f (xs ++ (x ∷ [])) ≡ following k f xs ++ (word k ∷ f x)
following_more k f [] x = ap (λ ss. word k ∷ ss) (append-nil (f x))
following_more k f (y ∷ ys) x =
    ap (λ ss. word k ∷ (f y ++ ss)) (following_more k f ys x) ∙ ap (λ ss. word k ∷ ss) (sym (append_assoc (f y) (following k f ys) (word k ∷ f x)))

-- a list with one element more
pub separated_more : {X : Type 0} (k : Terminal) (f : X → List Shape) (xs : List X) (x : X) → some xs ≡ true → separated k f (xs ++ (x ∷ [])) ≡ separated k f xs ++ (word k ∷ f x)
separated_more k f [] x h = absurd (let e : false ≡ true = h in cc)
separated_more k f (y ∷ ys) x h = ap (λ ss. f y ++ ss) (following_more k f ys x) ∙ sym (append_assoc (f y) (following k f ys) (word k ∷ f x))

some_more : {X : Type 0} (xs : List X) (x : X) → some (xs ++ (x ∷ [])) ≡ true
some_more [] x = refl
some_more (y ∷ ys) x = refl

-- its first element
pub list_first : {X : Type 0} (old new : Left) (k : Terminal) (f : X → List Shape) (before xs : List X) (x : X)
    → before ≡ [] → xs ≡ before ++ (x ∷ []) → Reads old new (f x) → ReadsList old new k f xs
list_first old new k f before xs x e is reads =
    let one : xs ≡ x ∷ [] = is ∙ ap (λ l. l ++ (x ∷ [])) e in
    record {
      elements = subst (λ l. some l ≡ true) (sym one) refl;
      reads = subst (λ l. Reads old new (separated k f l)) (sym one) (subst (λ ss. Reads old new ss) (sym (append-nil (f x))) reads);
    }

-- one more element, behind the word
pub list_next : {X : Type 0} (old mid then new : Left) (k : Terminal) (f : X → List Shape) (xs ys : List X) (x : X)
    → ReadsList old mid k f xs → Reads mid then (word k ∷ []) → Reads then new (f x) → ys ≡ xs ++ (x ∷ []) → ReadsList old new k f ys
list_next old mid then new k f xs ys x before comma reads is =
    record {
      elements = subst (λ l. some l ≡ true) (sym is) (some_more xs x);
      reads = subst (λ l. Reads old new (separated k f l)) (sym is)
          (subst (λ ss. Reads old new ss) (sym (separated_more k f xs x before.elements))
          (reads_both old mid new (separated k f xs) (word k ∷ f x) before.reads (reads_both mid then new (word k ∷ []) (f x) comma reads)));
    }

-- no more element
pub list_end : {X : Type 0} (old mid new : Left) (k : Terminal) (f : X → List Shape) (xs : List X) → ReadsList old mid k f xs → new ≡ mid → ReadsList old new k f xs
list_end old mid new k f xs before same =
    record { elements = before.elements; reads = reads_on old mid new (separated k f xs) before.reads same }

both_hold : (a b c : Bool) → (a && b) ≡ true → (b ≡ true → c ≡ true) → (a && c) ≡ true
both_hold true b c all then = then all
both_hold false b c all then = all

all_more : {X : Type 0} (test : X → Bool) (xs : List X) (x : X) → list_all test xs ≡ true → test x ≡ true → list_all test (xs ++ (x ∷ [])) ≡ true
all_more test [] x all is = subst (λ b. (b && true) ≡ true) (sym is) refl
all_more test (y ∷ ys) x all is = both_hold (test y) (list_all test ys) (list_all test (ys ++ (x ∷ []))) all (λ h. all_more test ys x h is)

-- the first element, with its test
pub each_first : {X : Type 0} (old new : Left) (k : Terminal) (f : X → List Shape) (test : X → Bool) (before xs : List X) (x : X)
    → before ≡ [] → xs ≡ before ++ (x ∷ []) → Reads old new (f x) → test x ≡ true → ReadsEach old new k f test xs
each_first old new k f test before xs x e is reads has =
    let one : xs ≡ x ∷ [] = is ∙ ap (λ l. l ++ (x ∷ [])) e in
    record {
      list = list_first old new k f before xs x e is reads;
      each = subst (λ l. list_all test l ≡ true) (sym one) (subst (λ b. (b && true) ≡ true) (sym has) refl);
    }

-- one more element with its test, behind the word
pub each_next : {X : Type 0} (old mid then new : Left) (k : Terminal) (f : X → List Shape) (test : X → Bool) (xs ys : List X) (x : X)
    → ReadsEach old mid k f test xs → Reads mid then (word k ∷ []) → Reads then new (f x) → test x ≡ true → ys ≡ xs ++ (x ∷ [])
    → ReadsEach old new k f test ys
each_next old mid then new k f test xs ys x before comma reads has is =
    record {
      list = list_next old mid then new k f xs ys x before.list comma reads is;
      each = subst (λ l. list_all test l ≡ true) (sym is) (all_more test xs x before.each has);
    }

-- no more element
pub each_end : {X : Type 0} (old mid new : Left) (k : Terminal) (f : X → List Shape) (test : X → Bool) (xs : List X)
    → ReadsEach old mid k f test xs → new ≡ mid → ReadsEach old new k f test xs
each_end old mid new k f test xs before same =
    record { list = list_end old mid new k f xs before.list same; each = before.each }

flat_more : {X : Type 0} (f : X → List Shape) (xs : List X) (x : X) → flat_map f (xs ++ (x ∷ [])) ≡ flat_map f xs ++ f x
flat_more f [] x = append-nil (f x)
flat_more f (y ∷ ys) x = ap (λ ss. f y ++ ss) (flat_more f ys x) ∙ sym (append_assoc (f y) (flat_map f ys) (f x))

-- one more, with nothing between
pub all_next : {X : Type 0} (old mid new : Left) (f : X → List Shape) (xs ys : List X) (x : X)
    → Reads old mid (flat_map f xs) → Reads mid new (f x) → ys ≡ xs ++ (x ∷ []) → Reads old new (flat_map f ys)
all_next old mid new f xs ys x before reads is =
    subst (λ l. Reads old new (flat_map f l)) (sym is) (subst (λ ss. Reads old new ss) (sym (flat_more f xs x))
    (reads_both old mid new (flat_map f xs) (f x) before reads))

-- none yet
pub all_none : {X : Type 0} (old new : Left) (f : X → List Shape) (xs : List X) → xs ≡ [] → new ≡ old → Reads old new (flat_map f xs)
all_none old new f xs e same = subst (λ l. Reads old new (flat_map f l)) (sym e) (reads_none old new same)

-- the first
pub many_first : {X : Type 0} (old new : Left) (f : X → List Shape) (before xs : List X) (x : X)
    → before ≡ [] → xs ≡ before ++ (x ∷ []) → Reads old new (f x) → ReadsMany old new f xs
many_first old new f before xs x e is reads =
    record {
      elements = subst (λ l. some l ≡ true) (sym is) (some_more before x);
      reads = all_next old old new f before xs x (all_none old old f before e refl) reads is;
    }

-- one more
pub many_next : {X : Type 0} (old mid new : Left) (f : X → List Shape) (xs ys : List X) (x : X)
    → ReadsMany old mid f xs → Reads mid new (f x) → ys ≡ xs ++ (x ∷ []) → ReadsMany old new f ys
many_next old mid new f xs ys x before reads is =
    record {
      elements = subst (λ l. some l ≡ true) (sym is) (some_more xs x);
      reads = all_next old mid new f xs ys x before.reads reads is;
    }

-- a word, or nothing
pub reads_optional : (took : Bool) (old new : Left) (k : Terminal) → Takes took old new (word k ∷ []) → Reads old new (optional took k)
reads_optional true old new k takes = takes
reads_optional false old new k takes = reads_none old new takes

both_true : (a b : Bool) → a ≡ true → b ≡ true → (a && b) ≡ true
both_true true b h k = k
both_true false b h k = h

-- a list whose elements have the test, with elements
pub each_stands : {X : Type 0} (old new : Left) (k : Terminal) (f : X → List Shape) (test : X → Bool) (xs : List X)
    → ReadsEach old new k f test xs → (some xs && list_all test xs) ≡ true
each_stands old new k f test xs each = both_true (some xs) (list_all test xs) each.list.elements each.each

-- a token before a list
pub reads_before : (old mid new : Left) (s : Shape) (ss : List Shape) → Reads old mid (s ∷ []) → Reads mid new ss → Reads old new (s ∷ ss)
reads_before old mid new s ss first second = reads_both old mid new (s ∷ []) ss first second

-- two lists behind a token
pub reads_around : (old one two new : Left) (s : Shape) (a b : List Shape)
    → Reads old one (s ∷ []) → Reads one two a → Reads two new b → Reads old new (s ∷ (a ++ b))
reads_around old one two new s a b first second third = reads_before old one new s (a ++ b) first (reads_both one two new a b second third)

-- triples without a dot behind them
pub block_ends : (old new : Left) (dot : Bool) (ts : List Triples)
    → ReadsEach old new terminal.Dot triples_written triples_stand ts → dot ≡ false
    → Reads old new (block_written (record { triples = ts; dot = dot }))
block_ends old new dot ts each none =
    subst (λ d. Reads old new (block_written (record { triples = ts; dot = d }))) (sym none)
    (reads_both old new new (separated terminal.Dot triples_written ts) [] each.list.reads (reads_none new new refl))

-- triples with a dot behind them
pub block_dots : (old mid new : Left) (dot : Bool) (ts : List Triples)
    → ReadsEach old mid terminal.Dot triples_written triples_stand ts → Reads mid new (word terminal.Dot ∷ []) → dot ≡ true
    → Reads old new (block_written (record { triples = ts; dot = dot }))
block_dots old mid new dot ts each reads one =
    subst (λ d. Reads old new (block_written (record { triples = ts; dot = d }))) (sym one)
    (reads_both old mid new (separated terminal.Dot triples_written ts) (word terminal.Dot ∷ []) each.list.reads reads)

-- the one block of a group
pub group_one : (old one two new : Left) (b : Block) (before bs : List Block)
    → Reads old one (word terminal.OpenBrace ∷ []) → Reads one two (block_written b) → Reads two new (word terminal.CloseBrace ∷ [])
    → before ≡ [] → bs ≡ before ++ (b ∷ []) → Reads old new (group_written false bs)
group_one old one two new b before bs first second third e is =
    all_next old old new braced before bs b (all_none old old braced before e refl)
    (reads_around old one two new (word terminal.OpenBrace) (block_written b) (word terminal.CloseBrace ∷ []) first second third) is

-- it is one
pub group_single : (b : Block) (before bs : List Block) → block_stands b ≡ true → before ≡ [] → bs ≡ before ++ (b ∷ []) → group_stands false bs ≡ true
group_single b before bs has e is =
    subst (λ l. group_stands false l ≡ true) (sym (is ∙ ap (λ l. l ++ (b ∷ [])) e)) (both_true (block_stands b) true has refl)

-- a table
pub reads_table : (old one two three four new : Left) (t : Table)
    → Reads old one (word terminal.Select ∷ []) → Reads one two (optional t.distinct terminal.Distinct)
    → ReadsMany two three variable_written t.variables → Reads three four (optional t.where_word terminal.Where)
    → Reads four new (group_written t.braces t.blocks) → Reads old new (table_written t)
reads_table old one two three four new t a b c d e =
    let group = optional t.where_word terminal.Where ++ group_written t.braces t.blocks in
    let inside = flat_map variable_written t.variables ++ group in
    reads_around old one two new (word terminal.Select) (optional t.distinct terminal.Distinct) inside a b
    (reads_both two three new (flat_map variable_written t.variables) group c.reads
    (reads_both three four new (optional t.where_word terminal.Where) (group_written t.braces t.blocks) d e))

-- it has Vars and blocks
pub table_full : (old new : Left) (t : Table) → ReadsMany old new variable_written t.variables → group_stands t.braces t.blocks ≡ true → table_stands t ≡ true
table_full old new t many group = both_true (some t.variables) (group_stands t.braces t.blocks) many.elements group

-- an entry
pub reads_entry : (old one two three four five new : Left) (e : Entry)
    → Reads old one (word terminal.Sparqltable ∷ []) → Reads one two (word terminal.Open ∷ []) → Reads two three (table_written e.table)
    → Reads three four (word terminal.Close ∷ []) → Reads four five (optional e.as_word terminal.As) → Reads five new (token e.alias is_name ∷ [])
    → Reads old new (entry_written e)
reads_entry old one two three four five new e a b c d as_read f =
    let alias = optional e.as_word terminal.As ++ (token e.alias is_name ∷ []) in
    reads_before old one new (word terminal.Sparqltable) (word terminal.Open ∷ (table_written e.table ++ (word terminal.Close ∷ alias))) a
    (reads_around one two three new (word terminal.Open) (table_written e.table) (word terminal.Close ∷ alias) b c
    (reads_around three four five new (word terminal.Close) (optional e.as_word terminal.As) (token e.alias is_name ∷ []) d as_read f))

-- what a block is read by
pub ruleset block_steps = (each_first, each_next, each_stands, block_ends, block_dots)

-- what a group is read by
pub ruleset group_steps = (reads_around, each_stands, group_one, group_single)
