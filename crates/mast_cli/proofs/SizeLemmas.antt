-- A document has fewer tables, columns of a table and heads than tokens.
use Rattle.std.proofs.Common.{◌≡◌, ◌⊎◌, inl, inr, ◌+◌, ◌≤◌, ◌<◌, ℕ, suc, Bool, true, false, List, [], ◌∷◌, ◌++◌, length, map, subst, sym, ap, ◌∙◌, refl, arith}
use Rattle.std.specs.Prelude.{Option, Some, None, Result, Ok, Err, if◌then◌else◌, codes}
use Rattle.std.proofs.lemmas.List.{length-append, length-map}
use Rattle.std.specs.List.{AllByRecursion}
use Rattle.std.specs.Str.{bytes_eq}
use Rattle.mast_terms.specs.Vocabularies.{Lists}
use Rattle.mast_sql.specs.declared.query.SourceQuery.{SourceQuery}
use Rattle.mast_tables.specs.declared.declaration.Column.{Column}
use Rattle.mast_tables.specs.declared.declaration.TableDecl.{TableDecl}
use Rattle.mast_tree.specs.declared.item.Item.{Item, out-Item}
use Rattle.mast_tree.specs.declared.item.Item.TheOpen.{Item-F}
use Rattle.mast_tree.specs.declared.item.Item.TheViews.{out-roll-Item}
use Rattle.mast_tree.specs.declared.item.Item.TheVariants as item
use Rattle.mast_tree.specs.declared.shape.ShapeBreach.{ShapeBreach}
use Rattle.mast_tree.specs.declared.token.Token.{Token}
use Rattle.mast_tree.specs.declared.token.TokenKind.TheVariants as token
use Rattle.mast_tree.specs.Grammar.{Items, done, name, iri, str, str_lang, str_name, str_iri, bind, node, kinds_of}
use Rattle.mast_tree.specs.MainNode.{Prefixes, main_here, main_node}
use Rattle.mast_tree.specs.Said.{Said, said_in, said}
use Rattle.mast_tree.specs.Said as says
use Rattle.mast_tree.specs.Seen.{Document}
use Rattle.mast_tree.specs.Words.{word_of}
use Rattle.mast_tree.specs.Trees.{items_from, IsTree}
use Rattle.mast_mapping.specs.declared.map.Head.{Head}
use Rattle.mast_mapping.specs.declared.map.Map.{Map}
use Rattle.mast_mapping.specs.declared.map.Mappings.{Mappings}
use Rattle.mast_mapping.specs.Declarations.{column_of, columns_of, table_of_parts, table_in, with_column, new_name, string_of}
use Rattle.mast_mapping.specs.Documents.{Entry, entry_of, EntrySays, ItemsSay, HasMappings, main_word}
use Rattle.mast_mapping.specs.Documents as entry
use Rattle.mast_mapping.specs.Heads.{Scope, AreHeads}
use Rattle.mast_mapping.specs.Maps.{scope_of, IsMap}
use Rattle.mast_mapping.specs.OverTables.{column_names, table_names}
use Rattle.mast_mapping.specs.Readings.{Texts}
use Rattle.mast_mapping.specs.Split.{split_heads, split_maps}
use Rattle.mast_canon.specs.Conditions.{HasNumbers, TablesHaveNumbers, places}
use Rattle.mast_constr.specs.Whole.{HasConstraints}
use Rattle.mast_tbox.specs.declared.constraint.Constraints.{Constraints}
use Rattle.mast_tbox.specs.Lists.{AreEach}

-- split mappings

length-split_heads : (query : SourceQuery) (heads : List Head) → length (split_heads query heads) ≡ length heads
length-split_heads query [] = refl
length-split_heads query (head ∷ heads) = ap suc (length-split_heads query heads)

-- those of the first map and those of the others
length-split_maps : (map : Map) (maps : List Map) → length (split_maps (map ∷ maps)) ≡ length map.heads + length (split_maps maps)
length-split_maps map maps =
    length-append (split_heads map.query map.heads) (split_maps maps)
    ∙ ap (λ n. n + length (split_maps maps)) (length-split_heads map.query map.heads)

-- the parts of a document

-- how many items stand inside a node
abbrev inside : Said → ℕ
inside (says.name word at) = 0
inside (says.iri word at) = 0
inside (says.text chars at) = 0
inside (says.tagged at) = 0
inside (says.binding at) = 0
inside (says.node word at items) = length items

-- how many items there are, and how many stand inside them, but no deeper
abbrev count : Document → List Item → ℕ
count doc [] = 0
count doc (item ∷ items) = suc (inside (said doc item) + count doc items)

some_same : {A : Type 0} (x y : A) → ◌≡◌ {A = Option A} (Some x) (Some y) → x ≡ y
some_same x y e = cc

ok_same : {A : Type 0} (x y : A) → ◌≡◌ {A = Result A ShapeBreach} (Ok x) (Ok y) → x ≡ y
ok_same x y e = cc

one_column : (before : List Column) (found : Result Column ShapeBreach) (later : List Column → Result (List Column) ShapeBreach) (columns : List Column)
    → with_column before found later ≡ Ok columns → (column : Column) × (later (before ++ column ∷ []) ≡ Ok columns)
one_column before (Err breach) later columns h = absurd (cc)
one_column before (Ok column) later columns h = (column, h)

columns_counted : (doc : Document) (before : List Column) (items : List Item) (columns : List Column) → columns_of doc before items ≡ Ok columns → length columns ≡ length before + length items
columns_counted doc before [] columns h = let e = ap length (ok_same before columns h) in omega (e, arith)
columns_counted doc before (item ∷ items) columns h =
    let one = one_column before (column_of doc (column_names before) (said doc item)) (λ more. columns_of doc more items) columns h in
    let more = columns_counted doc (before ++ one.0 ∷ []) items columns one.1 in
    let longer = length-append before (one.0 ∷ []) in
    omega (more, longer, arith)

columns_part : (word file : Result (List ℕ) ShapeBreach) (columns : Result (List Column) ShapeBreach) (table : TableDecl) → table_of_parts word file columns ≡ Ok table → columns ≡ Ok table.columns
columns_part (Err breach) file columns table h = absurd (cc)
columns_part (Ok word) (Err breach) columns table h = absurd (cc)
columns_part (Ok word) (Ok file) (Err breach) table h = absurd (cc)
columns_part (Ok word) (Ok file) (Ok columns) table h = ap (λ t. Ok t.columns) (ok_same (record { name = word; file = file; columns = columns }) table h)

table_counted : (doc : Document) (before : List (List ℕ)) (at : ℕ) (items : List Item) (table : TableDecl) → table_in doc before at items ≡ Ok table → length table.columns ≤ length items
table_counted doc before at [] table h = absurd (cc)
table_counted doc before at (first ∷ []) table h = absurd (cc)
table_counted doc before at (first ∷ (file ∷ [])) table h = absurd (cc)
table_counted doc before at (first ∷ (file ∷ (column ∷ columns))) table h =
    let part = columns_part (new_name before (said doc first)) (string_of (said doc file)) (columns_of doc [] (column ∷ columns)) table h in
    let many = columns_counted doc [] (column ∷ columns) table.columns part in
    omega (many, arith)

heads_counted : (lists : Lists) (scope : Scope) (items : List Item) (heads : List Head) → AreHeads lists scope items heads → length heads ≡ length items
heads_counted lists scope [] [] h = refl
heads_counted lists scope [] (head ∷ heads) h = absurd h
heads_counted lists scope (item ∷ items) [] h = absurd h
heads_counted lists scope (item ∷ items) (head ∷ heads) h = ap suc (heads_counted lists scope items heads h.1)

-- few tables, few heads, and few columns of each table
record AreFew (before tables : List TableDecl) (maps : List Map) (most : ℕ) : Type 0 where
  pub of_tables : length tables ≤ length before + most
  pub of_heads : length (split_maps maps) ≤ most
  pub of_columns : (n : ℕ) → most ≤ n → AllByRecursion (λ table. length table.columns ≤ n) before → AllByRecursion (λ table. length table.columns ≤ n) tables

all_more : (n : ℕ) (tables : List TableDecl) (one : TableDecl) → length one.columns ≤ n → AllByRecursion (λ table. length table.columns ≤ n) tables → AllByRecursion (λ table. length table.columns ≤ n) (tables ++ one ∷ [])
all_more n [] one few all = (few, tt)
all_more n (table ∷ tables) one few all = (all.0, all_more n tables one few all.1)

module _ (lists : Lists) (texts : Texts) (doc : Document) (prefixes : Prefixes) where
  map_counted : (tables : List TableDecl) (items : List Item) (m : Map) → IsMap lists texts doc prefixes tables items m → length m.heads ≤ length items
  map_counted tables [] m h = absurd h
  map_counted tables (source ∷ []) m h = absurd h
  map_counted tables (source ∷ (first ∷ heads)) m h =
      let same = heads_counted lists (scope_of texts doc prefixes m.query) (first ∷ heads) m.heads h.2 in
      omega (same, arith)

  -- an item is a table or a map, with no more columns or heads than items inside it
  abbrev Counted : List TableDecl → ℕ → List Map → (List TableDecl → List Map → Type 0) → Type 0
  Counted before most maps Later =
      ((table : TableDecl) × (length table.columns ≤ most) × Later (before ++ table ∷ []) maps)
      ⊎ ((m : Map) × (rest : List Map) × (maps ≡ m ∷ rest) × (length m.heads ≤ most) × Later before rest)

  node_counted : (before : List TableDecl) (at : ℕ) (items : List Item) (is_table is_map : Bool) (maps : List Map) (Later : List TableDecl → List Map → Type 0)
      → EntrySays lists texts doc prefixes before (if is_table then entry.table at items else if is_map then entry.map at items else entry.other at) maps Later
      → Counted before (length items) maps Later
  node_counted before at items true is_map maps Later h = inl (h.0, table_counted doc (table_names before) at items h.0 h.1, h.2)
  node_counted before at items false true [] Later h = absurd h
  node_counted before at items false true (m ∷ rest) Later h = inr (m, rest, refl, map_counted before items m h.0, h.1)
  node_counted before at items false false maps Later h = absurd h

  entry_counted : (before : List TableDecl) (s : Said) (maps : List Map) (Later : List TableDecl → List Map → Type 0)
      → EntrySays lists texts doc prefixes before (entry_of s) maps Later → Counted before (inside s) maps Later
  entry_counted before (says.name word at) maps Later h = absurd h
  entry_counted before (says.iri word at) maps Later h = absurd h
  entry_counted before (says.text chars at) maps Later h = absurd h
  entry_counted before (says.tagged at) maps Later h = absurd h
  entry_counted before (says.binding at) maps Later h = absurd h
  entry_counted before (says.node word at items) maps Later h =
      node_counted before at items (bytes_eq word (codes "Table")) (bytes_eq word (codes "Map")) maps Later h

  few_more : (before tables : List TableDecl) (maps : List Map) (most later : ℕ) → Counted before most maps (λ more rest. AreFew more tables rest later) → AreFew before tables maps (suc (most + later))
  few_more before tables maps most later (inl h) = record {
    of_tables = let few = h.2.of_tables in let longer = length-append before (h.0 ∷ []) in omega (few, longer, arith);
    of_heads = let few = h.2.of_heads in omega (few, arith);
    of_columns = λ n within all. h.2.of_columns n (omega (within, arith)) (all_more n before h.0 (let here = h.1 in omega (here, within, arith)) all);
  }
  few_more before tables maps most later (inr h) = record {
    of_tables = let few = h.4.of_tables in omega (few, arith);
    of_heads =
        let few = h.4.of_heads in
        let here = h.3 in
        let whole = ap (λ ms. length (split_maps ms)) h.2 ∙ length-split_maps h.0 h.1 in
        omega (few, here, whole, arith);
    of_columns = λ n within all. h.4.of_columns n (omega (within, arith)) all;
  }

  counted_with : (before : List TableDecl) (most : ℕ) (maps : List Map) (Later Goal : List TableDecl → List Map → Type 0) → ((more : List TableDecl) (rest : List Map) → Later more rest → Goal more rest)
      → Counted before most maps Later → Counted before most maps Goal
  counted_with before most maps Later Goal later (inl h) = inl (h.0, h.1, later (before ++ h.0 ∷ []) maps h.2)
  counted_with before most maps Later Goal later (inr h) = inr (h.0, h.1, h.2, h.3, later before h.1 h.4)

  items_counted : (before : List TableDecl) (items : List Item) (tables : List TableDecl) (maps : List Map) → ItemsSay lists texts doc prefixes before items tables maps → AreFew before tables maps (count doc items)
  items_counted before [] tables [] h = record {
    of_tables = let same = ap length h in omega (same, arith);
    of_heads = omega arith;
    of_columns = λ n within all. subst (AllByRecursion (λ table. length table.columns ≤ n)) (sym h) all;
  }
  items_counted before [] tables (m ∷ maps) h = absurd h
  items_counted before (item ∷ items) tables maps h =
      few_more before tables maps (inside (said doc item)) (count doc items)
      (counted_with before (inside (said doc item)) maps (λ more rest. ItemsSay lists texts doc prefixes more items tables rest) (λ more rest. AreFew more tables rest (count doc items))
      (λ more rest k. items_counted more items tables rest k)
      (entry_counted before (said doc item) maps (λ more rest. ItemsSay lists texts doc prefixes more items tables rest) h))

-- the items of a tree

out_leaf : (n : ℕ) → out-Item (item.Leaf n) ≡ Item-F.Leaf n
out_leaf n = ap out-Item (sym (item.rolls-Leaf n)) ∙ out-roll-Item (Item-F.Leaf n)

out_iri : (n : ℕ) → out-Item (item.Iri n) ≡ Item-F.Iri n
out_iri n = ap out-Item (sym (item.rolls-Iri n)) ∙ out-roll-Item (Item-F.Iri n)

out_str : (n : ℕ) (tag : Option ℕ) → out-Item (item.Str n tag) ≡ Item-F.Str n tag
out_str n tag = ap out-Item (sym (item.rolls-Str n tag)) ∙ out-roll-Item (Item-F.Str n tag)

out_bind : (n value : ℕ) → out-Item (item.Bind n value) ≡ Item-F.Bind n value
out_bind n value = ap out-Item (sym (item.rolls-Bind n value)) ∙ out-roll-Item (Item-F.Bind n value)

out_node : (n : ℕ) (items : List Item) → out-Item (item.Node n items) ≡ Item-F.Node n items
out_node n items = ap out-Item (sym (item.rolls-Node n items)) ∙ out-roll-Item (Item-F.Node n items)

more_counted : (doc : Document) (items : List Item) → length items ≤ count doc items
more_counted doc [] = omega arith
more_counted doc (item ∷ items) = let more = more_counted doc items in omega (more, arith)

node_tokens : (inner more : Items) → length (kinds_of (node inner more)) ≡ length (kinds_of inner) + length (kinds_of more) + 3
node_tokens inner more = let both = length-append (kinds_of inner) (token.Close ∷ kinds_of more) in omega (both, arith)

module _ (doc : Document) where
  one_more : (it : Item) (layer : Item-F Item) (rest : List Item) (few many : ℕ) → out-Item it ≡ layer → count doc rest ≤ few → suc (inside (said_in doc.source doc.tokens layer) + few) ≤ many → count doc (it ∷ rest) ≤ many
  one_more it layer rest few many is less within =
      let here = ap (λ l. inside (said_in doc.source doc.tokens l)) is in
      omega (here, less, within, arith)

  -- items are no more than their tokens
  count_few : (n : ℕ) (tree : Items) → count doc (items_from n tree) ≤ length (kinds_of tree)
  count_few n done = omega arith
  count_few n (name more) = one_more (item.Leaf n) (Item-F.Leaf n) (items_from (n + 1) more) (length (kinds_of more)) _ (out_leaf n) (count_few (n + 1) more) (omega arith)
  count_few n (iri more) = one_more (item.Iri n) (Item-F.Iri n) (items_from (n + 1) more) (length (kinds_of more)) _ (out_iri n) (count_few (n + 1) more) (omega arith)
  count_few n (str more) = one_more (item.Str n None) (Item-F.Str n None) (items_from (n + 1) more) (length (kinds_of more)) _ (out_str n None) (count_few (n + 1) more) (omega arith)
  count_few n (str_lang more) =
      one_more (item.Str n (Some (n + 1))) (Item-F.Str n (Some (n + 1))) (items_from (n + 2) more) (length (kinds_of more)) _ (out_str n (Some (n + 1))) (count_few (n + 2) more) (omega arith)
  count_few n (str_name more) =
      one_more (item.Str n (Some (n + 2))) (Item-F.Str n (Some (n + 2))) (items_from (n + 3) more) (length (kinds_of more)) _ (out_str n (Some (n + 2))) (count_few (n + 3) more) (omega arith)
  count_few n (str_iri more) =
      one_more (item.Str n (Some (n + 2))) (Item-F.Str n (Some (n + 2))) (items_from (n + 3) more) (length (kinds_of more)) _ (out_str n (Some (n + 2))) (count_few (n + 3) more) (omega arith)
  count_few n (bind more) =
      one_more (item.Bind n (n + 2)) (Item-F.Bind n (n + 2)) (items_from (n + 3) more) (length (kinds_of more)) _ (out_bind n (n + 2)) (count_few (n + 3) more) (omega arith)
  count_few n (node inner more) =
      let within = count_few (n + 2) inner in
      let fewer = more_counted doc (items_from (n + 2) inner) in
      let both = node_tokens inner more in
      one_more (item.Node n (items_from (n + 2) inner)) (Item-F.Node n (items_from (n + 2) inner)) (items_from (n + 2 + length (kinds_of inner) + 1) more) (length (kinds_of more)) _
      (out_node n (items_from (n + 2) inner)) (count_few (n + 2 + length (kinds_of inner) + 1) more) (omega (within, fewer, both, arith))

-- those inside the main node are among them
module _ (doc : Document) (word : List ℕ) (inner after : List Item) where
  chosen : (is_main : Bool) (items rest : List Item) (later : Option (List Item × List Item)) → (if is_main then Some (items, rest) else later) ≡ Some (inner, after)
      → (items ≡ inner) ⊎ (later ≡ Some (inner, after))
  chosen true items rest later h = inl (ap (λ (both : List Item × List Item). both.0) (some_same (items, rest) (inner, after) h))
  chosen false items rest later h = inr h

  -- the main node here or later
  abbrev Here : List Item → Item-F Item → Type 0
  Here rest layer = main_here word rest (main_node doc word rest) (said_in doc.source doc.tokens layer) ≡ Some (inner, after)

  of_layer : (it : Item) (layer : Item-F Item) (rest : List Item) → out-Item it ≡ layer → main_node doc word (it ∷ rest) ≡ Some (inner, after) → Here rest layer
  of_layer it layer rest is h = subst (Here rest) is h

  node_few : (n : ℕ) (within more : Items)
      → (main_node doc word (items_from (n + 2 + length (kinds_of within) + 1) more) ≡ Some (inner, after) → count doc inner ≤ length (kinds_of more))
      → (items_from (n + 2) within ≡ inner) ⊎ (main_node doc word (items_from (n + 2 + length (kinds_of within) + 1) more) ≡ Some (inner, after))
      → count doc inner ≤ length (kinds_of (node within more))
  node_few n within more later (inl e) =
      let few = subst (λ items. count doc items ≤ length (kinds_of within)) e (count_few doc (n + 2) within) in
      let both = node_tokens within more in
      omega (few, both, arith)
  node_few n within more later (inr g) =
      let few = later g in
      let both = node_tokens within more in
      omega (few, both, arith)

  main_few : (n : ℕ) (tree : Items) → main_node doc word (items_from n tree) ≡ Some (inner, after) → count doc inner ≤ length (kinds_of tree)
  main_few n done h = absurd (cc)
  main_few n (name more) h = let k = main_few (n + 1) more (of_layer (item.Leaf n) (Item-F.Leaf n) (items_from (n + 1) more) (out_leaf n) h) in omega (k, arith)
  main_few n (iri more) h = let k = main_few (n + 1) more (of_layer (item.Iri n) (Item-F.Iri n) (items_from (n + 1) more) (out_iri n) h) in omega (k, arith)
  main_few n (str more) h = let k = main_few (n + 1) more (of_layer (item.Str n None) (Item-F.Str n None) (items_from (n + 1) more) (out_str n None) h) in omega (k, arith)
  main_few n (str_lang more) h =
      let k = main_few (n + 2) more (of_layer (item.Str n (Some (n + 1))) (Item-F.Str n (Some (n + 1))) (items_from (n + 2) more) (out_str n (Some (n + 1))) h) in
      omega (k, arith)
  main_few n (str_name more) h =
      let k = main_few (n + 3) more (of_layer (item.Str n (Some (n + 2))) (Item-F.Str n (Some (n + 2))) (items_from (n + 3) more) (out_str n (Some (n + 2))) h) in
      omega (k, arith)
  main_few n (str_iri more) h =
      let k = main_few (n + 3) more (of_layer (item.Str n (Some (n + 2))) (Item-F.Str n (Some (n + 2))) (items_from (n + 3) more) (out_str n (Some (n + 2))) h) in
      omega (k, arith)
  main_few n (bind more) h =
      let k = main_few (n + 3) more (of_layer (item.Bind n (n + 2)) (Item-F.Bind n (n + 2)) (items_from (n + 3) more) (out_bind n (n + 2)) h) in
      omega (k, arith)
  main_few n (node within more) h =
      let items = items_from (n + 2) within in
      let rest = items_from (n + 2 + length (kinds_of within) + 1) more in
      node_few n within more (main_few (n + 2 + length (kinds_of within) + 1) more)
      (chosen (bytes_eq (word_of doc.source doc.tokens n) word) items rest (main_node doc word rest) (of_layer (item.Node n items) (Item-F.Node n items) rest (out_node n items) h))

all_below : (tables : List TableDecl) (n : ℕ) → n < places → AllByRecursion (λ table. length table.columns ≤ n) tables → AllByRecursion (λ table. HasNumbers table.columns) tables
all_below [] n less all = tt
all_below (table ∷ tables) n less all = (let few = all.0 in omega (few, less, arith), all_below tables n less all.1)

-- places in mappings have numbers of 32 bits, where the tokens of the document have
pub have_numbers : (doc : Document) (old : Lists) (m : Mappings) → IsTree doc.tokens doc.items → length doc.tokens < places → HasMappings doc old m
    → TablesHaveNumbers m.tables × HasNumbers (split_maps m.maps)
have_numbers doc old m is less has =
    let right = has.2 in
    let tree = is.0 in
    let main : main_node doc main_word (items_from 0 tree.0) ≡ Some (right.inside, right.after) = subst (λ items. main_node doc main_word items ≡ Some (right.inside, right.after)) tree.2 right.parts.main in
    let few = main_few doc main_word right.inside right.after 0 tree.0 main in
    let said = items_counted m.vocab has.0 doc right.prefixes [] right.inside m.tables m.maps right.gives in
    let tokens : length doc.tokens ≡ length (kinds_of tree.0) = sym (length-map doc.tokens (λ (t : Token). t.kind)) ∙ ap length tree.1 in
    let tables = said.of_tables in
    let heads = said.of_heads in
    let within : count doc right.inside < places = omega (few, tokens, less, arith) in (
      record {
        of_tables = omega (tables, within, arith);
        of_columns = all_below m.tables (count doc right.inside) within (said.of_columns (count doc right.inside) (omega arith) tt);
      },
      omega (heads, within, arith),
    )

each_long : {X Y : Type 0} (P : X → Y → Type 0) (xs : List X) (ys : List Y) → AreEach P xs ys → length ys ≡ length xs
each_long P [] [] h = refl
each_long P [] (y ∷ ys) h = absurd h
each_long P (x ∷ xs) [] h = absurd h
each_long P (x ∷ xs) (y ∷ ys) h = ap suc (each_long P xs ys h.1)

-- constraints have numbers of 32 bits, where the tokens of the document have
pub constraints_numbered : (doc : Document) (old : Lists) (cs : Constraints) → IsTree doc.tokens doc.items → length doc.tokens < places → HasConstraints doc old cs → HasNumbers cs.list
constraints_numbered doc old cs is less has =
    let right = has.2 in
    let tree = is.0 in
    let word = codes "Constraints" in
    let main : main_node doc word (items_from 0 tree.0) ≡ Some (right.inside, right.after) = subst (λ items. main_node doc word items ≡ Some (right.inside, right.after)) tree.2 right.parts.main in
    let few = main_few doc word right.inside right.after 0 tree.0 main in
    let more = more_counted doc right.inside in
    let tokens : length doc.tokens ≡ length (kinds_of tree.0) = sym (length-map doc.tokens (λ (t : Token). t.kind)) ∙ ap length tree.1 in
    let long : length cs.list ≡ length right.inside = each_long _ right.inside cs.list right.gives in
    omega (long, more, few, tokens, less, arith)
