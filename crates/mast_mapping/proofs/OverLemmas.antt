-- What a mapping document says is over its tables, and its names are in range.
use Rattle.std.proofs.Common.{◌≡◌, refl, ap, sym, ◌∙◌, subst, ℕ, Bool, true, false, true≢false, ◌||◌, List, [], ◌∷◌, ◌++◌, append_assoc}
use Rattle.std.specs.Prelude.{Option, Some, None, Result, Ok, Err, if◌then◌else◌, codes, slice_get}
use Rattle.std.specs.List.{AllByRecursion}
use Rattle.std.specs.Option.{IsSome, option_or}
use Rattle.std.specs.Str.{bytes_eq}
use Rattle.std.specs.Cmp.Lexicographic.{nat_list_eq_equiv}
use Rattle.std.proofs.lemmas.List.{append-nil, map-append}
use Rattle.std.proofs.lemmas.Option.{slice_get_within}
use Rattle.mast_terms.specs.declared.value.Kind.{Kind}
use Rattle.mast_terms.specs.declared.value.Value.{Value}
use Rattle.mast_terms.specs.declared.name.NameKind.{NameKind}
use Rattle.mast_terms.specs.declared.name.NameKind.TheVariants as kind
use Rattle.mast_terms.specs.Vocabularies.{Lists, iris, EachOnce, stands}
use Rattle.mast_sql.specs.declared.query.FromEntry.{FromEntry}
use Rattle.mast_sql.specs.declared.query.SelectItem.{SelectItem}
use Rattle.mast_sql.specs.declared.query.SourceQuery.{SourceQuery}
use Rattle.mast_tables.specs.declared.declaration.Column.{Column}
use Rattle.mast_tables.specs.declared.declaration.TableDecl.{TableDecl}
use Rattle.mast_tree.specs.declared.item.Item.{Item}
use Rattle.mast_tree.specs.declared.shape.ShapeBreach.{ShapeBreach}
use Rattle.mast_tree.specs.declared.shape.ShapeKind.{ShapeKind}
use Rattle.mast_tree.specs.declared.shape.ShapeKind.TheVariants as shape
use Rattle.mast_tree.specs.Constants.{identifier_of, constant_of}
use Rattle.mast_tree.specs.MainNode.{Prefixes}
use Rattle.mast_tree.specs.Prefixes.{shape_at}
use Rattle.mast_tree.specs.Said.{Said, name, iri, text, tagged, binding, node, line, said}
use Rattle.mast_tree.specs.Seen.{Document}
use Rattle.mast_mapping.specs.declared.map.Head.{Head}
use Rattle.mast_mapping.specs.declared.map.Map.{Map}
use Rattle.mast_mapping.specs.declared.map.Slot.{Slot}
use Rattle.mast_mapping.specs.declared.map.Slot.TheVariants as slot
use Rattle.mast_mapping.specs.declared.map.Template.{Template}
use Rattle.mast_mapping.specs.Columns.{Meaning, meaning_of, item_named, meaning_of_item, meaning_of_output}
use Rattle.mast_mapping.specs.Declarations.{new_among, new_name, kind_of, null_of, column_of_parts, column_in, column_of, with_column, columns_of, table_of_parts, table_in, string_of}
use Rattle.mast_mapping.specs.Documents.{Entry, table, map, other, entry_of, EntrySays, ItemsSay}
use Rattle.mast_mapping.specs.Heads.{Scope, output_among, constant_slot, slot_of, with_slot, slots_of, object_of_parts, object_in, object_of, head_kind, IsHeadOf, IsHead, AreHeads}
use Rattle.mast_mapping.specs.InRange.{IsHeadIn, AreInRange}
use Rattle.mast_mapping.specs.Maps.{query_right, query_read, query_of, outputs, scope_of, IsMap}
use Rattle.mast_mapping.specs.OverTables.{column_names, table_names, AreNamedApart, IsSlotOver, IsObjectOver, IsHeadOver, IsOverTables, AreOverTables}
use Rattle.mast_mapping.specs.Queries.{double_breach, from_breach, items_breach, comparisons_breach, query_breach}
use Rattle.mast_mapping.specs.Readings.{Reading, query, wrong, Texts}
use Rattle.mast_mapping.specs.inside.Sources.{outputs_of}
use Rattle.mast_mapping.proofs.TablesGrowLemmas.{none_first, there_of, over_stays}
use Rattle.mast_tree.proofs.VocabularyLemmas.{same_bytes, once_pushed}

-- ---- names stand once

ok_in : {T : Type 0} (a b : T) → ◌≡◌ {A = Result T ShapeBreach} (Ok a) (Ok b) → a ≡ b
ok_in a b h = cc

-- a new name does not stand before
pub name_is_new : (before : List (List ℕ)) (r : Result (List ℕ) ShapeBreach) (at : ℕ) (word : List ℕ) → new_among before r at ≡ Ok word → stands word before ≡ false
name_is_new before (Err b) at word h = absurd (cc)
name_is_new before (Ok w) at word h = by (stands w before) refl h
  where
    by : (b : Bool) → stands w before ≡ b → ◌≡◌ {A = Result (List ℕ) ShapeBreach} (if b then Err (record { line = at; kind = shape.DoubleName }) else Ok w) (Ok word) → stands word before ≡ false
    by true e g = absurd (cc)
    by false e g = subst (λ x. stands x before ≡ false) (ok_in w word g) e

column_parts : (n : Result (List ℕ) ShapeBreach) (k : Result Kind ShapeBreach) (z : Result Bool ShapeBreach) (c : Column) → column_of_parts n k z ≡ Ok c → n ≡ Ok c.name
column_parts (Err b) k z c h = absurd (cc)
column_parts (Ok n) (Err b) z c h = absurd (cc)
column_parts (Ok n) (Ok k) (Err b) c h = absurd (cc)
column_parts (Ok n) (Ok k) (Ok z) c h = ap (λ x. Ok x) (ap (λ (x : Column). x.name) (ok_in (record { name = n; kind = k; null = z }) c h))

-- so has a column a new name
pub column_is_new : (doc : Document) (before : List (List ℕ)) (at : ℕ) (items : List Item) (c : Column) → column_in doc before at items ≡ Ok c → stands c.name before ≡ false
column_is_new doc before at [] c h = absurd (cc)
column_is_new doc before at (n ∷ []) c h = absurd (cc)
column_is_new doc before at (n ∷ (k ∷ [])) c h =
    name_is_new before (identifier_of (said doc n)) (line (said doc n)) c.name (column_parts (new_name before (said doc n)) (kind_of (said doc k)) (Ok false) c h)
column_is_new doc before at (n ∷ (k ∷ (z ∷ []))) c h =
    name_is_new before (identifier_of (said doc n)) (line (said doc n)) c.name (column_parts (new_name before (said doc n)) (kind_of (said doc k)) (null_of (said doc z)) c h)
column_is_new doc before at (n ∷ (k ∷ (z ∷ (x ∷ more)))) c h = absurd (cc)

-- the same of an item
pub column_of_is_new : (doc : Document) (before : List (List ℕ)) (s : Said) (c : Column) → column_of doc before s ≡ Ok c → stands c.name before ≡ false
column_of_is_new doc before (node word at items) c h = by (bytes_eq word (codes "Column")) h
  where
    by : (b : Bool) → ◌≡◌ {A = Result Column ShapeBreach} (if b then column_in doc before at items else Err (shape_at at)) (Ok c) → stands c.name before ≡ false
    by true g = column_is_new doc before at items c g
    by false g = absurd (cc)
column_of_is_new doc before (name word at) c h = absurd (cc)
column_of_is_new doc before (iri word at) c h = absurd (cc)
column_of_is_new doc before (text word at) c h = absurd (cc)
column_of_is_new doc before (tagged at) c h = absurd (cc)
column_of_is_new doc before (binding at) c h = absurd (cc)

columns_once : (doc : Document) (items : List Item) (before columns : List Column) → EachOnce (column_names before) → columns_of doc before items ≡ Ok columns → EachOnce (column_names columns)
columns_once doc [] before columns once h = subst (λ x. EachOnce (column_names x)) (ok_in before columns h) once
columns_once doc (i ∷ is) before columns once h = by (column_of doc (column_names before) (said doc i)) refl (λ b o g. columns_once doc is b columns o g) h
  where
    by : (r : Result Column ShapeBreach) → column_of doc (column_names before) (said doc i) ≡ r
        → ((b : List Column) → EachOnce (column_names b) → columns_of doc b is ≡ Ok columns → EachOnce (column_names columns))
        → with_column before r (λ more. columns_of doc more is) ≡ Ok columns → EachOnce (column_names columns)
    by (Err b) e ih g = absurd (cc)
    by (Ok c) e ih g =
        ih (before ++ c ∷ [])
        (subst EachOnce (sym (map-append (λ (x : Column). x.name) before (c ∷ [])))
        (once_pushed bytes_eq same_bytes (column_names before) c.name once (column_of_is_new doc (column_names before) (said doc i) c e))) g

table_parts : (n f : Result (List ℕ) ShapeBreach) (cs : Result (List Column) ShapeBreach) (t : TableDecl) → table_of_parts n f cs ≡ Ok t → (n ≡ Ok t.name) × (cs ≡ Ok t.columns)
table_parts (Err b) f cs t h = absurd (cc)
table_parts (Ok n) (Err b) cs t h = absurd (cc)
table_parts (Ok n) (Ok f) (Err b) t h = absurd (cc)
table_parts (Ok n) (Ok f) (Ok cs) t h =
    let e = ok_in (record { name = n; file = f; columns = cs }) t h in
    (ap (λ x. Ok x) (ap (λ (x : TableDecl). x.name) e), ap (λ x. Ok x) (ap (λ (x : TableDecl). x.columns) e))

no_names : EachOnce {A = List ℕ} []
no_names i j x h g = absurd (none i h)
  where
    none : (k : ℕ) → slice_get [] k ≡ Some x → ⊥
    none k e = cc

-- a table has a new name, and its columns have different ones
pub table_is_new : (doc : Document) (before : List (List ℕ)) (at : ℕ) (items : List Item) (t : TableDecl) → table_in doc before at items ≡ Ok t
    → (stands t.name before ≡ false) × EachOnce (column_names t.columns)
table_is_new doc before at [] t h = absurd (cc)
table_is_new doc before at (n ∷ []) t h = absurd (cc)
table_is_new doc before at (n ∷ (f ∷ [])) t h = absurd (cc)
table_is_new doc before at (n ∷ (f ∷ (c ∷ cs))) t h =
    let p = table_parts (new_name before (said doc n)) (string_of (said doc f)) (columns_of doc [] (c ∷ cs)) t h in
    (name_is_new before (identifier_of (said doc n)) (line (said doc n)) t.name p.0, columns_once doc (c ∷ cs) [] t.columns no_names p.1)

all_pushed : {A : Type 0} (P : A → Type 0) (xs : List A) (x : A) → AllByRecursion P xs → P x → AllByRecursion P (xs ++ x ∷ [])
all_pushed P [] x are is = (is, tt)
all_pushed P (y ∷ ys) x are is = (are.0, all_pushed P ys x are.1 is)

apart_pushed : (tables : List TableDecl) (t : TableDecl) → AreNamedApart tables → stands t.name (table_names tables) ≡ false → EachOnce (column_names t.columns) → AreNamedApart (tables ++ t ∷ [])
apart_pushed tables t apart new once = record {
  tables_once = subst EachOnce (sym (map-append (λ (x : TableDecl). x.name) tables (t ∷ []))) (once_pushed bytes_eq same_bytes (table_names tables) t.name apart.tables_once new);
  columns_once = all_pushed (λ (x : TableDecl). EachOnce (column_names x.columns)) tables t apart.columns_once once;
}

-- ---- slots have a meaning

rest_of : (a b : Bool) → a ≡ false → (a || b) ≡ true → b ≡ true
rest_of true b e g = absurd (true≢false e)
rest_of false b e g = g

item_by : (tables : List TableDecl) (from : List FromEntry) (i : SelectItem) (is : List SelectItem) (w : List ℕ) (m : Meaning) → meaning_of tables from i.alias i.column ≡ Some m
    → (stands w (outputs_of is) ≡ true → IsSome (meaning_of_item tables from (item_named w is)))
    → stands w (outputs_of (i ∷ is)) ≡ true → (b : Bool) → bytes_eq i.output w ≡ b → IsSome (meaning_of_item tables from (if b then Some i else item_named w is))
item_by tables from i is w m means ih s true e = subst IsSome (sym means) refl
item_by tables from i is w m means ih s false e = ih (rest_of (bytes_eq w i.output) (stands w (outputs_of is)) (nat_list_eq_equiv.symm w i.output ∙ e) s)

item_known : (tables : List TableDecl) (from : List FromEntry) (before : List (List ℕ)) (items : List SelectItem) (w : List ℕ)
    → items_breach tables from before items ≡ None → stands w (outputs_of items) ≡ true → IsSome (meaning_of_item tables from (item_named w items))
item_known tables from before [] w h s = absurd (true≢false (sym s))
item_known tables from before (i ∷ is) w h s =
    let t = there_of shape.UnknownColumn (meaning_of tables from i.alias i.column) (option_or (double_breach i.output before) (items_breach tables from (before ++ i.output ∷ []) is)) h in
    let n = none_first (double_breach i.output before) (items_breach tables from (before ++ i.output ∷ []) is) t.1 in
    item_by tables from i is w t.0.0 t.0.1 (λ g. item_known tables from (before ++ i.output ∷ []) is w n.1 g) s (bytes_eq i.output w) refl

-- each output of a source query with which nothing is wrong has a meaning
output_known : (tables : List TableDecl) (q : SourceQuery) (w : List ℕ) → query_breach tables q ≡ None → stands w (outputs q) ≡ true → IsSome (meaning_of_output tables q w)
output_known tables q w h s =
    let n = none_first (from_breach tables [] q.from) (option_or (items_breach tables q.from [] q.items) (comparisons_breach tables q.from q.conditions)) h in
    let m = none_first (items_breach tables q.from [] q.items) (comparisons_breach tables q.from q.conditions) n.1 in
    item_known tables q.from [] q.items w m.0 s

module _ (tables : List TableDecl) (q : SourceQuery) (right : query_breach tables q ≡ None) (scope : Scope) (is_scope : scope.outputs ≡ outputs q) where
  output_over : (r : Result (List ℕ) ShapeBreach) (at : ℕ) (s : Slot) → output_among scope.outputs r at ≡ Ok s → IsSlotOver tables q s
  output_over (Err b) at s h = absurd (cc)
  output_over (Ok w) at s h = by (stands w scope.outputs) refl h
    where
      by : (b : Bool) → stands w scope.outputs ≡ b → ◌≡◌ {A = Result Slot ShapeBreach} (if b then Ok (slot.Output w) else Err (record { line = at; kind = shape.UnknownColumn })) (Ok s) → IsSlotOver tables q s
      by true e g = subst (λ x. IsSlotOver tables q x) (ok_in (slot.Output w) s g) (output_known tables q w right (ap (λ x. stands w x) (sym is_scope) ∙ e))
      by false e g = absurd (cc)

  constant_over : (r : Result Value ShapeBreach) (s : Slot) → constant_slot r ≡ Ok s → IsSlotOver tables q s
  constant_over (Err b) s h = absurd (cc)
  constant_over (Ok v) s h = subst (λ x. IsSlotOver tables q x) (ok_in (slot.Constant v) s h) tt

  slot_over : (s : Said) (x : Slot) → slot_of scope s ≡ Ok x → IsSlotOver tables q x
  slot_over (name word at) x h = output_over (identifier_of (name word at)) at x h
  slot_over (iri word at) x h = constant_over (constant_of scope.dates scope.doc (iri word at)) x h
  slot_over (text word at) x h = constant_over (constant_of scope.dates scope.doc (text word at)) x h
  slot_over (tagged at) x h = constant_over (constant_of scope.dates scope.doc (tagged at)) x h
  slot_over (binding at) x h = constant_over (constant_of scope.dates scope.doc (binding at)) x h
  slot_over (node word at items) x h = constant_over (constant_of scope.dates scope.doc (node word at items)) x h

  slots_over : (items : List Item) (before slots : List Slot) → AllByRecursion (IsSlotOver tables q) before → slots_of scope before items ≡ Ok slots → AllByRecursion (IsSlotOver tables q) slots
  slots_over [] before slots are h = subst (λ x. AllByRecursion (IsSlotOver tables q) x) (ok_in before slots h) are
  slots_over (i ∷ is) before slots are h = by (slot_of scope (said scope.doc i)) refl (λ b a g. slots_over is b slots a g) h
    where
      by : (r : Result Slot ShapeBreach) → slot_of scope (said scope.doc i) ≡ r
          → ((b : List Slot) → AllByRecursion (IsSlotOver tables q) b → slots_of scope b is ≡ Ok slots → AllByRecursion (IsSlotOver tables q) slots)
          → with_slot before r (λ more. slots_of scope more is) ≡ Ok slots → AllByRecursion (IsSlotOver tables q) slots
      by (Err b) e ih g = absurd (cc)
      by (Ok x) e ih g = ih (before ++ x ∷ []) (all_pushed (IsSlotOver tables q) before x are (slot_over (said scope.doc i) x e)) g

  object_parts : (n : Result (List ℕ) ShapeBreach) (ss : Result (List Slot) ShapeBreach) (o : Template) → object_of_parts n ss ≡ Ok o → ss ≡ Ok o.args
  object_parts (Err b) ss o h = absurd (cc)
  object_parts (Ok n) (Err b) o h = absurd (cc)
  object_parts (Ok n) (Ok ss) o h = ap (λ x. Ok x) (ap (λ (x : Template). x.args) (ok_in (record { symbol = n; args = ss }) o h))

  object_in_over : (at : ℕ) (items : List Item) (o : Template) → object_in scope at items ≡ Ok o → IsObjectOver tables q o
  object_in_over at [] o h = absurd (cc)
  object_in_over at (symbol ∷ slots) o h =
      slots_over slots [] o.args tt (object_parts (identifier_of (said scope.doc symbol)) (slots_of scope [] slots) o h)

  object_over : (s : Said) (o : Template) → object_of scope s ≡ Ok o → IsObjectOver tables q o
  object_over (node word at items) o h = by (bytes_eq word (codes "Obj")) h
    where
      by : (b : Bool) → ◌≡◌ {A = Result Template ShapeBreach} (if b then object_in scope at items else Err (shape_at at)) (Ok o) → IsObjectOver tables q o
      by true g = object_in_over at items o g
      by false g = absurd (cc)
  object_over (name word at) o h = absurd (cc)
  object_over (iri word at) o h = absurd (cc)
  object_over (text word at) o h = absurd (cc)
  object_over (tagged at) o h = absurd (cc)
  object_over (binding at) o h = absurd (cc)

  head_of_over : (lists : Lists) (k : Option NameKind) (items : List Item) (h : Head) → IsHeadOf lists scope k items h → IsHeadOver tables q h × IsHeadIn lists h
  head_of_over lists None items h is = absurd is
  head_of_over lists (Some kind.Class) items h is =
      subst (λ x. IsHeadOver tables q x × IsHeadIn lists x) (sym is.is)
      (object_over (said scope.doc is.item) is.subject is.object, slice_get_within (iris lists kind.Class) is.number.0 is.named.0 is.named.2)
  head_of_over lists (Some kind.Role) items h is =
      subst (λ x. IsHeadOver tables q x × IsHeadIn lists x) (sym is.is)
      ((object_over (said scope.doc is.first) is.from is.from_object, object_over (said scope.doc is.second) is.to is.to_object), slice_get_within (iris lists kind.Role) is.number.0 is.named.0 is.named.2)
  head_of_over lists (Some kind.Attr) items h is =
      subst (λ x. IsHeadOver tables q x × IsHeadIn lists x) (sym is.is)
      ((object_over (said scope.doc is.first) is.from is.from_object, slot_over (said scope.doc is.second) is.value is.value_slot), slice_get_within (iris lists kind.Attr) is.number.0 is.named.0 is.named.2)

  head_over : (lists : Lists) (s : Said) (h : Head) → IsHead lists scope s h → IsHeadOver tables q h × IsHeadIn lists h
  head_over lists (node word at items) h is = head_of_over lists (head_kind word) items h is
  head_over lists (name word at) h is = absurd is
  head_over lists (iri word at) h is = absurd is
  head_over lists (text word at) h is = absurd is
  head_over lists (tagged at) h is = absurd is
  head_over lists (binding at) h is = absurd is

  heads_over : (lists : Lists) (items : List Item) (hs : List Head) → AreHeads lists scope items hs → AllByRecursion (IsHeadOver tables q) hs × AllByRecursion (IsHeadIn lists) hs
  heads_over lists [] [] are = (tt, tt)
  heads_over lists [] (h ∷ hs) are = absurd are
  heads_over lists (i ∷ is) [] are = absurd are
  heads_over lists (i ∷ is) (h ∷ hs) are =
      let first = head_over lists (said scope.doc i) h are.0 in
      let rest = heads_over lists is hs are.1 in
      ((first.0, rest.0), (first.1, rest.1))

-- ---- maps are over the tables

query_is_right : (tables : List TableDecl) (q r : SourceQuery) (at : ℕ) (why : Option ShapeKind) → query_right q at why ≡ Ok r → (why ≡ None) × (q ≡ r)
query_is_right tables q r at None h = (refl, ok_in q r h)
query_is_right tables q r at (Some k) h = absurd (cc)

query_read_right : (tables : List TableDecl) (at : ℕ) (r : Reading) (q : SourceQuery) → query_read tables at r ≡ Ok q → query_breach tables q ≡ None
query_read_right tables at (wrong k) q h = absurd (cc)
query_read_right tables at (query p) q h =
    let e = query_is_right tables p q at (query_breach tables p) h in
    subst (λ x. query_breach tables x ≡ None) e.1 e.0

query_of_right : (texts : Texts) (tables : List TableDecl) (s : Said) (q : SourceQuery) → query_of texts tables s ≡ Ok q → query_breach tables q ≡ None
query_of_right texts tables (text chars at) q h = query_read_right tables at (texts.readings chars) q h
query_of_right texts tables (name word at) q h = absurd (cc)
query_of_right texts tables (iri word at) q h = absurd (cc)
query_of_right texts tables (tagged at) q h = absurd (cc)
query_of_right texts tables (binding at) q h = absurd (cc)
query_of_right texts tables (node word at items) q h = absurd (cc)

module _ (lists : Lists) (texts : Texts) (doc : Document) (prefixes : Prefixes) where
  map_over : (tables : List TableDecl) (items : List Item) (m : Map) → IsMap lists texts doc prefixes tables items m → IsOverTables tables m.query m.heads × AllByRecursion (IsHeadIn lists) m.heads
  map_over tables [] m is = absurd is
  map_over tables (source ∷ []) m is = absurd is
  map_over tables (source ∷ (first ∷ heads)) m is =
      let right = query_of_right texts tables (said doc source) m.query is.1 in
      let are = heads_over tables m.query right (scope_of texts doc prefixes m.query) refl lists (first ∷ heads) m.heads is.2 in
      (record { right = right; slots = are.0 }, are.1)

  -- the tables begin with those before, names stand once, each map is over the tables, and its names are in range
  record SaidOver (before tables : List TableDecl) (maps : List Map) : Type 0 where
    more : List TableDecl
    is : tables ≡ before ++ more
    named : AreNamedApart tables
    over : AllByRecursion (λ (m : Map). IsOverTables tables m.query m.heads) maps
    names : AreInRange lists maps

  entry_over : (items : List Item) (before tables : List TableDecl) (maps : List Map) (e : Entry) → AreNamedApart before
      → ((b : List TableDecl) (ms : List Map) → AreNamedApart b → ItemsSay lists texts doc prefixes b items tables ms → SaidOver b tables ms)
      → EntrySays lists texts doc prefixes before e maps (λ more others. ItemsSay lists texts doc prefixes more items tables others) → SaidOver before tables maps
  entry_over items before tables maps (table at inside) apart ih says =
      let new = table_is_new doc (table_names before) at inside says.0 says.1 in
      let rest = ih (before ++ says.0 ∷ []) maps (apart_pushed before says.0 apart new.0 new.1) says.2 in
      record { more = says.0 ∷ rest.more; is = rest.is ∙ append_assoc before (says.0 ∷ []) rest.more; named = rest.named; over = rest.over; names = rest.names }
  entry_over items before tables [] (map at inside) apart ih says = absurd says
  entry_over items before tables (m ∷ ms) (map at inside) apart ih says =
      let rest = ih before ms apart says.1 in
      let here = map_over before inside m says.0 in
      record {
        more = rest.more;
        is = rest.is;
        named = rest.named;
        over = (subst (λ x. IsOverTables x m.query m.heads) (sym rest.is) (over_stays before rest.more m.query m.heads here.0), rest.over);
        names = (here.1, rest.names);
      }
  entry_over items before tables maps (other at) apart ih says = absurd says

  said_over : (items : List Item) (before tables : List TableDecl) (maps : List Map) → AreNamedApart before → ItemsSay lists texts doc prefixes before items tables maps → SaidOver before tables maps
  said_over [] before tables [] apart says = record { more = []; is = says ∙ sym (append-nil before); named = subst AreNamedApart (sym says) apart; over = tt; names = tt }
  said_over [] before tables (m ∷ ms) apart says = absurd says
  said_over (i ∷ is) before tables maps apart says =
      entry_over is before tables maps (entry_of (said doc i)) apart (λ b ms a s. said_over is b tables ms a s) says

  nothing_apart : AreNamedApart []
  nothing_apart = record { tables_once = no_names; columns_once = tt }

  -- what a document says is over its tables
  pub said_over_tables : (items : List Item) (tables : List TableDecl) (maps : List Map) → ItemsSay lists texts doc prefixes [] items tables maps → AreOverTables tables maps
  said_over_tables items tables maps says = let all = said_over items [] tables maps nothing_apart says in record { named = all.named; over = all.over }

  -- and its names are in range
  pub said_in_range : (items : List Item) (tables : List TableDecl) (maps : List Map) → ItemsSay lists texts doc prefixes [] items tables maps → AreInRange lists maps
  said_in_range items tables maps says = (said_over items [] tables maps nothing_apart says).names
