-- A source query means the same where more tables are declared.
use Rattle.std.proofs.Common.{◌≡◌, refl, ap, sym, ◌∙◌, subst, ℕ, ◌+◌, Bool, true, false, List, [], ◌∷◌, ◌++◌}
use Rattle.std.specs.Prelude.{Option, Some, None, if◌then◌else◌}
use Rattle.std.specs.List.{AllByRecursion}
use Rattle.std.specs.Option.{option_or, option_map, option_to_list, IsSome}
use Rattle.std.specs.Str.{bytes_eq}
use Rattle.mast_sql.specs.declared.query.Comparison.{Comparison}
use Rattle.mast_sql.specs.declared.query.FromEntry.{FromEntry}
use Rattle.mast_sql.specs.declared.query.Operand.{Operand}
use Rattle.mast_sql.specs.declared.query.Operand.TheVariants as operand
use Rattle.mast_sql.specs.declared.query.SelectItem.{SelectItem}
use Rattle.mast_sql.specs.declared.query.SourceQuery.{SourceQuery}
use Rattle.mast_tables.specs.declared.declaration.TableDecl.{TableDecl}
use Rattle.mast_tree.specs.declared.shape.ShapeKind.{ShapeKind}
use Rattle.mast_tree.specs.declared.shape.ShapeKind.TheVariants as shape
use Rattle.mast_mapping.specs.declared.map.Head.{Head}
use Rattle.mast_mapping.specs.declared.map.Head.TheVariants as head
use Rattle.mast_mapping.specs.declared.map.Slot.{Slot}
use Rattle.mast_mapping.specs.declared.map.Slot.TheVariants as slot
use Rattle.mast_mapping.specs.Columns.{Meaning, table_named, column_of_table, is_alias, meanings, only, meaning_of, item_named, meaning_of_item, meaning_of_output}
use Rattle.mast_mapping.specs.OverTables.{IsSlotOver, IsHeadOver, IsOverTables}
use Rattle.mast_mapping.specs.Queries.{double_breach, unless_there, from_breach, items_breach, operand_kind, sides_breach, comparisons_breach, query_breach}

-- the first of two is none: both are
pub none_first : (a b : Option ShapeKind) → option_or a b ≡ None → (a ≡ None) × (b ≡ None)
none_first None b h = (refl, h)
none_first (Some k) b h = absurd (cc)

-- what must be there is there, and nothing is wrong later
pub there_of : {A : Type 0} (k : ShapeKind) (o : Option A) (later : Option ShapeKind) → unless_there k o later ≡ None → ((x : A) × (o ≡ Some x)) × (later ≡ None)
there_of k None later h = absurd (cc)
there_of k (Some x) later h = ((x, refl), h)

module _ (tables more : List TableDecl) where
  table_stays : (name : List ℕ) (before : List TableDecl) (t : TableDecl) → table_named name before ≡ Some t → table_named name (before ++ more) ≡ Some t
  table_stays name [] t h = absurd (cc)
  table_stays name (b ∷ bs) t h = by (bytes_eq b.name name) (λ g. table_stays name bs t g) h
    where
      by : (same : Bool) → (table_named name bs ≡ Some t → table_named name (bs ++ more) ≡ Some t)
          → (if same then Some b else table_named name bs) ≡ Some t → (if same then Some b else table_named name (bs ++ more)) ≡ Some t
      by true ih g = g
      by false ih g = ih g

  -- each entry's table is declared
  abbrev AreKnown : List FromEntry → Type 0
  AreKnown entries = AllByRecursion (λ (e : FromEntry). table_named e.table (tables ++ more) ≡ table_named e.table tables) entries

  known_of : (aliases : List (List ℕ)) (entries : List FromEntry) → from_breach tables aliases entries ≡ None → AreKnown entries
  known_of aliases [] h = tt
  known_of aliases (e ∷ es) h =
      let t = there_of shape.UnknownTable (table_named e.table tables) _ h in
      let n = none_first (double_breach e.alias aliases) (from_breach tables (aliases ++ e.alias ∷ []) es) t.1 in
      (table_stays e.table tables t.0.0 t.0.1 ∙ sym t.0.1, known_of (aliases ++ e.alias ∷ []) es n.1)

  entries_stay : (aliases : List (List ℕ)) (entries : List FromEntry) → AreKnown entries → from_breach (tables ++ more) aliases entries ≡ from_breach tables aliases entries
  entries_stay aliases [] k = refl
  entries_stay aliases (e ∷ es) k =
      ap (λ t. unless_there shape.UnknownTable t (option_or (double_breach e.alias aliases) (from_breach (tables ++ more) (aliases ++ e.alias ∷ []) es))) k.0
      ∙ ap (λ r. unless_there shape.UnknownTable (table_named e.table tables) (option_or (double_breach e.alias aliases) r)) (entries_stay (aliases ++ e.alias ∷ []) es k.1)

  meanings_stay : (alias : Option (List ℕ)) (name : List ℕ) (number : ℕ) (entries : List FromEntry) → AreKnown entries
      → meanings (tables ++ more) alias name number entries ≡ meanings tables alias name number entries
  meanings_stay alias name number [] k = refl
  meanings_stay alias name number (e ∷ es) k =
      ap (λ t. (if is_alias alias e.alias then option_to_list (column_of_table name number t) else []) ++ meanings (tables ++ more) alias name (number + 1) es) k.0
      ∙ ap (λ r. (if is_alias alias e.alias then option_to_list (column_of_table name number (table_named e.table tables)) else []) ++ r) (meanings_stay alias name (number + 1) es k.1)

  module _ (from : List FromEntry) (known : AreKnown from) where
    meaning_stays : (alias : Option (List ℕ)) (name : List ℕ) → meaning_of (tables ++ more) from alias name ≡ meaning_of tables from alias name
    meaning_stays alias name = ap only (meanings_stay alias name 0 from known)

    items_stay : (outputs : List (List ℕ)) (items : List SelectItem) → items_breach (tables ++ more) from outputs items ≡ items_breach tables from outputs items
    items_stay outputs [] = refl
    items_stay outputs (i ∷ is) =
        ap (λ m. unless_there shape.UnknownColumn m (option_or (double_breach i.output outputs) (items_breach (tables ++ more) from (outputs ++ i.output ∷ []) is))) (meaning_stays i.alias i.column)
        ∙ ap (λ r. unless_there shape.UnknownColumn (meaning_of tables from i.alias i.column) (option_or (double_breach i.output outputs) r)) (items_stay (outputs ++ i.output ∷ []) is)

    operand_stays : (o : Operand) → operand_kind (tables ++ more) from o ≡ operand_kind tables from o
    operand_stays (operand.Column alias column) = ap (λ m. option_map (λ (x : Meaning). x.kind) m) (meaning_stays alias column)
    operand_stays (operand.Constant value) = refl

    comparisons_stay : (cs : List Comparison) → comparisons_breach (tables ++ more) from cs ≡ comparisons_breach tables from cs
    comparisons_stay [] = refl
    comparisons_stay (c ∷ cs) =
        ap (λ l. option_or (sides_breach l (operand_kind (tables ++ more) from c.right)) (comparisons_breach (tables ++ more) from cs)) (operand_stays c.left)
        ∙ (ap (λ r. option_or (sides_breach (operand_kind tables from c.left) r) (comparisons_breach (tables ++ more) from cs)) (operand_stays c.right)
        ∙ ap (λ r. option_or (sides_breach (operand_kind tables from c.left) (operand_kind tables from c.right)) r) (comparisons_stay cs))

    item_stays : (query : List FromEntry) (o : Option SelectItem) → query ≡ from → meaning_of_item (tables ++ more) query o ≡ meaning_of_item tables query o
    item_stays query None e = refl
    item_stays query (Some i) e = subst (λ f. meaning_of (tables ++ more) f i.alias i.column ≡ meaning_of tables f i.alias i.column) (sym e) (meaning_stays i.alias i.column)

  query_stays : (q : SourceQuery) → AreKnown q.from → query_breach (tables ++ more) q ≡ query_breach tables q
  query_stays q k =
      ap (λ f. option_or f (option_or (items_breach (tables ++ more) q.from [] q.items) (comparisons_breach (tables ++ more) q.from q.conditions))) (entries_stay [] q.from k)
      ∙ (ap (λ i. option_or (from_breach tables [] q.from) (option_or i (comparisons_breach (tables ++ more) q.from q.conditions))) (items_stay q.from k [] q.items)
      ∙ ap (λ c. option_or (from_breach tables [] q.from) (option_or (items_breach tables q.from [] q.items) c)) (comparisons_stay q.from k q.conditions))

  output_stays : (q : SourceQuery) → AreKnown q.from → (n : List ℕ) → meaning_of_output (tables ++ more) q n ≡ meaning_of_output tables q n
  output_stays q k n = item_stays q.from k q.from (item_named n q.items) refl

  slot_stays : (q : SourceQuery) → AreKnown q.from → (s : Slot) → IsSlotOver tables q s → IsSlotOver (tables ++ more) q s
  slot_stays q k (slot.Output n) is = subst IsSome (sym (output_stays q k n)) is
  slot_stays q k (slot.Constant value) is = tt

  slots_stay : (q : SourceQuery) → AreKnown q.from → (ss : List Slot) → AllByRecursion (IsSlotOver tables q) ss → AllByRecursion (IsSlotOver (tables ++ more) q) ss
  slots_stay q k [] are = tt
  slots_stay q k (s ∷ ss) are = (slot_stays q k s are.0, slots_stay q k ss are.1)

  head_stays : (q : SourceQuery) → AreKnown q.from → (h : Head) → IsHeadOver tables q h → IsHeadOver (tables ++ more) q h
  head_stays q k (head.Class name subject) is = slots_stay q k subject.args is
  head_stays q k (head.Role name from to) is = (slots_stay q k from.args is.0, slots_stay q k to.args is.1)
  head_stays q k (head.Attr name from value) is = (slots_stay q k from.args is.0, slot_stays q k value is.1)

  heads_stay : (q : SourceQuery) → AreKnown q.from → (hs : List Head) → AllByRecursion (IsHeadOver tables q) hs → AllByRecursion (IsHeadOver (tables ++ more) q) hs
  heads_stay q k [] are = tt
  heads_stay q k (h ∷ hs) are = (head_stays q k h are.0, heads_stay q k hs are.1)

  -- a map over tables is over more tables
  pub over_stays : (q : SourceQuery) (hs : List Head) → IsOverTables tables q hs → IsOverTables (tables ++ more) q hs
  over_stays q hs over =
      let known : AreKnown q.from = known_of [] q.from (none_first (from_breach tables [] q.from) _ over.right).0 in
      record { right = query_stays q known ∙ over.right; slots = heads_stay q known hs over.slots }
