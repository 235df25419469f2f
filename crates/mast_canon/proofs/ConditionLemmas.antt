-- The conditions that every specification keeps are facts that hold in one way, so a `Spec` tells them whole.
use Rattle.std.proofs.Common.{◌≡◌, List, [], ◌∷◌}
use Rattle.std.proofs.Math.Logic.{∥∥₁_elim}
use Rattle.std.specs.Coded.{Coded-set, coded_ℕ, coded_bool, ×_prop, Unit-prop, codes}
use Rattle.std.specs.List.{AllByRecursion-prop}
use Rattle.std.specs.Option.{IsSome}
use Rattle.std.specs.Prelude.{Option, None, is_some, true}
use Rattle.mast_terms.specs.Vocabularies.{EachOnce}
use Rattle.mast_mapping.specs.declared.map.Head.{Head}
use Rattle.mast_mapping.specs.declared.map.Head.TheVariants as head
use Rattle.mast_mapping.specs.declared.map.Slot.{Slot}
use Rattle.mast_mapping.specs.declared.map.Slot.TheVariants as slot
use Rattle.mast_mapping.specs.declared.map.Template.{Template}
use Rattle.mast_mapping.specs.declared.split_map.SplitMap.{SplitMap}
use Rattle.mast_mapping.specs.Columns.{meaning_of_output}
use Rattle.mast_mapping.specs.OverTables.{AreNamedApart, IsSlotOver, IsObjectOver, IsHeadOver, IsOverTables, column_names, table_names}
use Rattle.mast_mapping.specs.Queries.{query_breach}
use Rattle.mast_sql.specs.declared.query.SourceQuery.{SourceQuery}
use Rattle.mast_tables.specs.declared.declaration.TableDecl.{TableDecl}
use Rattle.mast_tree.specs.declared.shape.ShapeKind.{ShapeKind}
use Rattle.mast_canon.specs.Conditions.{SplitOverTables}

once_prop : {A : Type 0} (xs : List A) → IsProp (EachOnce xs)
once_prop xs f g = λ k i j x p q. Coded-set coded_ℕ i j (f i j x p q) (g i j x p q) k

apart_prop : (tables : List TableDecl) → IsProp (AreNamedApart tables)
apart_prop tables a b = λ i. record {
  tables_once = once_prop (table_names tables) a.tables_once b.tables_once i;
  columns_once = AllByRecursion-prop (λ (t : TableDecl). EachOnce (column_names t.columns)) (λ t. once_prop (column_names t.columns)) tables a.columns_once b.columns_once i;
}

some_prop : {A : Type 0} (o : Option A) → IsProp (IsSome o)
some_prop o = Coded-set coded_bool (is_some o) true

slot_prop : (tables : List TableDecl) (query : SourceQuery) (s : Slot) → IsProp (IsSlotOver tables query s)
slot_prop tables query (slot.Output name) = some_prop (meaning_of_output tables query name)
slot_prop tables query (slot.Constant value) = Unit-prop

object_prop : (tables : List TableDecl) (query : SourceQuery) (t : Template) → IsProp (IsObjectOver tables query t)
object_prop tables query t = AllByRecursion-prop (IsSlotOver tables query) (slot_prop tables query) t.args

head_prop : (tables : List TableDecl) (query : SourceQuery) (h : Head) → IsProp (IsHeadOver tables query h)
head_prop tables query (head.Class name subject) = object_prop tables query subject
head_prop tables query (head.Role name from to) = ×_prop (object_prop tables query from) (object_prop tables query to)
head_prop tables query (head.Attr name from value) = ×_prop (object_prop tables query from) (slot_prop tables query value)

breach_set : (a b : Option ShapeKind) → IsProp (a ≡ b)
breach_set a b = hlevel codes

map_prop : (tables : List TableDecl) (query : SourceQuery) (heads : List Head) → IsProp (IsOverTables tables query heads)
map_prop tables query heads a b = λ i. record {
  right = breach_set (query_breach tables query) None a.right b.right i;
  slots = AllByRecursion-prop (IsHeadOver tables query) (head_prop tables query) heads a.slots b.slots i;
}

over_prop : (tables : List TableDecl) (maps : List SplitMap) → IsProp (SplitOverTables tables maps)
over_prop tables maps a b = λ i. record {
  named = apart_prop tables a.named b.named i;
  over = AllByRecursion-prop (λ (m : SplitMap). IsOverTables tables m.query (m.head ∷ [])) (λ m. map_prop tables m.query (m.head ∷ [])) maps a.over b.over i;
}

-- the maps of a specification are over its tables
pub over_told : (tables : List TableDecl) (maps : List SplitMap) → ∥ SplitOverTables tables maps ∥₁ → SplitOverTables tables maps
over_told tables maps t = ∥∥₁_elim t (over_prop tables maps) (λ h. h)
