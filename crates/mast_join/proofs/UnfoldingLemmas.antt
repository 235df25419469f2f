-- The heads of a specification's split mappings are over its tables.
use Rattle.std.proofs.Common.{List, [], ◌∷◌}
use Rattle.std.proofs.Math.Bool.{Bool-set}
use Rattle.std.proofs.Math.Logic.{∥∥₁_elim}
use Rattle.std.specs.Coded.{×_prop, Unit-prop}
use Rattle.std.specs.List.{AllByRecursion}
use Rattle.mast_sql.specs.declared.query.SourceQuery.{SourceQuery}
use Rattle.mast_tables.specs.declared.declaration.TableDecl.{TableDecl}
use Rattle.mast_mapping.specs.declared.map.Head.{Head}
use Rattle.mast_mapping.specs.declared.map.Head.TheVariants as head
use Rattle.mast_mapping.specs.declared.map.Slot.{Slot}
use Rattle.mast_mapping.specs.declared.map.Slot.TheVariants as slot
use Rattle.mast_mapping.specs.declared.split_map.SplitMap.{SplitMap}
use Rattle.mast_mapping.specs.OverTables.{IsHeadOver, IsSlotOver}
use Rattle.mast_canon.specs.declared.spec.Spec.{Spec}
use Rattle.mast_unfold.specs.Sources.{HeadsAreOver}
use Rattle.mast_unfold.proofs.OverLemmas.{split_heads_over}

each_prop : {X : Type 0} (P : X → Type 0) → ((x : X) → IsProp (P x)) → (xs : List X) → IsProp (AllByRecursion P xs)
each_prop P k [] = Unit-prop
each_prop P k (x ∷ xs) = ×_prop (k x) (each_prop P k xs)

module _ (tables : List TableDecl) where
  slot_prop : (query : SourceQuery) (s : Slot) → IsProp (IsSlotOver tables query s)
  slot_prop query (slot.Output name) = Bool-set _ _
  slot_prop query (slot.Constant value) = Unit-prop

  head_prop : (query : SourceQuery) (h : Head) → IsProp (IsHeadOver tables query h)
  head_prop query (head.Class name subject) = each_prop (IsSlotOver tables query) (slot_prop query) subject.args
  head_prop query (head.Role name from to) = ×_prop (each_prop (IsSlotOver tables query) (slot_prop query) from.args) (each_prop (IsSlotOver tables query) (slot_prop query) to.args)
  head_prop query (head.Attr name from value) = ×_prop (each_prop (IsSlotOver tables query) (slot_prop query) from.args) (slot_prop query value)

  heads_prop : (maps : List SplitMap) → IsProp (HeadsAreOver tables maps)
  heads_prop maps = each_prop (λ (m : SplitMap). IsHeadOver tables m.query m.head) (λ m. head_prop m.query m.head) maps

-- each slot of each head of a specification is a constant, or means a column
pub spec_over : (spec : Spec) → HeadsAreOver spec.tables spec.maps
spec_over spec = ∥∥₁_elim spec.over_tables (heads_prop spec.tables spec.maps) (λ h. split_heads_over spec.tables spec.maps h.over)
