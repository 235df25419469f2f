-- Heads whose slots mean something: of mappings that are over tables, and of split mappings.
use Rattle.std.proofs.Common.{List, [], ◌∷◌}
use Rattle.std.specs.List.{AllByRecursion}
use Rattle.mast_sql.specs.declared.query.SourceQuery.{SourceQuery}
use Rattle.mast_tables.specs.declared.declaration.TableDecl.{TableDecl}
use Rattle.mast_mapping.specs.declared.map.Head.{Head}
use Rattle.mast_mapping.specs.declared.map.Map.{Map}
use Rattle.mast_mapping.specs.declared.split_map.SplitMap.{SplitMap}
use Rattle.mast_mapping.specs.OverTables.{AreOverTables, IsHeadOver, IsOverTables}
use Rattle.mast_mapping.specs.Split.{split_heads, split_maps}
use Rattle.mast_unfold.specs.Sources.{HeadsAreOver}
use Rattle.mast_unfold.proofs.ElementLemmas.{each_append}

module _ (tables : List TableDecl) where
  abbrev IsOver : SplitMap → Type 0
  IsOver m = IsHeadOver tables m.query m.head

  split_over : (query : SourceQuery) (heads : List Head) → AllByRecursion (IsHeadOver tables query) heads → AllByRecursion IsOver (split_heads query heads)
  split_over query [] h = tt
  split_over query (x ∷ heads) h = (h.0, split_over query heads h.1)

  all_over : (maps : List Map) → AllByRecursion (λ (m : Map). IsOverTables tables m.query m.heads) maps → HeadsAreOver tables (split_maps maps)
  all_over [] h = tt
  all_over (m ∷ maps) h = each_append IsOver (split_heads m.query m.heads) (split_maps maps) (split_over m.query m.heads h.0.slots) (all_over maps h.1)

  -- the heads of the split mappings of mappings over tables
  pub heads_over : (maps : List Map) → AreOverTables tables maps → HeadsAreOver tables (split_maps maps)
  heads_over maps h = all_over maps h.over

  -- those of split mappings over tables
  pub split_heads_over : (maps : List SplitMap) → AllByRecursion (λ (m : SplitMap). IsOverTables tables m.query (m.head ∷ [])) maps → HeadsAreOver tables maps
  split_heads_over [] h = tt
  split_heads_over (m ∷ maps) h = (h.0.slots.0, split_heads_over maps h.1)
