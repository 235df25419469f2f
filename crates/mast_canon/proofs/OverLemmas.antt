-- What holds of mappings holds of their split mappings; and no axiom and no constraint have no breach.
use Rattle.std.proofs.Common.{◌≡◌, List, [], ◌∷◌, ◌++◌, arith}
use Rattle.std.specs.List.{AllByRecursion}
use Rattle.std.specs.Prelude.{Contains, None}
use Rattle.mast_terms.specs.Vocabularies.{Lists}
use Rattle.mast_mapping.specs.declared.map.Head.{Head}
use Rattle.mast_mapping.specs.declared.map.Map.{Map}
use Rattle.mast_mapping.specs.declared.split_map.SplitMap.{SplitMap}
use Rattle.mast_mapping.specs.InRange.{AreInRange, IsHeadIn}
use Rattle.mast_mapping.specs.OverTables.{AreOverTables, IsHeadOver, IsOverTables}
use Rattle.mast_mapping.specs.Queries.{query_breach}
use Rattle.mast_mapping.specs.Split.{split_heads, split_maps}
use Rattle.mast_sql.specs.declared.query.SourceQuery.{SourceQuery}
use Rattle.mast_tables.specs.declared.declaration.TableDecl.{TableDecl}
use Rattle.mast_tbox.specs.Restrictions.{IsRestrictionBreach}
use Rattle.mast_canon.specs.Conditions.{SplitInRange, SplitOverTables}

-- what holds of each of two lists holds of each of both
pub each_append : {X : Type 0} (P : X → Type 0) (xs ys : List X) → AllByRecursion P xs → AllByRecursion P ys → AllByRecursion P (xs ++ ys)
each_append P [] ys h k = k
each_append P (x ∷ xs) ys h k = (h.0, each_append P xs ys h.1 k)

module _ (lists : Lists) where
  abbrev HeadStands : SplitMap → Type 0
  HeadStands m = IsHeadIn lists m.head

  heads_in_range : (query : SourceQuery) (heads : List Head) → AllByRecursion (IsHeadIn lists) heads → AllByRecursion HeadStands (split_heads query heads)
  heads_in_range query [] h = tt
  heads_in_range query (x ∷ heads) h = (h.0, heads_in_range query heads h.1)

  -- the names of split mappings are in range where those of the mappings are
  pub split_in_range : (maps : List Map) → AreInRange lists maps → SplitInRange lists (split_maps maps)
  split_in_range [] h = tt
  split_in_range (m ∷ maps) h = each_append HeadStands (split_heads m.query m.heads) (split_maps maps) (heads_in_range m.query m.heads h.0) (split_in_range maps h.1)

module _ (tables : List TableDecl) where
  abbrev IsOver : SplitMap → Type 0
  IsOver m = IsOverTables tables m.query (m.head ∷ [])

  heads_over : (query : SourceQuery) → query_breach tables query ≡ None → (heads : List Head) → AllByRecursion (IsHeadOver tables query) heads → AllByRecursion IsOver (split_heads query heads)
  heads_over query right [] h = tt
  heads_over query right (x ∷ heads) h = (record { right = right; slots = (h.0, tt) }, heads_over query right heads h.1)

  maps_over : (maps : List Map) → AllByRecursion (λ (m : Map). IsOverTables tables m.query m.heads) maps → AllByRecursion IsOver (split_maps maps)
  maps_over [] h = tt
  maps_over (m ∷ maps) h = each_append IsOver (split_heads m.query m.heads) (split_maps maps) (heads_over m.query h.0.right m.heads h.0.slots) (maps_over maps h.1)

  -- split mappings are over the tables where the mappings are
  pub split_over_tables : (maps : List Map) → AreOverTables tables maps → SplitOverTables tables (split_maps maps)
  split_over_tables maps h = record { named = h.named; over = maps_over maps h.over }

none_in_empty : {X : Type 0} (x : X) → Contains [] x → ⊥
none_in_empty x c = absurd (omega (arith, c.1))

-- no axiom and no constraint have no restriction breach
pub empty_unbreached : IsRestrictionBreach [] [] [] None
empty_unbreached = (λ x c p. none_in_empty x c, λ x c p. none_in_empty x c)
