-- The text of a conflict: the axiom or constraint, and the rows.
use Rattle.std.specs.Prelude.{◌≡◌, ◌<◌, ℕ, List, ◌∷◌, ◌++◌, [], length, map, slice_get, codes, Contains}
use Rattle.std.specs.Option.{option_map, unwrap_or}
use Rattle.std.specs.Fmt.{decimal}
use Rattle.std.specs.List.Sorted.{IsStrictlySortedBy}
use Rattle.mast_canon.specs.declared.origin.Ground.{Ground}
use Rattle.mast_canon.specs.declared.origin.Ground.TheVariants as ground
use Rattle.mast_canon.specs.declared.origin.Origin.{Origin}
use Rattle.mast_canon.specs.declared.rows.RowId.{RowId}
use Rattle.mast_canon.specs.RowOrder.{row_order}
use Rattle.mast_tables.specs.declared.declaration.TableDecl.{TableDecl}
use Rattle.mast_write.specs.LineText.{lines_text}
use Rattle.mast_write.specs.RefusalLines.{doc_word}

-- the word of a ground
abbrev pub ground_word : Ground → List ℕ
ground_word ground.Disjoint = codes "disjoint"
ground_word ground.Irreflexive = codes "irreflexive"
ground_word ground.ValueType = codes "type"
ground_word ground.Functional = codes "functional"
ground_word ground.Identify = codes "identify"
ground_word ground.Deny = codes "deny"

-- `conflict GROUND DOC line L`
abbrev pub origin_line : Origin → List ℕ
origin_line o =
    codes "conflict " ++ (ground_word o.ground ++ (codes " " ++ (doc_word o.doc ++ (codes " line " ++ decimal o.line))))

-- the row's table is one of these
abbrev pub IsOfTables : List TableDecl → RowId → Type 0
IsOfTables tables row = row.table < length tables

-- the name of its table
abbrev pub table_of : List TableDecl → RowId → List ℕ
table_of tables row = unwrap_or (option_map (λ table. table.name) (slice_get tables row.table)) []

-- `row TABLE NUMBER`
abbrev pub row_line : List TableDecl → RowId → List ℕ
row_line tables row = codes "row " ++ (table_of tables row ++ (codes " " ++ decimal row.number))

-- the same rows, by declared order of tables and then by number, each once
pub record IsInOrder (rows ordered : List RowId) : Type 0 where
  pub ascending : IsStrictlySortedBy row_order ordered
  pub each : (row : RowId) → Contains ordered row → Contains rows row
  pub all : (row : RowId) → Contains rows row → Contains ordered row

-- the text of a conflict: the line of the origin, and that of each row, in order
pub record IsConflictText (origin : Origin) (tables : List TableDecl) (rows : List RowId) (text : List ℕ) : Type 0 where
  pub ordered : List RowId
  pub set : IsInOrder rows ordered
  pub is : text ≡ lines_text (origin_line origin ∷ map (row_line tables) ordered)
