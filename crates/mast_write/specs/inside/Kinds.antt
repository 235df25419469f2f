-- What a kind tells of, wherever it stands.
use Rattle.std.specs.Prelude.{◌≡◌, ℕ, List}
use Rattle.mast_sparsql.specs.declared.breach.QueryKind.{QueryKind}
use Rattle.mast_tables.specs.declared.declaration.RowKind.{RowKind}
use Rattle.mast_tree.specs.declared.document.DocName.{DocName}
use Rattle.mast_tree.specs.declared.item.TreeKind.{TreeKind}
use Rattle.mast_tree.specs.declared.shape.ShapeKind.{ShapeKind}
use Rattle.mast_write.specs.declared.refusals.EventKind.{EventKind}
use Rattle.mast_write.specs.RefusalLines.{query_event, row_event, shape_event, tree_event}

-- a kind of tree breach tells of this
abbrev pub TellsOfTree : TreeKind → EventKind → Type 0
TellsOfTree kind tells = (doc : DocName) (token : ℕ) → tells ≡ (tree_event doc token kind).0

-- a kind of shape breach does
abbrev pub TellsOfShape : ShapeKind → EventKind → Type 0
TellsOfShape kind tells = (doc : DocName) (line : ℕ) → tells ≡ (shape_event doc line kind).0

-- a kind of query breach does
abbrev pub TellsOfQuery : QueryKind → EventKind → Type 0
TellsOfQuery kind tells = (file : List ℕ) (token : ℕ) → tells ≡ (query_event file token kind).0

-- a kind of table breach does
abbrev pub TellsOfRows : RowKind → EventKind → Type 0
TellsOfRows kind tells = (table : List ℕ) (number column : ℕ) → tells ≡ (row_event table number column kind).0
