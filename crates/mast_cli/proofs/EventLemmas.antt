-- An event of a document or of a table is no fault.
use Rattle.std.proofs.Common.{inl, inr, ℕ, List, subst, sym}
use Rattle.mast_tables.specs.declared.declaration.RowKind.{RowKind}
use Rattle.mast_tables.specs.declared.declaration.RowKind.TheVariants as row
use Rattle.mast_tree.specs.declared.document.DocName.{DocName}
use Rattle.mast_tree.specs.declared.item.TreeKind.{TreeKind}
use Rattle.mast_tree.specs.declared.item.TreeKind.TheVariants as tree
use Rattle.mast_tree.specs.declared.shape.ShapeBreach.{ShapeBreach}
use Rattle.mast_tree.specs.declared.shape.ShapeKind.{ShapeKind}
use Rattle.mast_tree.specs.declared.shape.ShapeKind.TheVariants as shape
use Rattle.mast_tree.specs.Seen.{Document}
use Rattle.mast_write.specs.declared.refusals.Refusal.{Refusal}
use Rattle.mast_write.specs.RefusalLines.{row_event, shape_event, tree_event}
use Rattle.mast_cli.specs.Limits.{kind_status, status_of}
use Rattle.mast_cli.specs.Run.{IsAnswer}
use Rattle.mast_cli.specs.stage.Document.{BytesEvent}
use Rattle.mast_tables.specs.declared.declaration.TableDecl.{TableDecl}
use Rattle.mast_cli.specs.inside.Loading.{RecordsEvent}

-- an event of this is answered
abbrev IsAnswered : Refusal → Type 0
IsAnswered event = IsAnswer (status_of event)

tree_answers : (d : DocName) (token : ℕ) (kind : TreeKind) → IsAnswer (kind_status ((tree_event d token kind).0))
tree_answers d token tree.Unexpected = tt
tree_answers d token tree.Deep = tt

shape_answers : (d : DocName) (line : ℕ) (kind : ShapeKind) → IsAnswer (kind_status ((shape_event d line kind).0))
shape_answers d line shape.Shape = tt
shape_answers d line shape.UnknownPrefix = tt
shape_answers d line shape.TwoKinds = tt
shape_answers d line shape.Datatype = tt
shape_answers d line shape.NotDlLite = tt
shape_answers d line shape.AssertionHere = tt
shape_answers d line shape.TopOnLeft = tt
shape_answers d line shape.BadConstant = tt
shape_answers d line shape.SortClash = tt
shape_answers d line shape.DoubleName = tt
shape_answers d line shape.UnknownTable = tt
shape_answers d line shape.UnknownColumn = tt
shape_answers d line shape.KindClash = tt
shape_answers d line (shape.Sql token) = tt
shape_answers d line shape.Names = tt
shape_answers d line shape.Items = tt
shape_answers d line shape.Atoms = tt
shape_answers d line shape.Aliases = tt

row_answers : (table : List ℕ) (number column : ℕ) (kind : RowKind) → IsAnswer (kind_status ((row_event table number column kind).0))
row_answers table number column row.Header = tt
row_answers table number column row.Rows = tt
row_answers table number column row.Width = tt
row_answers table number column row.NotUtf8 = tt
row_answers table number column row.Missing = tt
row_answers table number column row.BadInt = tt
row_answers table number column row.BadDate = tt

-- the event of a document's bytes is no fault
pub document_answers : (Breaks : Document → ShapeBreach → Type 0) (name : DocName) (bytes : List ℕ) (event : Refusal) → BytesEvent Breaks name bytes event → IsAnswer (status_of event)
document_answers Breaks name bytes event (inl h) = subst IsAnswered (sym h.2) tt
document_answers Breaks name bytes event (inr (inl h)) = subst IsAnswered (sym h.4) (tree_answers name h.1.token h.1.kind)
document_answers Breaks name bytes event (inr (inr h)) = subst IsAnswered (sym h.4) (shape_answers name h.1.line h.1.kind)

-- nor is that of a table's bytes
pub table_answers : (rows : ℕ) (table : TableDecl) (bytes : List ℕ) (event : Refusal) → RecordsEvent rows table bytes event → IsAnswer (status_of event)
table_answers rows table bytes event h = subst IsAnswered (sym h.2) (row_answers table.name h.0.number h.0.column h.0.kind)
