-- The line of each refusal, limit and read fault, and what it tells of.
use Rattle.std.specs.Prelude.{ℕ, List, [], ◌∷◌, ◌++◌, codes}
use Rattle.std.specs.Fmt.{decimal}
use Rattle.mast_sparsql.specs.declared.breach.QueryKind.{QueryKind}
use Rattle.mast_sparsql.specs.declared.breach.QueryKind.TheVariants as query
use Rattle.mast_tables.specs.declared.declaration.RowKind.{RowKind}
use Rattle.mast_tables.specs.declared.declaration.RowKind.TheVariants as row
use Rattle.mast_tbox.specs.declared.restriction.RestrictionBreach.{RestrictionBreach}
use Rattle.mast_tbox.specs.declared.restriction.RestrictionKind.{RestrictionKind}
use Rattle.mast_tbox.specs.declared.restriction.RestrictionKind.TheVariants as restriction
use Rattle.mast_terms.specs.Printed.{quoted}
use Rattle.mast_tree.specs.declared.document.DocName.{DocName}
use Rattle.mast_tree.specs.declared.document.DocName.TheVariants as doc
use Rattle.mast_tree.specs.declared.item.TreeKind.{TreeKind}
use Rattle.mast_tree.specs.declared.item.TreeKind.TheVariants as tree
use Rattle.mast_tree.specs.declared.shape.ShapeKind.{ShapeKind}
use Rattle.mast_tree.specs.declared.shape.ShapeKind.TheVariants as shape
use Rattle.mast_tree.specs.declared.token.LexBreach.{LexBreach}
use Rattle.mast_tree.specs.declared.token.LexKind.{LexKind}
use Rattle.mast_tree.specs.declared.token.LexKind.TheVariants as lex
use Rattle.mast_write.specs.declared.refusals.EventKind.{EventKind}
use Rattle.mast_write.specs.declared.refusals.EventKind.TheVariants as tells
use Rattle.mast_write.specs.declared.refusals.Refusal.{Refusal}
use Rattle.mast_write.specs.declared.refusals.Refusal.TheVariants as of

-- what a line tells of, and the line
abbrev pub Event : Type 0
Event = EventKind × List ℕ

-- pieces of a line, one after the other, and the line feed
abbrev pub line_of : List (List ℕ) → List ℕ
line_of [] = codes "\n"
line_of (piece ∷ pieces) = piece ++ line_of pieces

-- the line of a breach
abbrev pub refused : List (List ℕ) → Event
refused pieces = (tells.Refused, codes "refused " ++ line_of pieces)

-- the line of a limit
abbrev pub limit : List (List ℕ) → Event
limit pieces = (tells.Limit, codes "limit " ++ line_of pieces)

-- the line of a read fault: the file's name printed as a text
abbrev pub read_fault : List ℕ → Event
read_fault file = (tells.ReadFault, codes "read fault " ++ line_of (quoted file ∷ []))

-- the word of a document
abbrev pub doc_word : DocName → List ℕ
doc_word doc.Ontology = codes "ontology"
doc_word doc.Constraints = codes "constraints"
doc_word doc.Mappings = codes "mappings"

-- the word of a kind of lexical breach
abbrev pub lex_word : LexKind → List ℕ
lex_word lex.NotUtf8 = codes "not-utf8"
lex_word lex.Character = codes "character"
lex_word lex.OpenString = codes "open-string"
lex_word lex.Escape = codes "escape"
lex_word lex.OpenIri = codes "open-iri"

-- the word of a kind of restriction breach
abbrev pub restriction_word : RestrictionKind → List ℕ
restriction_word restriction.FunctSpecialised = codes "funct-specialised"
restriction_word restriction.NotLocal = codes "not-local"
restriction_word restriction.AnchorSpecialised = codes "anchor-specialised"

-- `refused DOC byte AT KIND`
abbrev pub lex_event : DocName → LexBreach → Event
lex_event d b = refused (doc_word d ∷ codes " byte " ∷ decimal b.at ∷ codes " " ∷ lex_word b.kind ∷ [])

-- `refused DOC token T unexpected`, or `limit depth DOC token T`
abbrev pub tree_event : DocName → ℕ → TreeKind → Event
tree_event d token tree.Unexpected = refused (doc_word d ∷ codes " token " ∷ decimal token ∷ codes " unexpected" ∷ [])
tree_event d token tree.Deep = limit (codes "depth " ∷ doc_word d ∷ codes " token " ∷ decimal token ∷ [])

-- `refused DOC line L KIND`
abbrev pub shape_refused : DocName → ℕ → List ℕ → Event
shape_refused d line kind = refused (doc_word d ∷ codes " line " ∷ decimal line ∷ codes " " ∷ kind ∷ [])

-- `limit NAME DOC line L`
abbrev pub shape_limit : DocName → ℕ → List ℕ → Event
shape_limit d line name = limit (name ∷ codes " " ∷ doc_word d ∷ codes " line " ∷ decimal line ∷ [])

-- `refused mappings line L sql T`
abbrev pub sql_refused : ℕ → ℕ → Event
sql_refused line token = refused (codes "mappings line " ∷ decimal line ∷ codes " sql " ∷ decimal token ∷ [])

-- a breach or a limit of a shape; that of a source query is printed with its own token
abbrev pub shape_event : DocName → ℕ → ShapeKind → Event
shape_event d line shape.Shape = shape_refused d line (codes "shape")
shape_event d line shape.UnknownPrefix = shape_refused d line (codes "unknown-prefix")
shape_event d line shape.TwoKinds = shape_refused d line (codes "two-kinds")
shape_event d line shape.Datatype = shape_refused d line (codes "datatype")
shape_event d line shape.NotDlLite = shape_refused d line (codes "not-dl-lite")
shape_event d line shape.AssertionHere = shape_refused d line (codes "assertion-here")
shape_event d line shape.TopOnLeft = shape_refused d line (codes "top-on-left")
shape_event d line shape.BadConstant = shape_refused d line (codes "bad-constant")
shape_event d line shape.SortClash = shape_refused d line (codes "sort-clash")
shape_event d line shape.DoubleName = shape_refused d line (codes "double-name")
shape_event d line shape.UnknownTable = shape_refused d line (codes "unknown-table")
shape_event d line shape.UnknownColumn = shape_refused d line (codes "unknown-column")
shape_event d line shape.KindClash = shape_refused d line (codes "kind-clash")
shape_event d line (shape.Sql token) = sql_refused line token
shape_event d line shape.Names = shape_limit d line (codes "names")
shape_event d line shape.Items = shape_limit d line (codes "items")
shape_event d line shape.Atoms = shape_limit d line (codes "atoms")
shape_event d line shape.Aliases = shape_limit d line (codes "aliases")

-- `refused restrictions DOC line L KIND`
abbrev pub restriction_event : RestrictionBreach → Event
restriction_event b =
    refused (codes "restrictions " ∷ doc_word b.doc ∷ codes " line " ∷ decimal b.line ∷ codes " " ∷ restriction_word b.kind ∷ [])

-- `refused query NAME token T KIND`
abbrev pub query_refused : List ℕ → ℕ → List ℕ → Event
query_refused file token kind =
    refused (codes "query " ∷ quoted file ∷ codes " token " ∷ decimal token ∷ codes " " ∷ kind ∷ [])

-- `limit LIMIT query NAME token T`
abbrev pub query_limit : List ℕ → ℕ → List ℕ → Event
query_limit file token name =
    limit (name ∷ codes " query " ∷ quoted file ∷ codes " token " ∷ decimal token ∷ [])

-- a breach or a limit of a query
abbrev pub query_event : List ℕ → ℕ → QueryKind → Event
query_event file token query.Lex = query_refused file token (codes "lex")
query_event file token query.Grammar = query_refused file token (codes "grammar")
query_event file token query.UnknownName = query_refused file token (codes "unknown-name")
query_event file token query.UnknownColumn = query_refused file token (codes "unknown-column")
query_event file token query.DoubleName = query_refused file token (codes "double-name")
query_event file token query.SortClash = query_refused file token (codes "sort-clash")
query_event file token query.Width = query_refused file token (codes "width")
query_event file token query.BadConstant = query_refused file token (codes "bad-constant")
query_event file token query.Depth = query_limit file token (codes "depth")
query_event file token query.Operators = query_limit file token (codes "operators")
query_event file token query.Entries = query_limit file token (codes "entries")
query_event file token query.Disjuncts = query_limit file token (codes "disjuncts")
query_event file token query.Atoms = query_limit file token (codes "atoms")
query_event file token query.Names = query_limit file token (codes "names")

-- `refused table TABLE record N column C KIND`
abbrev pub row_refused : List ℕ → ℕ → ℕ → List ℕ → Event
row_refused table record_number column kind =
    refused (codes "table " ∷ table ∷ codes " record " ∷ decimal record_number ∷ codes " column " ∷ decimal column ∷ codes " "
    ∷ kind ∷ [])

-- `limit rows table TABLE record N`
abbrev pub too_many_rows : List ℕ → ℕ → Event
too_many_rows table number = limit (codes "rows table " ∷ table ∷ codes " record " ∷ decimal number ∷ [])

-- a breach of a table, or the limit of rows
abbrev pub row_event : List ℕ → ℕ → ℕ → RowKind → Event
row_event table number column row.Header = row_refused table number column (codes "header")
row_event table number column row.Rows = too_many_rows table number
row_event table number column row.Width = row_refused table number column (codes "width")
row_event table number column row.NotUtf8 = row_refused table number column (codes "not-utf8")
row_event table number column row.Missing = row_refused table number column (codes "missing")
row_event table number column row.BadInt = row_refused table number column (codes "bad-int")
row_event table number column row.BadDate = row_refused table number column (codes "bad-date")

-- `limit bytes DOC`
abbrev pub doc_bytes : DocName → Event
doc_bytes d = limit (codes "bytes " ∷ doc_word d ∷ [])

-- `limit bytes query NAME`
abbrev pub query_bytes : List ℕ → Event
query_bytes file = limit (codes "bytes query " ∷ quoted file ∷ [])

-- `limit bytes table TABLE`
abbrev pub table_bytes : List ℕ → Event
table_bytes table = limit (codes "bytes table " ∷ table ∷ [])

-- `limit closure violation DOC line L`
abbrev pub violation_closure : DocName → ℕ → Event
violation_closure d line = limit (codes "closure violation " ∷ doc_word d ∷ codes " line " ∷ decimal line ∷ [])

-- `limit closure query NAME table I block J`
abbrev pub block_closure : List ℕ → ℕ → ℕ → Event
block_closure file table block =
    limit (codes "closure query " ∷ quoted file ∷ codes " table " ∷ decimal table ∷ codes " block " ∷ decimal block ∷ [])

-- what a refusal tells of, and its line
abbrev pub event_of : Refusal → Event
event_of (of.Lex d b) = lex_event d b
event_of (of.Tree d b) = tree_event d b.token b.kind
event_of (of.Shape d b) = shape_event d b.line b.kind
event_of (of.Restriction b) = restriction_event b
event_of (of.Query file b) = query_event file b.token b.kind
event_of (of.Table table b) = row_event table b.number b.column b.kind
event_of (of.DocBytes d) = doc_bytes d
event_of (of.QueryBytes file) = query_bytes file
event_of (of.TableBytes table) = table_bytes table
event_of of.Violations = limit (codes "violations" ∷ [])
event_of (of.ViolationClosure d line) = violation_closure d line
event_of (of.BlockClosure file table block) = block_closure file table block
event_of (of.ReadFault file) = read_fault file

-- whether a refusal is a breach, a limit or a read fault
abbrev pub event_kind : Refusal → EventKind
event_kind refusal = (event_of refusal).0

-- the line of a refusal
abbrev pub refusal_line : Refusal → List ℕ
refusal_line refusal = (event_of refusal).1
