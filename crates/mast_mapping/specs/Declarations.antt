-- Declared tables: what a `Table` item declares, by the tables that stand before it, or its first breach.
use Rattle.std.specs.Prelude.{ℕ, Bool, true, false, if◌then◌else◌, List, [], ◌∷◌, ◌++◌, Result, Ok, Err, codes}
use Rattle.std.specs.Str.{bytes_eq}
use Rattle.mast_terms.specs.declared.value.Kind.{Kind}
use Rattle.mast_terms.specs.declared.value.Kind.TheVariants as kind
use Rattle.mast_terms.specs.Vocabularies.{stands}
use Rattle.mast_tables.specs.declared.declaration.Column.{Column}
use Rattle.mast_tables.specs.declared.declaration.TableDecl.{TableDecl}
use Rattle.mast_tree.specs.Seen.{Document}
use Rattle.mast_tree.specs.declared.item.Item.{Item}
use Rattle.mast_tree.specs.declared.shape.ShapeBreach.{ShapeBreach}
use Rattle.mast_tree.specs.declared.shape.ShapeKind.{ShapeKind}
use Rattle.mast_tree.specs.declared.shape.ShapeKind.TheVariants as shape
use Rattle.mast_tree.specs.Constants.{identifier_of}
use Rattle.mast_tree.specs.Prefixes.{shape_at}
use Rattle.mast_tree.specs.Said.{Said, name, text, node, line, said}
use Rattle.mast_mapping.specs.OverTables.{column_names}

-- a breach of a kind at a line
abbrev pub wrong_at : ShapeKind → ℕ → ShapeBreach
wrong_at why at = record { line = at; kind = why }

-- the text of a string without a type and a language
abbrev pub string_of : Said → Result (List ℕ) ShapeBreach
string_of (text chars at) = Ok chars
string_of other = Err (shape_at (line other))

-- a name that is not among those before
abbrev pub new_among : List (List ℕ) → Result (List ℕ) ShapeBreach → ℕ → Result (List ℕ) ShapeBreach
new_among before (Err breach) at = Err breach
new_among before (Ok word) at = if stands word before then Err (wrong_at shape.DoubleName at) else Ok word

-- an identifier that is not among those before
abbrev pub new_name : List (List ℕ) → Said → Result (List ℕ) ShapeBreach
new_name before s = new_among before (identifier_of s) (line s)

-- the kind that a leaf names
abbrev pub kind_of : Said → Result Kind ShapeBreach
kind_of (name word at) =
    if bytes_eq word (codes "text") then Ok kind.Text
    else if bytes_eq word (codes "integer") then Ok kind.Integer
    else if bytes_eq word (codes "date") then Ok kind.Date
    else Err (shape_at at)
kind_of other = Err (shape_at (line other))

-- the leaf `Null`, which says that cells may be missing
abbrev pub null_of : Said → Result Bool ShapeBreach
null_of (name word at) = if bytes_eq word (codes "Null") then Ok true else Err (shape_at at)
null_of other = Err (shape_at (line other))

-- a column of these parts, or the first breach among them
abbrev pub column_of_parts :
    Result (List ℕ) ShapeBreach → Result Kind ShapeBreach → Result Bool ShapeBreach → Result Column ShapeBreach
column_of_parts (Err breach) k null = Err breach
column_of_parts (Ok word) (Err breach) null = Err breach
column_of_parts (Ok word) (Ok k) (Err breach) = Err breach
column_of_parts (Ok word) (Ok k) (Ok null) = Ok (record { name = word; kind = k; null = null })

-- the items of a `Column` node: a name that no column before has, a kind, and `Null` where cells may be missing
abbrev pub column_in : Document → List (List ℕ) → ℕ → List Item → Result Column ShapeBreach
column_in doc before at (first ∷ (second ∷ [])) =
    column_of_parts (new_name before (said doc first)) (kind_of (said doc second)) (Ok false)
column_in doc before at (first ∷ (second ∷ (third ∷ []))) =
    column_of_parts (new_name before (said doc first)) (kind_of (said doc second)) (null_of (said doc third))
column_in doc before at items = Err (shape_at at)

-- the column that an item declares, where these names stand before
abbrev pub column_of : Document → List (List ℕ) → Said → Result Column ShapeBreach
column_of doc before (node word at items) =
    if bytes_eq word (codes "Column") then column_in doc before at items else Err (shape_at at)
column_of doc before other = Err (shape_at (line other))

-- what comes of the columns with one more, or its breach
abbrev pub with_column :
    List Column → Result Column ShapeBreach → (List Column → Result (List Column) ShapeBreach) → Result (List Column) ShapeBreach
with_column before (Err breach) later = Err breach
with_column before (Ok column) later = later (before ++ column ∷ [])

-- the columns that items declare behind these, or the first breach
abbrev pub columns_of : Document → List Column → List Item → Result (List Column) ShapeBreach
columns_of doc before [] = Ok before
columns_of doc before (item ∷ items) =
    with_column before (column_of doc (column_names before) (said doc item)) (λ more. columns_of doc more items)

-- a table of these parts, or the first breach among them
abbrev pub table_of_parts :
    Result (List ℕ) ShapeBreach → Result (List ℕ) ShapeBreach → Result (List Column) ShapeBreach → Result TableDecl ShapeBreach
table_of_parts (Err breach) file columns = Err breach
table_of_parts (Ok word) (Err breach) columns = Err breach
table_of_parts (Ok word) (Ok file) (Err breach) = Err breach
table_of_parts (Ok word) (Ok file) (Ok columns) = Ok (record { name = word; file = file; columns = columns })

-- the items of a `Table` node: a name that no table before has, a file, and one column or more
abbrev pub table_in : Document → List (List ℕ) → ℕ → List Item → Result TableDecl ShapeBreach
table_in doc before at (first ∷ (file ∷ (column ∷ columns))) =
    table_of_parts (new_name before (said doc first)) (string_of (said doc file)) (columns_of doc [] (column ∷ columns))
table_in doc before at items = Err (shape_at at)
