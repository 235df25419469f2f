-- What is wrong with a source query, by the tables that are declared before it.
use Rattle.std.specs.Prelude.{ℕ, if◌then◌else◌, List, [], ◌∷◌, ◌++◌, Option, Some, None}
use Rattle.std.specs.Option.{option_or, option_map}
use Rattle.mast_terms.specs.declared.value.Kind.{Kind}
use Rattle.mast_terms.specs.declared.value.Kind.TheVariants as kind
use Rattle.mast_terms.specs.Vocabularies.{stands}
use Rattle.mast_sql.specs.declared.query.Comparison.{Comparison}
use Rattle.mast_sql.specs.declared.query.FromEntry.{FromEntry}
use Rattle.mast_sql.specs.declared.query.Operand.{Operand}
use Rattle.mast_sql.specs.declared.query.Operand.TheVariants as operand
use Rattle.mast_sql.specs.declared.query.SelectItem.{SelectItem}
use Rattle.mast_sql.specs.declared.query.SourceQuery.{SourceQuery}
use Rattle.mast_tables.specs.declared.declaration.TableDecl.{TableDecl}
use Rattle.mast_tables.specs.Whole.{value_kind}
use Rattle.mast_tree.specs.declared.shape.ShapeKind.{ShapeKind}
use Rattle.mast_tree.specs.declared.shape.ShapeKind.TheVariants as shape
use Rattle.mast_mapping.specs.Columns.{table_named, meaning_of}

-- a name that stands before is double
abbrev pub double_breach : List ℕ → List (List ℕ) → Option ShapeKind
double_breach name before = if stands name before then Some shape.DoubleName else None

-- what stands for nothing that is there, or else what comes after
abbrev pub unless_there : {A : Type 0} → ShapeKind → Option A → Option ShapeKind → Option ShapeKind
unless_there kind None later = Some kind
unless_there kind (Some there) later = later

-- the entries in order: the table, then the alias, where these aliases stand before
abbrev pub from_breach : List TableDecl → List (List ℕ) → List FromEntry → Option ShapeKind
from_breach tables before [] = None
from_breach tables before (entry ∷ entries) =
    unless_there shape.UnknownTable (table_named entry.table tables)
    (option_or (double_breach entry.alias before) (from_breach tables (before ++ entry.alias ∷ []) entries))

-- the items in order: the column, then the output, where these outputs stand before
abbrev pub items_breach : List TableDecl → List FromEntry → List (List ℕ) → List SelectItem → Option ShapeKind
items_breach tables from before [] = None
items_breach tables from before (item ∷ items) =
    unless_there shape.UnknownColumn (meaning_of tables from item.alias item.column)
    (option_or (double_breach item.output before) (items_breach tables from (before ++ item.output ∷ []) items))

-- the kind of a side of a comparison; none where its column means nothing
abbrev pub operand_kind : List TableDecl → List FromEntry → Operand → Option Kind
operand_kind tables from (operand.Column alias column) = option_map (λ m. m.kind) (meaning_of tables from alias column)
operand_kind tables from (operand.Constant value) = Some (value_kind value)

-- two kinds that differ
abbrev pub kinds_breach : Kind → Kind → Option ShapeKind
kinds_breach kind.Text kind.Text = None
kinds_breach kind.Integer kind.Integer = None
kinds_breach kind.Date kind.Date = None
kinds_breach _ _ = Some shape.KindClash

-- the sides of a comparison: the left one, the right one, then their kinds
abbrev pub sides_breach : Option Kind → Option Kind → Option ShapeKind
sides_breach None right = Some shape.UnknownColumn
sides_breach (Some left) None = Some shape.UnknownColumn
sides_breach (Some left) (Some right) = kinds_breach left right

-- the comparisons in order
abbrev pub comparisons_breach : List TableDecl → List FromEntry → List Comparison → Option ShapeKind
comparisons_breach tables from [] = None
comparisons_breach tables from (c ∷ cs) =
    option_or (sides_breach (operand_kind tables from c.left) (operand_kind tables from c.right)) (comparisons_breach tables from cs)

-- the first of these: an entry, an item, a comparison
abbrev pub query_breach : List TableDecl → SourceQuery → Option ShapeKind
query_breach tables query =
    option_or (from_breach tables [] query.from)
    (option_or (items_breach tables query.from [] query.items) (comparisons_breach tables query.from query.conditions))
