-- Tables and columns that were read, with the kinds of columns by name.
use Rattle.std.specs.Prelude.{◌≡◌, ℕ, List, Result, Ok, Err, map}
use Rattle.mast_terms.specs.Answers.{Answers}
use Rattle.mast_terms.specs.declared.memory.Stop.{Stop}
use Rattle.mast_terms.specs.declared.value.Kind.{Kind}
use Rattle.mast_tables.specs.declared.declaration.Column.{Column}
use Rattle.mast_tables.specs.declared.declaration.TableDecl.{TableDecl}
use Rattle.mast_tree.specs.declared.item.Item.{Item}
use Rattle.mast_tree.specs.declared.shape.ShapeBreach.{ShapeBreach}
use Rattle.mast_tree.specs.Results.{Gives}
use Rattle.mast_tree.specs.Said.{said}
use Rattle.mast_tree.specs.Seen.{Document}
use Rattle.mast_mapping.specs.Declarations.{column_of}
use Rattle.mast_mapping.specs.inside.Indices.{column_kinds}

-- the names of columns that have kinds
abbrev pub names_of : List (List ℕ × Kind) → List (List ℕ)
names_of kinds = map (λ e. e.0) kinds

-- a table was read, with the kinds of its columns
abbrev pub IsDeclared : Result TableDecl ShapeBreach → TableDecl × List (List ℕ × Kind) → Type 0
IsDeclared told given = (told ≡ Ok given.0) × (given.1 ≡ column_kinds given.0.columns)

-- columns were read, with their kinds
abbrev pub AreDeclared : Result (List Column) ShapeBreach → List Column × List (List ℕ × Kind) → Type 0
AreDeclared told given = (told ≡ Ok given.0) × (given.1 ≡ column_kinds given.0)

-- a table was read, with the kinds of its columns, or this is its breach
abbrev pub ReadsTable : Result TableDecl ShapeBreach → Result (TableDecl × List (List ℕ × Kind)) (Stop ShapeBreach) → Type 0
ReadsTable told result = Answers result (IsDeclared told) (λ breach. told ≡ Err breach)

-- columns were read, with their kinds, or this is their breach
abbrev pub ReadsColumns : Result (List Column) ShapeBreach → Result (List Column × List (List ℕ × Kind)) (Stop ShapeBreach) → Type 0
ReadsColumns told result = Answers result (AreDeclared told) (λ breach. told ≡ Err breach)

-- a column was read, or this is its breach
abbrev pub ReadsColumn : Document → List (List ℕ) → Item → Result Column (Stop ShapeBreach) → Type 0
ReadsColumn doc before item result = Gives result (column_of doc before (said doc item))
