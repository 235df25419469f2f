-- Source queries that were read.
use Rattle.std.specs.Prelude.{◌≡◌, ℕ, List, map, Result, Ok, Err}
use Rattle.mast_terms.specs.Answers.{Answers}
use Rattle.mast_terms.specs.declared.memory.Stop.{Stop}
use Rattle.mast_sql.specs.declared.query.SelectItem.{SelectItem}
use Rattle.mast_sql.specs.declared.query.SourceQuery.{SourceQuery}
use Rattle.mast_tables.specs.declared.declaration.TableDecl.{TableDecl}
use Rattle.mast_tree.specs.declared.shape.ShapeBreach.{ShapeBreach}
use Rattle.mast_tree.specs.declared.shape.ShapeKind.{ShapeKind}
use Rattle.mast_tree.specs.Said.{Said}
use Rattle.mast_mapping.specs.Maps.{query_of, outputs}
use Rattle.mast_mapping.specs.Readings.{query, wrong, Texts, Reads}

-- the outputs of items
abbrev pub outputs_of : List SelectItem → List (List ℕ)
outputs_of items = map (λ item. item.output) items

-- a source query was read, with its outputs
abbrev pub ReadsSource : Texts → List TableDecl → Said → Result (SourceQuery × List (List ℕ)) (Stop ShapeBreach) → Type 0
ReadsSource texts tables s result =
    Answers result (λ given. (query_of texts tables s ≡ Ok given.0) × (given.1 ≡ outputs given.0)) (λ breach. query_of texts tables s ≡ Err breach)

-- a text was read as a source query, or has this breach
abbrev pub ReadsText : List ℕ → Result SourceQuery (Stop ShapeKind) → Type 0
ReadsText text result = Answers result (λ q. Reads text (query q)) (λ why. Reads text (wrong why))
