-- Maps: what is judged of a `Map` item, and the map that it is.
use Rattle.std.specs.Prelude.{◌≡◌, ℕ, List, [], ◌∷◌, Option, Some, None, Result, Ok, Err, map}
use Rattle.mast_terms.specs.Vocabularies.{Lists}
use Rattle.mast_sql.specs.declared.query.SourceQuery.{SourceQuery}
use Rattle.mast_tables.specs.declared.declaration.TableDecl.{TableDecl}
use Rattle.mast_tree.specs.Seen.{Document}
use Rattle.mast_tree.specs.declared.item.Item.{Item}
use Rattle.mast_tree.specs.declared.shape.ShapeBreach.{ShapeBreach}
use Rattle.mast_tree.specs.declared.shape.ShapeKind.{ShapeKind}
use Rattle.mast_tree.specs.declared.shape.ShapeKind.TheVariants as shape
use Rattle.mast_tree.specs.Judgements.{Judgement, breaks}
use Rattle.mast_tree.specs.MainNode.{Prefixes}
use Rattle.mast_tree.specs.Prefixes.{shape_at}
use Rattle.mast_tree.specs.Said.{Said, text, line, said}
use Rattle.mast_mapping.specs.declared.map.Map.{Map}
use Rattle.mast_mapping.specs.Declarations.{wrong_at}
use Rattle.mast_mapping.specs.Heads.{Scope, heads_judged, AreHeads}
use Rattle.mast_mapping.specs.Queries.{query_breach}
use Rattle.mast_mapping.specs.Readings.{Reading, query, wrong, Texts}

-- a source query with which nothing is wrong
abbrev pub query_right : SourceQuery → ℕ → Option ShapeKind → Result SourceQuery ShapeBreach
query_right q at None = Ok q
query_right q at (Some why) = Err (wrong_at why at)

-- what a text at a line reads as is a source query over the tables
abbrev pub query_read : List TableDecl → ℕ → Reading → Result SourceQuery ShapeBreach
query_read tables at (wrong why) = Err (wrong_at why at)
query_read tables at (query q) = query_right q at (query_breach tables q)

-- a string without a type and a language that is a source query over the tables
abbrev pub query_of : Texts → List TableDecl → Said → Result SourceQuery ShapeBreach
query_of texts tables (text chars at) = query_read tables at (texts.readings chars)
query_of texts tables other = Err (shape_at (line other))

-- the outputs of a source query
abbrev pub outputs : SourceQuery → List (List ℕ)
outputs q = map (λ item. item.output) q.items

-- what the heads of a map are read by
abbrev pub scope_of : Texts → Document → Prefixes → SourceQuery → Scope
scope_of texts doc prefixes q = record { doc = doc; prefixes = prefixes; outputs = outputs q; dates = texts.dates }

-- what is judged of a source query, and of the heads by it
abbrev pub parts_judged : Texts → Document → Prefixes → Result SourceQuery ShapeBreach → List Item → List Judgement
parts_judged texts doc prefixes (Err breach) heads = breaks breach.kind breach.line ∷ []
parts_judged texts doc prefixes (Ok q) heads = heads_judged (scope_of texts doc prefixes q) heads

-- the items of a `Map` node, by the tables before it: a source query, and one head or more
abbrev pub map_judged : Texts → Document → Prefixes → List TableDecl → ℕ → List Item → List Judgement
map_judged texts doc prefixes tables at (source ∷ (first ∷ heads)) =
    parts_judged texts doc prefixes (query_of texts tables (said doc source)) (first ∷ heads)
map_judged texts doc prefixes tables at items = breaks shape.Shape at ∷ []

-- these items are those of this map: its line is that of the string
abbrev pub IsMap : Lists → Texts → Document → Prefixes → List TableDecl → List Item → Map → Type 0
IsMap lists texts doc prefixes tables (source ∷ (first ∷ heads)) m =
    (m.line ≡ line (said doc source)) × (query_of texts tables (said doc source) ≡ Ok m.query)
    × AreHeads lists (scope_of texts doc prefixes m.query) (first ∷ heads) m.heads
IsMap lists texts doc prefixes tables items m = ⊥
