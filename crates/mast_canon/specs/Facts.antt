-- Facts and supports: what the mappings give of the rows of tables.
use Rattle.std.specs.Prelude.{◌≡◌, ◌↔◌, ℕ, List, [], ◌∷◌, get_or, Option, Some, None}
use Rattle.std.specs.List.{AllByRecursion}
use Rattle.std.specs.Option.{option_map}
use Rattle.mast_terms.specs.declared.term.Term.{Term}
use Rattle.mast_terms.specs.declared.term.Term.TheVariants as term
use Rattle.mast_terms.specs.declared.value.Value.{Value}
use Rattle.mast_cq.specs.Meanings.{Fact, InClass, InRole, InAttr}
use Rattle.mast_cq.specs.Queries.{In}
use Rattle.mast_sql.specs.declared.query.FromEntry.{FromEntry}
use Rattle.mast_sql.specs.declared.query.SourceQuery.{SourceQuery}
use Rattle.mast_tables.specs.declared.declaration.TableDecl.{TableDecl}
use Rattle.mast_tables.specs.Rows.{Row}
use Rattle.mast_mapping.specs.declared.map.Head.{Head}
use Rattle.mast_mapping.specs.declared.map.Head.TheVariants.{Class, Role, Attr}
use Rattle.mast_mapping.specs.declared.map.Map.{Map}
use Rattle.mast_mapping.specs.declared.map.Slot.{Slot}
use Rattle.mast_mapping.specs.declared.map.Slot.TheVariants.{Output, Constant}
use Rattle.mast_mapping.specs.declared.map.Template.{Template}
use Rattle.mast_mapping.specs.declared.split_map.SplitMap.{SplitMap}
use Rattle.mast_mapping.specs.Columns.{meaning_of_output}
use Rattle.mast_canon.specs.declared.rows.RowId.{RowId}
use Rattle.mast_canon.specs.Choices.{table_number, IsRowNumber, chosen, cell_of, Meets}

-- what a function gives of two things, where both are there
abbrev pub of_both : {A B C : Type 0} → (A → B → C) → Option A → Option B → Option C
of_both f None b = None
of_both f (Some a) None = None
of_both f (Some a) (Some b) = Some (f a b)

-- the value of a slot in the chosen rows: none where its cell is missing
abbrev pub slot_value : List TableDecl → SourceQuery → List Row → Slot → Option Value
slot_value decls query rows (Output name) = cell_of rows (meaning_of_output decls query name)
slot_value decls query rows (Constant value) = Some value

-- the values of slots: none where a cell is missing
abbrev pub slot_values : List TableDecl → SourceQuery → List Row → List Slot → Option (List Value)
slot_values decls query rows [] = Some []
slot_values decls query rows (slot ∷ slots) =
    of_both (λ value values. value ∷ values) (slot_value decls query rows slot) (slot_values decls query rows slots)

-- the object of a template: none where a cell is missing
abbrev pub object_of : List TableDecl → SourceQuery → List Row → Template → Option Term
object_of decls query rows template =
    option_map (λ values. term.Object (record { symbol = template.symbol; args = values })) (slot_values decls query rows template.args)

-- the fact of a head: none where a cell is missing
abbrev pub fact_of : List TableDecl → SourceQuery → List Row → Head → Option (Fact Term)
fact_of decls query rows (Class name subject) = option_map (λ t. InClass name t) (object_of decls query rows subject)
fact_of decls query rows (Role name from to) =
    of_both (λ t u. InRole name t u) (object_of decls query rows from) (object_of decls query rows to)
fact_of decls query rows (Attr name from value) =
    of_both (λ t v. InAttr name t (term.Value v)) (object_of decls query rows from) (slot_value decls query rows value)

-- the choice meets the source query, and gives the fact of the head
pub record Gives (decls : List TableDecl) (tables : List (List Row)) (query : SourceQuery) (head : Head) (choice : List ℕ) (fact : Fact Term) : Type 0 where
  pub meets : Meets decls tables query choice
  pub gives : fact_of decls query (chosen decls tables query.from choice) head ≡ Some fact

-- the rows of a choice for these entries, in order
abbrev pub chosen_rows : List TableDecl → List FromEntry → List ℕ → List RowId
chosen_rows decls [] choice = []
chosen_rows decls (entry ∷ entries) [] = []
chosen_rows decls (entry ∷ entries) (number ∷ choice) =
    record { table = table_number entry.table decls; number = number } ∷ chosen_rows decls entries choice

-- the two lists have the same rows, in whatever order and however often
abbrev pub HaveSameRows : List RowId → List RowId → Type 0
HaveSameRows rows others = (row : RowId) → In row rows ↔ In row others

-- the rows are a support of the fact: those of a choice that gives it, by a split mapping
pub record IsSupport (decls : List TableDecl) (tables : List (List Row)) (maps : List SplitMap) (fact : Fact Term) (rows : List RowId) : Type 0 where
  pub map : SplitMap
  pub stands : In map maps
  pub choice : List ℕ
  pub gives : Gives decls tables map.query map.head choice fact
  pub are : HaveSameRows rows (chosen_rows decls map.query.from choice)

-- Facts(X): the facts that have a support within X
pub record IsFactOf (decls : List TableDecl) (tables : List (List Row)) (maps : List SplitMap) (X : RowId → Type 0) (fact : Fact Term) : Type 0 where
  pub rows : List RowId
  pub support : IsSupport decls tables maps fact rows
  pub within : AllByRecursion X rows

-- All: the rows of all tables
abbrev pub IsOfTables : List (List Row) → RowId → Type 0
IsOfTables tables row = IsRowNumber (get_or tables row.table []) row.number

-- the rows are a support of the fact by mappings as a document has them: those of a choice that gives it by one of a mapping's heads
pub record IsSupportByMaps (decls : List TableDecl) (tables : List (List Row)) (maps : List Map) (fact : Fact Term) (rows : List RowId) : Type 0 where
  pub map : Map
  pub stands : In map maps
  pub head : Head
  pub among : In head map.heads
  pub choice : List ℕ
  pub gives : Gives decls tables map.query head choice fact
  pub are : HaveSameRows rows (chosen_rows decls map.query.from choice)
