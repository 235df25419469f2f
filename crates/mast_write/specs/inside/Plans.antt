-- How the lines of split mappings are printed: cells, each behind bytes that are the same for all choices of rows.
use Rattle.std.specs.Prelude.{◌≡◌, ◌-◌, ◌<◌, ℕ, List, [], ◌∷◌, ◌++◌, Option, Some, None, length, get_or, codes, option_map}
use Rattle.std.specs.List.{AllByRecursion}
use Rattle.std.specs.Option.{option_to_list}
use Rattle.mast_canon.specs.Facts.{of_both, object_of, slot_value, slot_values, fact_of}
use Rattle.mast_mapping.specs.declared.map.Head.{Head}
use Rattle.mast_mapping.specs.declared.map.Head.TheVariants as heads
use Rattle.mast_mapping.specs.declared.map.Slot.{Slot}
use Rattle.mast_mapping.specs.declared.map.Template.{Template}
use Rattle.mast_mapping.specs.declared.split_map.SplitMap.{SplitMap}
use Rattle.mast_sql.specs.declared.query.FromEntry.{FromEntry}
use Rattle.mast_tables.specs.declared.declaration.TableDecl.{TableDecl}
use Rattle.mast_tables.specs.Rows.{Row, IsPlace, cell_at}
use Rattle.mast_terms.specs.declared.name.Name.{Name}
use Rattle.mast_terms.specs.declared.name.NameKind.{NameKind}
use Rattle.mast_terms.specs.declared.value.Value.{Value}
use Rattle.mast_terms.specs.Printed.{after_commas, args_text, term_text, value_text}
use Rattle.mast_terms.specs.Vocabularies.{Lists}
use Rattle.mast_write.specs.FactLines.{fact_line, iri_of, printed}
use Rattle.mast_write.specs.declared.line_plan.Cell.{Cell}
use Rattle.mast_write.specs.declared.line_plan.LinePlan.{LinePlan}
use Rattle.mast_write.specs.declared.cells.CellPlace.{CellPlace}
use Rattle.mast_write.specs.declared.cells.Source.{Source}
use Rattle.mast_write.specs.FactPlans.{line_of}
use Rattle.mast_write.specs.inside.Cells.{IsPlaceOver}

-- one text behind the other, where both are there
abbrev pub joined : Option (List ℕ) → Option (List ℕ) → Option (List ℕ)
joined left right = of_both (λ a b. a ++ b) left right

-- what cells hold, by their places
abbrev pub Holding : Type 0
Holding = CellPlace → Option Value

-- the text of cells, each behind its bytes
abbrev pub cells_text : Holding → List Cell → Option (List ℕ)
cells_text holding [] = Some []
cells_text holding (cell ∷ cells) =
    joined (Some cell.before.items) (joined (option_map value_text (holding cell.place)) (cells_text holding cells))

-- the line of cells and the bytes after them, if no cell is missing
abbrev pub plan_text : Holding → LinePlan → Option (List ℕ)
plan_text holding plan = joined (cells_text holding plan.cells.items) (Some plan.tail.items)

-- what cells hold in rows that are chosen
abbrev pub in_rows : List Row → Holding
in_rows rows place = get_or (get_or rows place.entry []) (place.column - 1) None

-- the line for rows that are chosen
abbrev pub row_text : List Row → LinePlan → Option (List ℕ)
row_text rows plan = plan_text (in_rows rows) plan

-- what cells hold in tables, by the numbers of the chosen rows
abbrev pub chosen_cell : List (List Row) → List ℕ → Holding
chosen_cell tables choice place = cell_at (get_or tables place.table []) (get_or choice place.entry 0) place.column

-- the line of the cells that a choice has, or none where one is missing
abbrev pub cells_line : List (List Row) → List ℕ → LinePlan → List (List ℕ)
cells_line tables choice plan = option_to_list (plan_text (chosen_cell tables choice) plan)

-- the tables and the choice have the cell
pub record IsThere (tables : List (List Row)) (choice : List ℕ) (cell : Cell) : Type 0 where
  pub entry : cell.place.entry < length choice
  pub table : cell.place.table < length tables
  pub place : IsPlace (get_or tables cell.place.table []) (get_or choice cell.place.entry 0) cell.place.column

-- they have all of these cells
abbrev pub AreThere : List (List Row) → List ℕ → List Cell → Type 0
AreThere tables choice cells = AllByRecursion (IsThere tables choice) cells

-- the places are those of columns of the tables of entries
abbrev pub ArePlaced : List TableDecl → List FromEntry → List Cell → Type 0
ArePlaced tables entries cells = AllByRecursion (λ cell. IsPlaceOver tables entries cell.place) cells

-- the places of a plan are those of columns of the tables of the source query
abbrev pub AreOver : Source → LinePlan → Type 0
AreOver source plan = ArePlaced source.tables.now source.query.now.from plan.cells.items

-- a part of a line: its text for chosen rows, or none where a cell is missing
abbrev pub Part : Type 0
Part = Source → List Row → Option (List ℕ)

-- the printed value of a slot
abbrev pub slot_text : Slot → Part
slot_text slot source rows = option_map value_text (slot_value source.tables.now source.query.now rows slot)

-- the printed values of slots, each behind a comma
abbrev pub later_text : List Slot → Part
later_text slots source rows = option_map after_commas (slot_values source.tables.now source.query.now rows slots)

-- the printed values of slots, with commas between them
abbrev pub slots_text : List Slot → Part
slots_text slots source rows = option_map args_text (slot_values source.tables.now source.query.now rows slots)

-- the printed object of a template
abbrev pub object_text : Template → Part
object_text object source rows = option_map term_text (object_of source.tables.now source.query.now rows object)

-- the line of the fact of a head
abbrev pub head_text : Head → Part
head_text head source rows =
    option_map (λ fact. fact_line source.vocab.now (printed fact))
    (fact_of source.tables.now source.query.now rows head)

-- that of a head of a class
abbrev pub class_text : Name → Template → Part
class_text name subject = head_text (heads.Class name subject)

-- that of a head of a role
abbrev pub role_text : Name → Template → Template → Part
role_text name from to = head_text (heads.Role name from to)

-- that of a head of an attribute
abbrev pub attr_text : Name → Template → Slot → Part
attr_text name from value = head_text (heads.Attr name from value)

-- `<iri>(`
abbrev pub name_text : Lists → NameKind → Name → List ℕ
name_text vocab kind name = codes "<" ++ (iri_of vocab kind name ++ codes ">(")

-- a plan has this part behind what it had, whatever rows are chosen, and its places stay those of columns
pub record Adds (source : Source) (old new : LinePlan) (part : Part) : Type 0 where
  pub text : (rows : List Row) → row_text rows new ≡ joined (row_text rows old) (part source rows)
  pub places : AreOver source old → AreOver source new

-- a plan has more bytes at its end
pub record AddsBytes (old new : LinePlan) (bytes : List ℕ) : Type 0 where
  pub cells : new.cells ≡ old.cells
  pub tail : new.tail.items ≡ old.tail.items ++ bytes

-- a plan has a cell behind all its bytes
pub record AddsCell (old new : LinePlan) (place : CellPlace) : Type 0 where
  pub cell : Cell
  pub before : cell.before ≡ old.tail
  pub is : cell.place ≡ place
  pub cells : new.cells.items ≡ old.cells.items ++ cell ∷ []
  pub tail : new.tail.items ≡ []

-- a plan prints the line of the fact that the split mapping gives of chosen rows, whatever rows are chosen
pub record IsPlan (vocab : Lists) (tables : List TableDecl) (map : SplitMap) (plan : LinePlan) : Type 0 where
  pub text : (rows : List Row) → row_text rows plan ≡ line_of vocab tables map rows
  pub places : ArePlaced tables map.query.from plan.cells.items
