-- Places of columns, and the cells that stand there for chosen rows.
use Rattle.std.proofs.Common.{◌≡◌, ◌≤◌, ◌<◌, ◌-◌, ◌+◌, ℕ, suc, zero, List, [], ◌∷◌, Option, Some, None, length, get_or, slice_get, subst, sym, ap, ◌∙◌, refl, arith}
use Rattle.std.proofs.Math.Logic.{∥∥₁_elim}
use Rattle.std.proofs.Props.{props}
use Rattle.std.proofs.lemmas.Option.{get_or_from_slice_get, slice_get_within}
use Rattle.std.specs.Prelude.{option_map}
use Rattle.std.specs.List.{AllByRecursion, AllZip}
use Rattle.mast_canon.specs.Choices.{chosen, rows_of, table_number, IsRowNumber}
use Rattle.mast_canon.specs.Conditions.{HasNumbers, TablesHaveNumbers}
use Rattle.mast_canon.specs.Fitting.{Fits, IsCellOf, IsRowOf}
use Rattle.mast_canon.specs.Places.{meaning}
use Rattle.mast_canon.specs.declared.columns.Place.{Place}
use Rattle.mast_canon.proofs.ChoiceLemmas.{IsOfEntry, chosen_at, each_at, meaning_is_of, table_at, zip_at, zip_length}
use Rattle.mast_mapping.specs.Columns.{Meaning, item_named, meaning_of_item, meaning_of_output}
use Rattle.mast_sql.specs.declared.query.FromEntry.{FromEntry}
use Rattle.mast_sql.specs.declared.query.SelectItem.{SelectItem}
use Rattle.mast_sql.specs.declared.query.SourceQuery.{SourceQuery}
use Rattle.mast_tables.specs.declared.declaration.TableDecl.{TableDecl}
use Rattle.mast_tables.specs.Rows.{Row, cell_at}
use Rattle.mast_terms.specs.Printed.{value_text}
use Rattle.mast_write.specs.declared.line_plan.Cell.{Cell}
use Rattle.mast_write.specs.declared.line_plan.LinePlan.{LinePlan}
use Rattle.mast_write.specs.declared.cells.CellPlace.{CellPlace}
use Rattle.mast_write.specs.inside.Cells.{IsPlaceOver}
use Rattle.mast_write.specs.inside.Plans.{AreThere, ArePlaced, IsThere, cells_text, chosen_cell, in_rows, joined, plan_text}

-- the cells of a choice over tables that fit

module _ (decls : List TableDecl) (tables : List (List Row)) where
  abbrev IsChosen : List FromEntry → List ℕ → Type 0
  IsChosen entries choice = AllZip (λ entry number. IsRowNumber (rows_of decls tables entry) number) entries choice

  module _ (entries : List FromEntry) (choice : List ℕ) (fits : Fits decls tables) (is_choice : IsChosen entries choice) where
    -- the tables and the choice have a cell whose place is over the tables
    is_there : (cell : Cell) → IsPlaceOver decls entries cell.place → IsThere tables choice cell
    is_there cell over =
        let k = cell.place.entry in
        let rows = get_or tables cell.place.table [] in
        let row = get_or choice k 0 in
        let number : IsRowNumber rows row =
        subst (λ n. IsRowNumber (get_or tables n []) (get_or choice cell.place.entry 0)) (sym over.number)
        (zip_at (λ entry n. IsRowNumber (rows_of decls tables entry) n) entries choice k over.entry 0 is_choice over.stands) in
        let first : 1 ≤ row = number.0 in
        let last : row ≤ length rows = number.1 in
        let fit : AllByRecursion (IsRowOf over.table) rows =
        zip_at (λ decl some. AllByRecursion (IsRowOf decl) some) decls tables cell.place.table over.table [] fits over.declared in
        let wide : length over.table.columns ≡ length (get_or rows (row - 1) []) =
        zip_length IsCellOf over.table.columns (get_or rows (row - 1) [])
        (each_at (IsRowOf over.table) rows (row - 1) [] fit (omega (first, last, arith))) in
        let entry_in : k < length entries = slice_get_within entries k over.entry over.stands in
        let table_in : cell.place.table < length decls = slice_get_within decls cell.place.table over.table over.declared in
        let choices : length entries ≡ length choice = zip_length (λ entry n. IsRowNumber (rows_of decls tables entry) n) entries choice is_choice in
        let all : length decls ≡ length tables = zip_length (λ decl some. AllByRecursion (IsRowOf decl) some) decls tables fits in
        let to : cell.place.column ≤ length over.table.columns = over.to in
        record {
          entry = omega (entry_in, choices, arith);
          table = omega (table_in, all, arith);
          place = record { row_from = first; row_to = last; column_from = over.from; column_to = omega (to, wide, arith) };
        }

    -- so with all of them
    pub are_there : (cells : List Cell) → ArePlaced decls entries cells → AreThere tables choice cells
    are_there [] h = tt
    are_there (cell ∷ cells) h = (is_there cell h.0, are_there cells h.1)

    same_cell : (cell : Cell) → IsPlaceOver decls entries cell.place → chosen_cell tables choice cell.place ≡ in_rows (chosen decls tables entries choice) cell.place
    same_cell cell over =
        ap (λ n. cell_at (get_or tables n []) (get_or choice cell.place.entry 0) cell.place.column) over.number
        ∙ ap (λ row. get_or row (cell.place.column - 1) None) (sym (chosen_at decls tables entries choice cell.place.entry over.entry is_choice over.stands))

    same_cells : (cells : List Cell) → ArePlaced decls entries cells → cells_text (chosen_cell tables choice) cells ≡ cells_text (in_rows (chosen decls tables entries choice)) cells
    same_cells [] h = refl
    same_cells (cell ∷ cells) h =
        ap (λ v. joined (Some cell.before.items) (joined (option_map value_text v) (cells_text (chosen_cell tables choice) cells))) (same_cell cell h.0)
        ∙ ap (λ x. joined (Some cell.before.items) (joined (option_map value_text (in_rows (chosen decls tables entries choice) cell.place)) x)) (same_cells cells h.1)

    -- a plan prints the same of the cells in tables and of the chosen rows
    pub same_text : (plan : LinePlan) → ArePlaced decls entries plan.cells.items → plan_text (chosen_cell tables choice) plan ≡ plan_text (in_rows (chosen decls tables entries choice)) plan
    same_text plan h = ap (λ x. joined x (Some plan.tail.items)) (same_cells plan.cells.items h)

-- the place of an output

at_place : {A : Type 0} (P : A → Type 0) (xs : List A) (i : ℕ) (x : A) → AllByRecursion P xs → slice_get xs i ≡ Some x → P x
at_place P [] i x h e = absurd (cc)
at_place P (y ∷ xs) zero x h e = let same : y ≡ x = cc in subst P same h.0
at_place P (y ∷ xs) (suc i) x h e = at_place P xs i x h.1 e

module _ (decls : List TableDecl) where
  item_is_of : (entries : List FromEntry) (item : Option SelectItem) (m : Meaning) → meaning_of_item decls entries item ≡ Some m → IsOfEntry decls entries m.entry m
  item_is_of entries None m e = absurd (cc)
  item_is_of entries (Some item) m e = meaning_is_of decls entries item.alias item.column m e

  module _ (query : SourceQuery) (name : List ℕ) (place : Place) (o : Option Place) (means : option_map meaning o ≡ meaning_of_output decls query name) (is : o ≡ Some place) where
    of_entry : IsOfEntry decls query.from place.entry (meaning place)
    of_entry = item_is_of query.from (item_named name query.items) (meaning place) (sym means ∙ ap (option_map meaning) is)

    -- the entry of an output stands in the source query
    pub output_entry : place.entry < length query.from
    output_entry = slice_get_within query.from place.entry of_entry.entry of_entry.stands

    column_within : place.column < length of_entry.table.columns
    column_within = slice_get_within of_entry.table.columns place.column of_entry.column of_entry.at

    column_few : TablesHaveNumbers decls → place.column < 4294967295
    column_few numbered =
        let within = column_within in
        let few : length of_entry.table.columns < 4294967295 =
        at_place (λ table. HasNumbers table.columns) decls (table_number of_entry.entry.table decls) of_entry.table numbered.of_columns
        (table_at of_entry.entry.table decls of_entry.table of_entry.named) in
        omega (within, few, arith)

    -- the number of its column has 32 bits, and so has the next one
    pub output_column : ∥ TablesHaveNumbers decls ∥₁ → place.column < 4294967295
    output_column numbered = ∥∥₁_elim numbered (hlevel props) column_few

    -- a cell of that entry and that column has a place over the tables
    pub output_over : (cell : CellPlace) (entry : FromEntry) → cell.entry ≡ place.entry → cell.column ≡ place.column + 1
        → entry ≡ get_or query.from place.entry entry → cell.table ≡ table_number entry.table decls → IsPlaceOver decls query.from cell
    output_over cell entry at column stands number =
        let of = of_entry in
        let within = column_within in
        let same : entry ≡ of.entry = stands ∙ get_or_from_slice_get query.from place.entry of.entry entry of.stands in
        let here : cell.table ≡ table_number of.entry.table decls = number ∙ ap (λ e. table_number e.table decls) same in
        record {
          entry = of.entry;
          stands = subst (λ k. slice_get query.from k ≡ Some of.entry) (sym at) of.stands;
          number = here;
          table = of.table;
          declared = subst (λ k. slice_get decls k ≡ Some of.table) (sym here) (table_at of.entry.table decls of.table of.named);
          from = omega (column, arith);
          to = omega (column, within, arith);
        }
