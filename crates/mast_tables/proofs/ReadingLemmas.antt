-- One cell, and one record, after another.
use Rattle.std.proofs.Common.{◌≡◌, inl, inr, ℕ, ◌+◌, ◌<◌, ◌≤◌, true, false, List, [], ◌∷◌, ◌++◌, length, drop, refl, sym, ap, subst, ◌∙◌, arith, append_assoc, append-nil}
use Rattle.std.proofs.lemmas.List.{drop_all, length-append, length_push}
use Rattle.std.specs.Prelude.{Option, Result, Ok, Err}
use Rattle.csv.specs.Reading.{ExplainsRead, is_flexible}
use Rattle.csv.specs.declared.error.ErrorKind.{ErrorKind}
use Rattle.csv.specs.declared.error.ErrorKind.TheVariants as error
use Rattle.csv.specs.declared.reader.Reader.{Reader}
use Rattle.mast_terms.specs.declared.memory.Stop.{Stop}
use Rattle.mast_terms.specs.declared.memory.Stop.TheVariants as stop
use Rattle.mast_tables.specs.declared.declaration.RowBreach.{RowBreach}
use Rattle.mast_tables.specs.declared.declaration.RowKind.TheVariants as kind
use Rattle.mast_tables.specs.declared.cells.Cells.{Cells}
use Rattle.mast_tables.specs.declared.declaration.Column.{Column}
use Rattle.mast_tables.specs.declared.declaration.RowKind.{RowKind}
use Rattle.mast_terms.specs.declared.value.Value.{Value}
use Rattle.mast_tables.specs.Breach.{IsRow, IsWrongAt, RecordBreach}
use Rattle.mast_tables.specs.inside.Cells.{AreCells, cells_in, width_in}
use Rattle.mast_tables.specs.inside.Reading.{Adds, IsOfReading, TellsCells, TellsRow}
use Rattle.mast_tables.specs.Limits.{most_cells}
use Rattle.mast_tables.specs.Records.{Record}
use Rattle.mast_tables.specs.Rows.{Row}
use Rattle.mast_tables.specs.Typed.{IsCell, IsWrong}

-- so many cells of a record are read: what is left of it gives the whole
pub record Begun (columns : List Column) (fields : Record) (i : ℕ) (old new : Cells) : Type 0 where
  pub done : Row
  pub long : length done ≡ i
  pub adds : Adds old new done
  pub rest : (more : Row) → IsRow (drop i columns) (drop i fields) more → IsRow columns fields (done ++ more)
  pub wrong : (column : ℕ) (fault : RowKind) → IsWrongAt (i + 1) (drop i columns) (drop i fields) column fault → IsWrongAt 1 columns fields column fault

-- before the first cell
pub begun_none : (columns : List Column) (fields : Record) (c : Cells) → AreCells c → Begun columns fields 0 c c
begun_none columns fields c cells = record {
  done = [];
  long = refl;
  adds = record { cells = cells; added = sym (append-nil (cells_in c)); wide = refl };
  rest = λ more h. h;
  wrong = λ column fault h. h;
}

-- one more cell
pub begun_more : (columns : List Column) (fields : Record) (i : ℕ) (old mid new : Cells) (column : Column) (cell : List ℕ) (value : Option Value)
    → Begun columns fields i old mid
    → drop i columns ≡ column ∷ drop (i + 1) columns → drop i fields ≡ cell ∷ drop (i + 1) fields
    → IsCell column cell value → AreCells new → cells_in new ≡ cells_in mid ++ value ∷ [] → width_in new ≡ width_in mid
    → Begun columns fields (i + 1) old new
begun_more columns fields i old mid new column cell value b ec ef is cells added wide = record {
  done = b.done ++ value ∷ [];
  long = omega (arith, b.long, length_push b.done value);
  adds = record { cells = cells; added = added ∙ ap (λ (k : Row). k ++ value ∷ []) b.adds.added ∙ append_assoc (cells_in old) b.done (value ∷ []); wide = wide ∙ b.adds.wide };
  rest = λ more h. rw (append_assoc b.done (value ∷ []) more) (b.rest (value ∷ more) (rw (ec, ef) (is, h)));
  wrong = λ n fault h. b.wrong n fault (rw (ec, ef) (inr (value, is, h)));
}

-- the cells of the whole record
pub begun_all : (columns : List Column) (fields : Record) (i : ℕ) (old new : Cells) → Begun columns fields i old new → i ≡ length columns → length fields ≡ length columns → (row : Row) × IsRow columns fields row × Adds old new row
begun_all columns fields i old new b e w =
    let none : drop i columns ≡ [] = drop_all i columns (omega arith) in
    let gone : drop i fields ≡ [] = drop_all i fields (omega arith) in
    let whole : IsRow columns fields (b.done ++ []) = b.rest [] (rw (none, gone) tt) in
    (b.done, subst (λ (k : Row). IsRow columns fields k) (append-nil b.done) whole, b.adds)

-- a wrong cell is the first one
pub begun_wrong : (columns : List Column) (fields : Record) (i : ℕ) (old new : Cells) (column : Column) (cell : List ℕ) (fault : RowKind)
    → Begun columns fields i old new
    → drop i columns ≡ column ∷ drop (i + 1) columns → drop i fields ≡ cell ∷ drop (i + 1) fields
    → IsWrong column cell fault → IsWrongAt 1 columns fields (i + 1) fault
begun_wrong columns fields i old new column cell fault b ec ef is = b.wrong (i + 1) fault (rw (ec, ef) (inl (refl, is)))

-- one more cell has room
pub begun_room : (columns : List Column) (fields : Record) (i : ℕ) (old new : Cells) → Begun columns fields i old new → i < length fields
    → length (cells_in old) + length fields ≤ most_cells → length (cells_in new) < most_cells
begun_room columns fields i old new b lt room = omega (arith, b.long, ap length b.adds.added, length-append (cells_in old) b.done, room)

-- the errors of a plain reader are of reading alone
pub of_reading : {R : Type 0} (rem : R → Option (List ℕ)) (old new : Reader R) (what : ErrorKind) → is_flexible old ≡ true → ExplainsRead rem old new false what → IsOfReading what
of_reading rem old new (error.Io cause) h e = tt
of_reading rem old new error.OutOfMemory h e = tt
of_reading rem old new (error.UnequalLengths position expected long) h e = let stiff = e.0 in absurd (cc)
of_reading rem old new (error.Utf8 position cause) h e = let text = e.0 in absurd (cc)
of_reading rem old new (error.Serialize text) h e = e
of_reading rem old new (error.Deserialize position cause) h e = e

-- a wrong cell is no breach of a whole record
no_cell : RowKind → Type 0
no_cell kind.Header = Unit {0}
no_cell kind.Rows = Unit {0}
no_cell kind.Width = Unit {0}
no_cell kind.NotUtf8 = ⊥
no_cell kind.Missing = ⊥
no_cell kind.BadInt = ⊥
no_cell kind.BadDate = ⊥

not_wrong : (column : Column) (cell : List ℕ) (wrong : RowKind) → no_cell wrong → IsWrong column cell wrong → ⊥
unfolding no_cell
not_wrong column cell kind.Header n h = h
not_wrong column cell kind.Rows n h = h
not_wrong column cell kind.Width n h = h
not_wrong column cell kind.NotUtf8 n h = n
not_wrong column cell kind.Missing n h = n
not_wrong column cell kind.BadInt n h = n
not_wrong column cell kind.BadDate n h = n

not_wrong_at : (from : ℕ) (columns : List Column) (fields : Record) (column : ℕ) (wrong : RowKind) → no_cell wrong → IsWrongAt from columns fields column wrong → ⊥
not_wrong_at from [] fields column wrong n h = h
not_wrong_at from (first ∷ columns) [] column wrong n h = h
not_wrong_at from (first ∷ columns) (cell ∷ fields) column wrong n (inl h) = not_wrong first cell wrong n h.1
not_wrong_at from (first ∷ columns) (cell ∷ fields) column wrong n (inr h) = not_wrong_at (from + 1) columns fields column wrong n h.2

-- a wrong cell of a record of the right width
pub cell_breach : (columns : List Column) (most number : ℕ) (fields : Record) (column : ℕ) (wrong : RowKind) → number ≤ most → length fields ≡ length columns → IsWrongAt 1 columns fields column wrong → RecordBreach columns most number fields column wrong
unfolding no_cell
cell_breach columns most number fields column kind.Header le w h = not_wrong_at 1 columns fields column kind.Header tt h
cell_breach columns most number fields column kind.Rows le w h = absurd (not_wrong_at 1 columns fields column kind.Rows tt h)
cell_breach columns most number fields column kind.Width le w h = absurd (not_wrong_at 1 columns fields column kind.Width tt h)
cell_breach columns most number fields column kind.NotUtf8 le w h = (le, w, h)
cell_breach columns most number fields column kind.Missing le w h = (le, w, h)
cell_breach columns most number fields column kind.BadInt le w h = (le, w, h)
cell_breach columns most number fields column kind.BadDate le w h = (le, w, h)

-- what the cells tell of a record that is not one too many, and has the right width
pub tells_row : (columns : List Column) (most number : ℕ) (fields : Record) (old new : Cells) (result : Result Unit (Stop RowBreach)) → number ≤ most → length fields ≡ length columns → TellsCells columns number fields old new result → TellsRow columns most number fields old new result
tells_row columns most number fields old new (Ok done) le w h = (h.0, le, h.1, h.2)
tells_row columns most number fields old new (Err (stop.Named breach)) le w h = (h.0, cell_breach columns most number fields breach.column breach.kind le w h.1)
tells_row columns most number fields old new (Err stop.NoMemory) le w h = tt
