-- A file has no more cells than bytes, and one more at its end.
use Rattle.std.proofs.Common.{◌≡◌, ◌⊎◌, inl, inr, ℕ, ◌+◌, ◌<◌, ◌≤◌, List, [], ◌∷◌, ◌++◌, length, refl, ap, true, false, Bool, arith, ◌∙◌}
use Rattle.std.specs.Prelude.{Option, Some, None, if◌then◌else◌}
use Rattle.std.proofs.lemmas.List.{length-append, length_push}
use Rattle.csv.specs.Machine.{Read, next_record, step, is_end, fields_after, field_after, ends_at_end}
use Rattle.csv.specs.Reading.{default_config, NextIs, strip_bom}
use Rattle.csv.specs.declared.parser.Action.{Action}
use Rattle.csv.specs.declared.parser.Action.TheVariants as act
use Rattle.csv.specs.declared.parser.Config.{Config}
use Rattle.csv.specs.declared.parser.State.{State}
use Rattle.csv.specs.declared.parser.State.TheVariants as st
use Rattle.mast_tables.specs.declared.cells.Cells.{Cells}
use Rattle.mast_tables.specs.declared.declaration.Column.{Column}
use Rattle.mast_tables.specs.Breach.{IsRow}
use Rattle.mast_tables.specs.Limits.{most_cells}
use Rattle.mast_tables.specs.Records.{Record}
use Rattle.mast_tables.specs.Rows.{Row}
use Rattle.mast_tables.specs.inside.Cells.{cells_in}
use Rattle.mast_tables.specs.inside.Reading.{HasNext, LeavesRoom}
use Rattle.mast_tables.proofs.AllRecords.{strip_short}

-- a record and the bytes after it are no more than so many, or it is the last and has one cell more at most
Fits : ℕ → Option Read → Type 0
Fits most None = Unit {0}
Fits most (Some p) = (length p.0 + length p.2 ≤ most) ⊎ ((length p.0 ≤ most + 1) × (p.2 ≡ []) × (p.1 ≡ st.StartRecord))

fits_more : (o : Option Read) (m n : ℕ) → m ≤ n → Fits m o → Fits n o
unfolding Fits
fits_more None m n le h = tt
fits_more (Some p) m n le (inl h) = inl (omega arith)
fits_more (Some p) m n le (inr h) = inr (omega (arith, h.0), h.1, h.2)

fits_end : (b : Bool) (most : ℕ) (fields : Record) → length fields ≤ most + 1 → Fits most (if b then Some (fields, st.StartRecord, []) else None)
unfolding Fits
fits_end true most fields le = inr (le, refl, refl)
fits_end false most fields le = tt

fits_step : (b : Bool) (most : ℕ) (fields : Record) (s : State) (rest : List ℕ) (o : Option Read) → length fields + length rest ≤ most → Fits most o → Fits most (if b then Some (fields, s, rest) else o)
unfolding Fits
fits_step true most fields s rest o le h = inl le
fits_step false most fields s rest o le h = h

after_short : (a : Action) (fields : Record) (field : List ℕ) → length (fields_after a fields field) ≤ length fields + 1
after_short act.EndField fields field = omega (arith, length_push fields field)
after_short act.Skip fields field = omega arith
after_short act.Copy fields field = omega arith
after_short act.EndRecord fields field = omega (arith, length_push fields field)

fits : (config : Config) (s : State) (fields : Record) (field xs : List ℕ) → Fits (length fields + length xs) (next_record config s fields field xs)
unfolding next_record
fits config s fields field [] = fits_end (ends_at_end s) (length fields + 0) (fields ++ (field ∷ [])) (omega (arith, length_push fields field))
fits config s fields field (c ∷ rest) =
    let short : length (fields_after (step config s c).1 fields field) ≤ length fields + 1 = after_short (step config s c).1 fields field in
    fits_step (is_end (step config s c).1) (length fields + length (c ∷ rest)) (fields_after (step config s c).1 fields field) (step config s c).0 rest _ (omega (arith, short))
    (fits_more _ (length (fields_after (step config s c).1 fields field) + length rest) (length fields + length (c ∷ rest)) (omega (arith, short))
    (fits config (step config s c).0 (fields_after (step config s c).1 fields field) (field_after (step config s c).1 c field) rest))

leaves_by : (r : Option Read) (fields : Record) (after : State) (ys : List ℕ) (read n : ℕ) → NextIs r true fields after ys → Fits n r → read + n < most_cells → LeavesRoom (read + length fields) (Some ys) after
unfolding Fits
leaves_by None fields after ys read n h f lt = absurd (cc)
leaves_by (Some p) fields after ys read n h (inl le) lt = inl (omega (arith, ap length h.1, ap length h.3, le, lt))
leaves_by (Some p) fields after ys read n h (inr last) lt = inr (omega (arith, ap length h.1, last.0, lt), h.3 ∙ last.1, h.2 ∙ last.2)

-- at the end of the file there is no record
none_at_end : (ys : List ℕ) (t : State) (fields : Record) → NextIs (next_record default_config st.StartRecord [] [] []) true fields t ys → ⊥
unfolding next_record
none_at_end ys t fields h = absurd (cc)

none_left : (xs ys : List ℕ) (s t : State) (fields : Record) → xs ≡ [] → s ≡ st.StartRecord → NextIs (next_record default_config s [] [] xs) true fields t ys → ⊥
none_left xs ys s t fields e is h = none_at_end ys t fields (rw (e, is) at h)

-- one more record leaves room
pub leaves_more : (o p : Option (List ℕ)) (s t : State) (read : ℕ) (fields : Record) → HasNext o s p t true fields → LeavesRoom read o s → LeavesRoom (read + length fields) p t
leaves_more None p s t read fields h room = absurd room
leaves_more (Some xs) None s t read fields h room = absurd h
leaves_more (Some xs) (Some ys) s t read fields h (inl lt) = leaves_by (next_record default_config s [] [] xs) fields t ys read (length xs) h (fits_more _ (0 + length xs) (length xs) (omega arith) (fits default_config s [] [] xs)) lt
leaves_more (Some xs) (Some ys) s t read fields h (inr end) = absurd (none_left xs ys s t fields end.1 end.2 h)

-- the header's cells are none of the table
pub leaves_none : (o : Option (List ℕ)) (s : State) (read : ℕ) → LeavesRoom read o s → LeavesRoom 0 o s
leaves_none None s read room = absurd room
leaves_none (Some xs) s read (inl lt) = inl (omega arith)
leaves_none (Some xs) s read (inr end) = inr (omega arith, end.1, end.2)

-- so the cells that are read are not too many
pub leaves_within : (o : Option (List ℕ)) (s : State) (read : ℕ) → LeavesRoom read o s → read ≤ most_cells
leaves_within None s read room = absurd room
leaves_within (Some xs) s read (inl lt) = omega arith
leaves_within (Some xs) s read (inr end) = end.0

-- the cells of a row are those of its record
row_short : (columns : List Column) (fields : Record) (row : Row) → IsRow columns fields row → length row ≡ length fields
row_short [] [] [] h = refl
row_short [] [] (v ∷ row) h = absurd h
row_short [] (f ∷ fields) row h = absurd h
row_short (c ∷ columns) [] row h = absurd h
row_short (c ∷ columns) (f ∷ fields) [] h = absurd h
row_short (c ∷ columns) (f ∷ fields) (v ∷ row) h = let rest : length row ≡ length fields = row_short columns fields row h.1 in omega arith

-- one more row leaves room
pub leaves_row : (o p : Option (List ℕ)) (s t : State) (columns : List Column) (fields : Record) (row : Row) (old new : Cells) → HasNext o s p t true fields → IsRow columns fields row
    → cells_in new ≡ cells_in old ++ row → LeavesRoom (length (cells_in old)) o s → LeavesRoom (length (cells_in new)) p t
leaves_row o p s t columns fields row old new h is added room =
    let long : length (cells_in new) ≡ length (cells_in old) + length fields = ap length added ∙ length-append (cells_in old) row ∙ ap (λ (n : ℕ). length (cells_in old) + n) (row_short columns fields row is) in
    rw long (leaves_more o p s t (length (cells_in old)) fields h room)

-- before the header
pub leaves_all : (bytes : List ℕ) (s : State) → length bytes < most_cells → LeavesRoom 0 (Some (strip_bom bytes)) s
leaves_all bytes s lt = inl (omega (arith, strip_short bytes, lt))
