-- One record after another, and a file's rows or first breach.
use Rattle.std.proofs.Common.{◌≡◌, inl, inr, ℕ, suc, zero, ◌+◌, ◌-◌, ◌*◌, ◌<◌, ◌≤◌, List, [], ◌∷◌, ◌++◌, length, get_or, refl, sym, ap, subst, ◌∙◌, true, false, add-one, arith, append_assoc, append-nil}
use Rattle.std.specs.Prelude.{Option, Some, None, IfSome, Result, Ok, Err, IsErrAnd}
use Rattle.std.proofs.lemmas.List.{length-append}
use Rattle.std.proofs.Math.Nat.{suc-mul}
use Rattle.csv.specs.Machine.{Read, next_record}
use Rattle.csv.specs.Reading.{default_config, records_from, records_next, NextIs}
use Rattle.csv.specs.declared.parser.State.{State}
use Rattle.mast_terms.specs.declared.memory.Stop.{Stop}
use Rattle.mast_terms.specs.declared.memory.Stop.TheVariants as stop
use Rattle.mast_tables.specs.declared.cells.Cells.{Cells}
use Rattle.mast_tables.specs.declared.declaration.Column.{Column}
use Rattle.mast_tables.specs.declared.declaration.RowBreach.{RowBreach}
use Rattle.mast_tables.specs.declared.declaration.RowKind.TheVariants as kind
use Rattle.mast_tables.specs.Breach.{HasRows, IsRow, AreRows, DiffersAt, RowsBreach, TellsFile, header_of}
use Rattle.mast_tables.specs.inside.Cells.{cells_in, rows_of}
use Rattle.mast_tables.specs.inside.Reading.{HasNext, TellsRow, TellsRecords}
use Rattle.mast_tables.specs.Records.{Record}
use Rattle.mast_tables.specs.Rows.{IsPlace, Row}
use Rattle.mast_tables.proofs.RowsLemmas.{rows_push}

-- What a read of the next record tells of all records.
more_by : (r : Option Read) (fields : Record) (after : State) (ys : List ℕ) (m : ℕ) → NextIs r true fields after ys → records_next (records_from default_config m) r ≡ fields ∷ records_from default_config m after ys
more_by None fields after ys m h = absurd (cc)
more_by (Some p) fields after ys m h = rw (h.1, h.2, h.3) refl

end_by : (r : Option Read) (fields : Record) (after : State) (ys : List ℕ) (m : ℕ) → NextIs r false fields after ys → records_next (records_from default_config m) r ≡ []
end_by None fields after ys m h = refl
end_by (Some p) fields after ys m h = let e = h.0 in absurd (cc)

more_known : (xs ys : List ℕ) (s t : State) (m : ℕ) (fields : Record) → HasNext (Some xs) s (Some ys) t true fields → records_from default_config (suc m) s xs ≡ fields ∷ records_from default_config m t ys
unfolding records_from
more_known xs ys s t m fields h = more_by (next_record default_config s [] [] xs) fields t ys m h

end_known : (xs ys : List ℕ) (s t : State) (m : ℕ) (fields : Record) → HasNext (Some xs) s (Some ys) t false fields → records_from default_config (suc m) s xs ≡ []
unfolding records_from
end_known xs ys s t m fields h = end_by (next_record default_config s [] [] xs) fields t ys m h

no_turns : (s : State) (xs : List ℕ) → records_from default_config 0 s xs ≡ []
unfolding records_from
no_turns s xs = refl

-- so many rows are read: what is left of the records gives the whole
pub record Left (columns : List Column) (most row : ℕ) (rest : List Record) (cells : Cells) (all : List Record) : Type 0 where
  pub count : length all ≡ row + length rest
  pub few : row ≤ most
  pub rows : (more : List Row) → AreRows columns rest more → AreRows columns all (rows_of (length columns) row (cells_in cells) ++ more)
  pub breach : (b : RowBreach) → RowsBreach columns most (row + 1) rest b → RowsBreach columns most 1 all b

-- the same of a reader that has this left, where it is known
abbrev pub Passes : List Column → ℕ → ℕ → ℕ → Option (List ℕ) → State → Cells → List Record → Type 0
Passes columns most row n None s cells all = ⊥
Passes columns most row n (Some left) s cells all = Left columns most row (records_from default_config n s left) cells all

pub row_long : (columns : List Column) (fields : Record) (row : Row) → IsRow columns fields row → length row ≡ length columns
row_long [] [] [] h = refl
row_long [] [] (v ∷ row) h = absurd h
row_long [] (f ∷ fields) row h = absurd h
row_long (c ∷ columns) [] row h = absurd h
row_long (c ∷ columns) (f ∷ fields) [] h = absurd h
row_long (c ∷ columns) (f ∷ fields) (v ∷ row) h = let rest : length row ≡ length columns = row_long columns fields row h.1 in omega arith

left_more : (columns : List Column) (most row : ℕ) (fields : Record) (rest : List Record) (old new : Cells) (all : List Record) (added : Row)
    → Left columns most row (fields ∷ rest) old all → row + 1 ≤ most → IsRow columns fields added → cells_in new ≡ cells_in old ++ added
    → length (cells_in old) ≡ row * length columns → Left columns most (row + 1) rest new all
left_more columns most row fields rest old new all added l le is e size =
    let push : rows_of (length columns) (row + 1) (cells_in old ++ added) ≡ rows_of (length columns) row (cells_in old) ++ added ∷ [] =
    rows_push (length columns) row (cells_in old) added size (row_long columns fields added is) in
    record {
      count = omega (arith, l.count);
      few = le;
      rows = λ more h. rw (e, push, append_assoc (rows_of (length columns) row (cells_in old)) (added ∷ []) more) (l.rows (added ∷ more) (is, h));
      breach = λ b h. l.breach b (inr (added, le, is, h));
    }

left_all : (columns : List Column) (most row : ℕ) (cells : Cells) (all : List Record) → Left columns most row [] cells all → TellsRecords columns most all (Ok (rows_of (length columns) row (cells_in cells)))
left_all columns most row cells all l =
    let whole : AreRows columns all (rows_of (length columns) row (cells_in cells) ++ []) = l.rows [] tt in
    (omega (arith, l.count, l.few), subst (λ (k : List Row). AreRows columns all k) (append-nil (rows_of (length columns) row (cells_in cells))) whole)

left_stopped : (columns : List Column) (most row : ℕ) (fields : Record) (rest : List Record) (old new after : Cells) (all : List Record) (stopped : Stop RowBreach)
    → Left columns most row (fields ∷ rest) old all → TellsRow columns most (row + 1) fields new after (Err stopped) → TellsRecords columns most all (Err stopped)
left_stopped columns most row fields rest old new after all (stop.Named b) l h = l.breach b (inl h)
left_stopped columns most row fields rest old new after all stop.NoMemory l h = tt

-- before the first record
pub passes_none : (o : Option (List ℕ)) (columns : List Column) (most turns : ℕ) (s : State) (cells : Cells) → IfSome o (λ bytes. Passes columns most 0 turns o s cells (records_from default_config turns s bytes))
passes_none None columns most turns s cells = tt
passes_none (Some bytes) columns most turns s cells = record {
  count = omega arith;
  few = omega arith;
  rows = λ more h. h;
  breach = λ b h. h;
}

-- one more record
pub passes_more : (o p : Option (List ℕ)) (s t : State) (columns : List Column) (most row n m : ℕ) (fields : Record) (old new : Cells) (all : List Record)
    → n ≡ suc m → HasNext o s p t true fields → TellsRow columns most (row + 1) fields old new (Ok tt) → length (cells_in old) ≡ row * length columns
    → Passes columns most row n o s old all → Passes columns most (row + 1) m p t new all
passes_more None p s t columns most row n m fields old new all e h r size l = absurd l
passes_more (Some xs) None s t columns most row n m fields old new all e h r size l = absurd h
passes_more (Some xs) (Some ys) s t columns most row n m fields old new all e h r size l =
    let is : records_from default_config n s xs ≡ fields ∷ records_from default_config m t ys = ap (λ (k : ℕ). records_from default_config k s xs) e ∙ more_known xs ys s t m fields h in
    left_more columns most row fields (records_from default_config m t ys) old new all r.0 (subst (λ (k : List Record). Left columns most row k old all) is l) r.1 r.2 r.3.added size

-- a record that has a breach, or for which there was no memory
pub passes_stopped : (o p : Option (List ℕ)) (s t : State) (columns : List Column) (most row n m : ℕ) (fields : Record) (old new after : Cells) (all : List Record) (stopped : Stop RowBreach)
    → n ≡ suc m → HasNext o s p t true fields → TellsRow columns most (row + 1) fields new after (Err stopped)
    → Passes columns most row n o s old all → TellsRecords columns most all (Err stopped)
passes_stopped None p s t columns most row n m fields old new after all stopped e h r l = absurd l
passes_stopped (Some xs) None s t columns most row n m fields old new after all stopped e h r l = absurd h
passes_stopped (Some xs) (Some ys) s t columns most row n m fields old new after all stopped e h r l =
    let is : records_from default_config n s xs ≡ fields ∷ records_from default_config m t ys = ap (λ (k : ℕ). records_from default_config k s xs) e ∙ more_known xs ys s t m fields h in
    left_stopped columns most row fields (records_from default_config m t ys) old new after all stopped (subst (λ (k : List Record). Left columns most row k old all) is l) r

-- a refusal that is handed on
pub answered : (columns : List Column) (most : ℕ) (all : List Record) (result : Result (List Row) (Stop RowBreach)) (stopped : Stop RowBreach)
    → IsErrAnd result (λ e. e ≡ stopped) → TellsRecords columns most all (Err stopped) → TellsRecords columns most all result
answered columns most all (Ok rows) stopped e h = absurd e
answered columns most all (Err other) stopped e h = subst (λ (k : Stop RowBreach). TellsRecords columns most all (Err k)) (sym e) h

-- no more records
pub passes_end : (o p : Option (List ℕ)) (s t : State) (columns : List Column) (most row n m : ℕ) (fields : Record) (cells : Cells) (all : List Record)
    → n ≡ suc m → HasNext o s p t false fields → Passes columns most row n o s cells all → TellsRecords columns most all (Ok (rows_of (length columns) row (cells_in cells)))
passes_end None p s t columns most row n m fields cells all e h l = absurd l
passes_end (Some xs) None s t columns most row n m fields cells all e h l = absurd h
passes_end (Some xs) (Some ys) s t columns most row n m fields cells all e h l =
    let is : records_from default_config n s xs ≡ [] = ap (λ (k : ℕ). records_from default_config k s xs) e ∙ end_known xs ys s t m fields h in
    left_all columns most row cells all (subst (λ (k : List Record). Left columns most row k cells all) is l)

-- no more turns
pub passes_out : (o : Option (List ℕ)) (s : State) (columns : List Column) (most row n count : ℕ) (cells : Cells) (all : List Record)
    → n ≡ 0 → row ≡ count → Passes columns most row n o s cells all → TellsRecords columns most all (Ok (rows_of (length columns) count (cells_in cells)))
passes_out None s columns most row n count cells all e same l = absurd l
passes_out (Some xs) s columns most row n count cells all e same l =
    let is : records_from default_config n s xs ≡ [] = ap (λ (k : ℕ). records_from default_config k s xs) e ∙ no_turns s xs in
    subst (λ (k : ℕ). TellsRecords columns most all (Ok (rows_of (length columns) k (cells_in cells)))) same
    (left_all columns most row cells all (subst (λ (k : List Record). Left columns most row k cells all) is l))

-- the cells of one row more
pub size_more : (columns : List Column) (fields : Record) (old new : Cells) (row : ℕ) (added : Row) → IsRow columns fields added → cells_in new ≡ cells_in old ++ added
    → length (cells_in old) ≡ row * length columns → length (cells_in new) ≡ (row + 1) * length columns
size_more columns fields old new row added is e size =
    let long : length added ≡ length columns = row_long columns fields added is in
    let both : length (cells_in new) ≡ length (cells_in old) + length added = ap length e ∙ length-append (cells_in old) added in
    let up : (row + 1) * length columns ≡ suc row * length columns = ap (λ (k : ℕ). k * length columns) (add-one row) in
    omega (arith, long, both, up, size, suc-mul row (length columns))

-- The header, and the records behind it.
pub file_empty : (o p : Option (List ℕ)) (s t : State) (columns : List Column) (most turns : ℕ) (fields : Record) → HasNext o s p t false fields
    → IfSome o (λ bytes. TellsFile columns most (records_from default_config (turns + 1) s bytes) (Err (stop.Named (record { number = 0; column = 1; kind = kind.Header }))))
file_empty None p s t columns most turns fields h = tt
file_empty (Some xs) None s t columns most turns fields h = absurd h
file_empty (Some xs) (Some ys) s t columns most turns fields h =
    let up : turns + 1 ≡ suc turns = omega arith in
    let is : records_from default_config (turns + 1) s xs ≡ [] = ap (λ (k : ℕ). records_from default_config k s xs) up ∙ end_known xs ys s t turns fields h in
    rw is refl

-- a header that differs is the first breach
pub file_header : (o p : Option (List ℕ)) (s t : State) (columns : List Column) (most turns column : ℕ) (fields : Record) → HasNext o s p t true fields → DiffersAt 1 (header_of columns) fields column
    → IfSome o (λ bytes. TellsFile columns most (records_from default_config (turns + 1) s bytes) (Err (stop.Named (record { number = 0; column = column; kind = kind.Header }))))
file_header None p s t columns most turns column fields h d = tt
file_header (Some xs) None s t columns most turns column fields h d = absurd h
file_header (Some xs) (Some ys) s t columns most turns column fields h d =
    let up : turns + 1 ≡ suc turns = omega arith in
    let is : records_from default_config (turns + 1) s xs ≡ fields ∷ records_from default_config turns t ys = ap (λ (k : ℕ). records_from default_config k s xs) up ∙ more_known xs ys s t turns fields h in
    rw is (inl (refl, refl, d))

behind : (columns : List Column) (most : ℕ) (header : Record) (records : List Record) (result : Result (List Row) (Stop RowBreach)) → header ≡ header_of columns → TellsRecords columns most records result → TellsFile columns most (header ∷ records) result
behind columns most header records (Ok rows) e h = (e, h.0, h.1)
behind columns most header records (Err (stop.Named b)) e h = inr (e, h)
behind columns most header records (Err stop.NoMemory) e h = tt

-- the answer on the records behind the header is that on the file
pub file_rows : (o p : Option (List ℕ)) (s t : State) (columns : List Column) (most turns : ℕ) (fields : Record) (result : Result (List Row) (Stop RowBreach)) → HasNext o s p t true fields → fields ≡ header_of columns
    → IfSome p (λ bytes. TellsRecords columns most (records_from default_config turns t bytes) result)
    → IfSome o (λ bytes. TellsFile columns most (records_from default_config (turns + 1) s bytes) result)
file_rows None p s t columns most turns fields result h e r = tt
file_rows (Some xs) None s t columns most turns fields result h e r = absurd h
file_rows (Some xs) (Some ys) s t columns most turns fields result h e r =
    let up : turns + 1 ≡ suc turns = omega arith in
    let is : records_from default_config (turns + 1) s xs ≡ fields ∷ records_from default_config turns t ys = ap (λ (k : ℕ). records_from default_config k s xs) up ∙ more_known xs ys s t turns fields h in
    rw is (behind columns most fields (records_from default_config turns t ys) result e r)

-- each row of a table has as many cells as there are columns
rows_wide : (columns : List Column) (records : List Record) (rows : List Row) (i : ℕ) → AreRows columns records rows → i < length rows → length (get_or rows i []) ≡ length columns
rows_wide columns [] [] i h lt = absurd (omega arith)
rows_wide columns [] (row ∷ rows) i h lt = absurd h
rows_wide columns (fields ∷ records) [] i h lt = absurd h
rows_wide columns (fields ∷ records) (row ∷ rows) zero h lt = row_long columns fields row h.0
rows_wide columns (fields ∷ records) (row ∷ rows) (suc i) h lt = rows_wide columns records rows i h.1 (omega arith)

-- so a column of the declaration is one of each row
pub is_place : (columns : List Column) (most : ℕ) (records : List Record) (rows : List Row) (row column : ℕ) → HasRows columns most records rows → 1 ≤ row → row ≤ length rows → 1 ≤ column → column ≤ length columns → IsPlace rows row column
is_place columns most [] rows row column h a b c d = absurd h
is_place columns most (header ∷ records) rows row column h a b c d = record {
  row_from = a;
  row_to = b;
  column_from = c;
  column_to = omega (arith, rows_wide columns records rows (row - 1) h.2 (omega arith));
}
