-- How the relation of an atom is filled.
use Rattle.std.proofs.Common.{◌≡◌, ℕ, zero, suc, ◌+◌, ◌<◌, ◌≤◌, ◌⊎◌, inl, inr, Bool, true, false, if◌then◌else◌, List, [], ◌∷◌, ◌++◌, length, set, get_or, slice_get, Result, Ok, Err, refl, sym, ap, subst, ◌∙◌, arith}
use Rattle.std.specs.Prelude.{nat_eq, OnOk}
use Rattle.std.specs.List.{AllByRecursion}
use Rattle.std.proofs.lemmas.Bool.{cases_eq, cond-true, eq-eqb, eqb-true}
use Rattle.std.proofs.lemmas.List.{append-nil, get_or_append_left, length-append, length-set}
use Rattle.std.proofs.lemmas.Option.{get_or_from_slice_get}
use Rattle.mast_relations.specs.declared.query.Conjunction.{Conjunction}
use Rattle.mast_relations.specs.declared.query.Pattern.{Pattern}
use Rattle.mast_relations.specs.Matches.{In, IsConjunction, IsPattern, Rows, nothing}
use Rattle.mast_relations.specs.Plans.{IsApart, KeepsOtherPlans}
use Rattle.mast_relations.specs.Stores.{HasOnlyGained, IsInserted, IsInsertedAt, Stored, contents, with_row}
use Rattle.mast_relations.proofs.ListLemmas.{append_left, append_right, in_append}
use Rattle.mast_join.specs.declared.extensions.Wanted.{Wanted}
use Rattle.mast_join.specs.declared.extensions.Wanted.TheVariants.{Tuples, SomeHits, AllHits}
use Rattle.mast_join.specs.declared.facts.MadeFact.{MadeFact}
use Rattle.mast_join.specs.declared.fill.Gathered.{Gathered}
use Rattle.mast_join.specs.declared.shapes.Asked.{Asked}
use Rattle.mast_join.specs.declared.shapes.Asked.TheVariants.{Nothing, Column, Number}
use Rattle.mast_join.specs.inside.Filling.{AreColumns, AreLinked, AreRelationsMore, FitsNumber, Has, IsFull, IsRefilled, IsRowOf, column_number, rows_at, with_set}
use Rattle.mast_join.specs.inside.Values.{IsFront}
use Rattle.mast_join.proofs.ValueLemmas.{front_refl, front_twice}

-- no column yet
pub columns_first : (asked : Asked) (first second : ℕ) (row : List ℕ) → row ≡ [] → AreColumns asked first second row
columns_first asked first second row e column lt = absurd (let l : length row ≡ 0 = ap length e in omega (arith, lt, l))

-- one more
pub columns_more : (asked : Asked) (first second column : ℕ) (row new : List ℕ) (number : ℕ) → length row ≡ column → number ≡ column_number asked column first second → new ≡ row ++ number ∷ []
    → AreColumns asked first second row → AreColumns asked first second new
columns_more asked first second column row new number long is made h k lt =
    let len : length new ≡ column + 1 = ap length made ∙ length-append row (number ∷ []) ∙ ap (λ n. n + 1) long in
    elim (cases_eq k column) [
      | inl e ↦ ap (λ (r : List ℕ). get_or r k 0) made ∙ ap (λ i. get_or (row ++ number ∷ []) i 0) (e ∙ sym long) ∙ last row ∙ is ∙ ap (λ i. column_number asked i first second) (sym e)
      | inr n ↦ let below : k < length row = omega (arith, lt, len, long, n) in
          ap (λ (r : List ℕ). get_or r k 0) made ∙ get_or_append_left row (number ∷ []) 0 k below ∙ h k below
    ]
  where
    last : (xs : List ℕ) → get_or (xs ++ number ∷ []) (length xs) 0 ≡ number
    last [] = refl
    last (x ∷ xs) = last xs

same_columns : (xs ys : List ℕ) → length xs ≡ length ys → ((k : ℕ) → k < length xs → get_or xs k 0 ≡ get_or ys k 0) → xs ≡ ys
same_columns [] [] l h = refl
same_columns [] (y ∷ ys) l h = absurd (omega (arith, l))
same_columns (x ∷ xs) [] l h = absurd (omega (arith, l))
same_columns (x ∷ xs) (y ∷ ys) l h =
    let a : x ≡ y = h 0 (omega arith) in
    let b : xs ≡ ys = same_columns xs ys (omega (arith, l)) (λ k lt. h (suc k) (omega (arith, lt))) in
    rw (a, b) refl

module _ (width : ℕ) (source : Gathered) (fact : MadeFact) (full : IsFull width source) where
  column_is : (front : List ℕ) → IsRowOf width source fact front → (k : ℕ) → k < length front → (a b : Asked) → source.first ≡ a → (a ≡ Column k) ⊎ (source.second ≡ Column k)
      → column_number a k fact.first fact.second ≡ get_or front k 0
  column_is front r k lt Nothing b e (inl c) = absurd (cc)
  column_is front r k lt Nothing b e (inr c) = sym (get_or_from_slice_get front k fact.second 0 (subst (λ (x : Asked). FitsNumber front x fact.second) c r.second))
  column_is front r k lt (Number n) b e (inl c) = absurd (cc)
  column_is front r k lt (Number n) b e (inr c) = sym (get_or_from_slice_get front k fact.second 0 (subst (λ (x : Asked). FitsNumber front x fact.second) c r.second))
  column_is front r k lt (Column i) b e c = elim (cases_eq i k) [
    | inl q ↦ cond-true (nat_eq i k) fact.first fact.second (eq-eqb i k q) ∙ sym (get_or_from_slice_get front k fact.first 0 (ap (slice_get front) (sym q) ∙ subst (λ (x : Asked). FitsNumber front x fact.first) e r.first))
    | inr q ↦ elim c [
      | inl d ↦ absurd (q (column_same i k d))
      | inr d ↦ cond_no i k q ∙ sym (get_or_from_slice_get front k fact.second 0 (subst (λ (x : Asked). FitsNumber front x fact.second) d r.second))
    ]
  ]
    where
      column_same : (i k : ℕ) → Column i ≡ Column k → i ≡ k
      column_same i k e = cc

      cond_no : (i k : ℕ) → (i ≡ k → ⊥) → (if nat_eq i k then fact.first else fact.second) ≡ fact.second
      cond_no i k n = by (nat_eq i k) refl
        where
          by : (b : Bool) → nat_eq i k ≡ b → (if b then fact.first else fact.second) ≡ fact.second
          by true e = absurd (n (eqb-true i k e))
          by false e = refl

  -- the columns are the row of the fact, if it has one
  pub columns_are : (row front : List ℕ) → length row ≡ width → AreColumns source.first fact.first fact.second row → IsRowOf width source fact front → front ≡ row
  columns_are row front long are r = same_columns front row (r.long ∙ sym long)
      (λ k lt. sym (are k (omega (arith, lt, long, r.long)) ∙ column_is front r k lt source.first source.second refl (full k (omega (arith, lt, r.long)))))

-- a row that is there stays
pub has_more : (wanted : Wanted) (old new : List (List ℕ)) (row : List ℕ) (set : ℕ) → ((r : List ℕ) → In r old → In r new) → Has wanted old row set → Has wanted new row set
has_more Tuples old new row set k h = k row h
has_more SomeHits old new row set k h = (h.0, k (row ++ h.0 ∷ []) h.1)
has_more AllHits old new row set k h = k (row ++ set ∷ []) h

pub linked_more : (wanted : Wanted) (seen old new : List (List ℕ)) → ((r : List ℕ) → In r old → In r new) → AreLinked wanted seen old → AreLinked wanted seen new
linked_more Tuples seen old new k h = tt
linked_more SomeHits seen old new k h = λ row i. let n = h row i in (n.0, k (row ++ n.0 ∷ []) n.1)
linked_more AllHits seen old new k h = tt

-- refilled with nothing, and twice
pub refilled_refl : (number : ℕ) (stored : List Stored) → IsRefilled number stored stored
refilled_refl number stored = record { long = refl; others = λ k n. refl; plans = λ plan apart p. p }

-- one relation that is filled anew, and again
pub refilled_twice : (number : ℕ) (a b c : List Stored) → IsRefilled number a b → IsRefilled number b c → IsRefilled number a c
refilled_twice number a b c f g = record {
  long = g.long ∙ f.long;
  others = λ k n. g.others k n ∙ f.others k n;
  plans = λ plan apart p. g.plans plan apart (f.plans plan apart p);
}

-- nothing gained, and gained twice
pub gained_refl : (P : List ℕ → Type 0) (rows : Rows) → HasOnlyGained P rows rows
gained_refl P rows = record { width = refl; kept = λ tuple i. i; within = λ tuple i. inl i }

-- rows gained of one kind, and then of another
pub gained_twice : (P Q : List ℕ → Type 0) (a b c : Rows) → ((row : List ℕ) → Q row → P row) → HasOnlyGained P a b → HasOnlyGained Q b c → HasOnlyGained P a c
gained_twice P Q a b c k f g = record {
  width = g.width ∙ f.width;
  kept = λ tuple i. g.kept tuple (f.kept tuple i);
  within = λ tuple i. elim (g.within tuple i) [ inl j ↦ f.within tuple j | inr q ↦ inr (k tuple q) ];
}

set_same : (relations : List Rows) (number : ℕ) (rows : Rows) → number < length relations → get_or (set relations number rows) number nothing ≡ rows
set_same [] number rows lt = absurd (omega (arith, lt))
set_same (r ∷ rs) zero rows lt = refl
set_same (r ∷ rs) (suc n) rows lt = set_same rs n rows (omega (arith, lt))

set_other : (relations : List Rows) (number k : ℕ) (rows : Rows) → (k ≡ number → ⊥) → get_or (set relations number rows) k nothing ≡ get_or relations k nothing
set_other [] number k rows n = refl
set_other (r ∷ rs) zero zero rows n = absurd (n refl)
set_other (r ∷ rs) zero (suc k) rows n = refl
set_other (r ∷ rs) (suc m) zero rows n = refl
set_other (r ∷ rs) (suc m) (suc k) rows n = set_other rs m k rows (λ e. n (ap suc e))

now_with : (number : ℕ) (old new : List Stored) (row : List ℕ) → number < length (contents old) → contents new ≡ set (contents old) number (with_row (rows_at old number) row) → rows_at new number ≡ with_row (rows_at old number) row
now_with number old new row there e = ap (λ (c : List Rows). get_or c number nothing) e ∙ set_same (contents old) number (with_row (rows_at old number) row) there

one_row_is : (row tuple : List ℕ) → In tuple (row ∷ []) → tuple ≡ row
one_row_is row tuple (inl e) = e
one_row_is row tuple (inr b) = absurd b

-- a relation after a row was to be put into it
pub inserted_refilled : {E : Type 0} (number : ℕ) (old new : List Stored) (row : List ℕ) → KeepsOtherPlans number old new → (result : Result Bool E) → IsInsertedAt (contents old) number row result (contents new) → IsRefilled number old new
inserted_refilled number old new row plans (Ok true) i = record {
  long = ap length i.1 ∙ length-set (contents old) number (with_row (rows_at old number) row);
  others = λ k n. ap (λ (c : List Rows). get_or c k nothing) i.1 ∙ set_other (contents old) number k (with_row (rows_at old number) row) n;
  plans = plans;
}
inserted_refilled number old new row plans (Ok false) i = record { long = ap length i.1; others = λ k n. ap (λ (c : List Rows). get_or c k nothing) i.1; plans = plans }
inserted_refilled number old new row plans (Err e) i = record { long = ap length i; others = λ k n. ap (λ (c : List Rows). get_or c k nothing) i; plans = plans }

-- has gained that row at most
pub inserted_only : {E : Type 0} (number : ℕ) (old new : List Stored) (row : List ℕ) → number < length (contents old) → (result : Result Bool E) → IsInsertedAt (contents old) number row result (contents new)
    → HasOnlyGained (λ r. r ≡ row) (rows_at old number) (rows_at new number)
inserted_only number old new row there (Ok true) i = subst (λ (k : Rows). HasOnlyGained (λ r. r ≡ row) (rows_at old number) k) (sym (now_with number old new row there i.1)) (record {
  width = refl;
  kept = λ tuple j. append_left tuple (rows_at old number).list (row ∷ []) j;
  within = λ tuple j. elim (in_append tuple (rows_at old number).list (row ∷ []) j) [ inl k ↦ inl k | inr k ↦ inr (one_row_is row tuple k) ];
})
inserted_only number old new row there (Ok false) i = subst (λ (k : Rows). HasOnlyGained (λ r. r ≡ row) (rows_at old number) k) (sym (ap (λ (c : List Rows). get_or c number nothing) i.1)) (gained_refl (λ r. r ≡ row) (rows_at old number))
inserted_only number old new row there (Err e) i = subst (λ (k : Rows). HasOnlyGained (λ r. r ≡ row) (rows_at old number) k) (sym (ap (λ (c : List Rows). get_or c number nothing) i)) (gained_refl (λ r. r ≡ row) (rows_at old number))

-- and has it unless memory was wanting
pub inserted_has : {E : Type 0} (number : ℕ) (old new : List Stored) (row : List ℕ) → number < length (contents old) → (result : Result Bool E) → IsInsertedAt (contents old) number row result (contents new) → OnOk result (In row (rows_at new number).list)
inserted_has number old new row there (Ok true) i = subst (λ (k : Rows). In row k.list) (sym (now_with number old new row there i.1)) (append_right row (rows_at old number).list (row ∷ []) (inl refl))
inserted_has number old new row there (Ok false) i = subst (λ (k : Rows). In row k.list) (sym (ap (λ (c : List Rows). get_or c number nothing) i.1)) i.0
inserted_has number old new row there (Err e) i = tt

-- after a row was to be put into a set it is there, and what else is there was there before
pub put_seen : {E : Type 0} (old new : Rows) (row : List ℕ) (result : Result Bool E) → IsInserted old row result new → (other : List ℕ) → In other new.list → In other old.list ⊎ (other ≡ row)
put_seen old new row (Ok true) i other j = elim (in_append other old.list (row ∷ []) (subst (λ (k : Rows). In other k.list) i.1 j)) [ inl k ↦ inl k | inr k ↦ inr (elim k [ inl e ↦ e | inr b ↦ absurd b ]) ]
put_seen old new row (Ok false) i other j = inl (subst (λ (k : Rows). In other k.list) i.1 j)
put_seen old new row (Err e) i other j = inl (subst (λ (k : Rows). In other k.list) i j)

pub seen_width : {E : Type 0} (old new : Rows) (row : List ℕ) (result : Result Bool E) → IsInserted old row result new → new.width ≡ old.width
seen_width old new row (Ok true) i = ap (λ (k : Rows). k.width) i.1
seen_width old new row (Ok false) i = ap (λ (k : Rows). k.width) i.1
seen_width old new row (Err e) i = ap (λ (k : Rows). k.width) i

-- where sets of no rows are wanted the row is put alone, else with its set
pub alone : (wanted : Wanted) (row given : List ℕ) (set : ℕ) → wanted ≡ Tuples → given ≡ row → given ≡ with_set wanted row set
alone wanted row given set w e = e ∙ sym (append-nil row) ∙ ap (λ (k : Wanted). with_set k row set) (sym w)

-- a row for which some hits are wanted, with its set
pub with_some : (wanted : Wanted) (row given : List ℕ) (set : ℕ) → wanted ≡ SomeHits → given ≡ row ++ set ∷ [] → given ≡ with_set wanted row set
with_some wanted row given set w e = e ∙ ap (λ (k : Wanted). with_set k row set) (sym w)

-- a row for which all hits are wanted, with its set
pub with_all : (wanted : Wanted) (row given : List ℕ) (set : ℕ) → wanted ≡ AllHits → given ≡ row ++ set ∷ [] → given ≡ with_set wanted row set
with_all wanted row given set w e = e ∙ ap (λ (k : Wanted). with_set k row set) (sym w)

-- rows that have it so have it
has_of_in : (wanted : Wanted) (rows : List (List ℕ)) (row : List ℕ) (set : ℕ) → In (with_set wanted row set) rows → Has wanted rows row set
has_of_in Tuples rows row set i = subst (λ (k : List ℕ). In k rows) (append-nil row) i
has_of_in SomeHits rows row set i = (set, i)
has_of_in AllHits rows row set i = i

-- what is put is all that is gained, and is there
pub put_only : {E : Type 0} (number : ℕ) (old new : List Stored) (given : List ℕ) (result : Result Bool E) (wanted : Wanted) (row : List ℕ) (set : ℕ) → number < length (contents old)
    → IsInsertedAt (contents old) number given result (contents new) → given ≡ with_set wanted row set → HasOnlyGained (λ r. r ≡ with_set wanted row set) (rows_at old number) (rows_at new number)
put_only number old new given result wanted row set there i e = subst (λ (k : List ℕ). HasOnlyGained (λ r. r ≡ k) (rows_at old number) (rows_at new number)) e (inserted_only number old new given there result i)

-- what a row that is put into a relation leaves there
pub put_has : {E : Type 0} (number : ℕ) (old new : List Stored) (given : List ℕ) (b : Bool) (result : Result Bool E) (wanted : Wanted) (row : List ℕ) (set : ℕ) → result ≡ Ok b → number < length (contents old)
    → IsInsertedAt (contents old) number given result (contents new) → given ≡ with_set wanted row set → Has wanted (rows_at new number).list row set
put_has number old new given b result wanted row set ok there i e = has_of_in wanted (rows_at new number).list row set
    (subst (λ (k : List ℕ). In k (rows_at new number).list) e (subst (λ (r : Result Bool _). OnOk r (In given (rows_at new number).list)) ok (inserted_has number old new given there result i)))

-- what was seen, and the row that is seen now, are there with some set
pub put_linked : {E : Type 0} (wanted : Wanted) (seen_old seen_new : Rows) (row : List ℕ) (set : ℕ) (result : Result Bool E) (old new : List (List ℕ)) → IsInserted seen_old row result seen_new → ((r : List ℕ) → In r old → In r new)
    → Has wanted new row set → AreLinked wanted seen_old.list old → AreLinked wanted seen_new.list new
put_linked Tuples seen_old seen_new row set result old new i kept has h = tt
put_linked SomeHits seen_old seen_new row set result old new i kept has h = λ other j. elim (put_seen seen_old seen_new row result i other j) [
  | inl k ↦ let n = h other k in (n.0, kept (other ++ n.0 ∷ []) n.1)
  | inr e ↦ (has.0, subst (λ (k : List ℕ). In (k ++ has.0 ∷ []) new) (sym e) has.1)
]
put_linked AllHits seen_old seen_new row set result old new i kept has h = tt

-- the patterns of a conjunction over relations are apart from one that comes after them
pub apart_of : (relations : List Rows) (number : ℕ) (patterns : List Pattern) → length relations ≤ number → AllByRecursion (IsPattern relations) patterns → AllByRecursion (IsApart number) patterns
apart_of relations number [] le h = tt
apart_of relations number (p ∷ ps) le h = (λ e. let t : p.relation < length relations = h.0.there in absurd (omega (arith, e, t, le)), apart_of relations number ps le h.1)

-- relations that are the same keep their plans
pub relations_refl : (stored : List Stored) → AreRelationsMore stored stored
relations_refl stored = record { front = front_refl (contents stored); plans = λ plan q p. p }

front_get : (a b : List Rows) (k : ℕ) → IsFront a b → k < length a → get_or b k nothing ≡ get_or a k nothing
front_get a b k f lt = ap (λ (l : List Rows). get_or l k nothing) f.1 ∙ get_or_append_left a f.0 nothing k lt

pattern_front : (a b : List Rows) (p : Pattern) → IsFront a b → IsPattern a p → IsPattern b p
pattern_front a b p f h = record {
  there = let l : length b ≡ length a + length f.0 = ap length f.1 ∙ length-append a f.0 in omega (arith, h.there, l);
  wide = h.wide ∙ ap (λ (r : Rows). r.width) (sym (front_get a b p.relation f h.there));
  different = h.different;
}

patterns_front : (a b : List Rows) (ps : List Pattern) → IsFront a b → AllByRecursion (IsPattern a) ps → AllByRecursion (IsPattern b) ps
patterns_front a b [] f h = tt
patterns_front a b (p ∷ ps) f h = (pattern_front a b p f h.0, patterns_front a b ps f h.1)

-- a conjunction stays one
pub conjunction_front : (a b : List Rows) (q : Conjunction) → IsFront a b → IsConjunction a q → IsConjunction b q
conjunction_front a b q f h = record { some = h.some; patterns = patterns_front a b q.patterns f h.patterns; answered = h.answered }

-- relations that grow, and again
pub relations_twice : (a b c : List Stored) → AreRelationsMore a b → AreRelationsMore b c → AreRelationsMore a c
relations_twice a b c f g = record {
  front = front_twice (contents a) (contents b) (contents c) f.front g.front;
  plans = λ plan q p. g.plans plan (conjunction_front (contents a) (contents b) plan.query f.front q) (f.plans plan q p);
}
