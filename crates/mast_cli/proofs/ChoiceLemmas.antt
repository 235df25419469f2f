-- A source query has a list of the choices that meet it.
use Rattle.std.proofs.Common.{◌≡◌, inl, inr, ℕ, List, [], ◌∷◌, ◌++◌, Bool, true, length, map, subst, sym, refl}
use Rattle.std.proofs.lemmas.Bool.{and_parts, and_from}
use Rattle.std.specs.Prelude.{◌&&◌, ◌↔◌}
use Rattle.std.specs.List.{AllByRecursion, AllZip, filter}
use Rattle.mast_canon.specs.Choices.{rows_of, IsRowNumber, chosen, compare, operand_value, IsTrueOf, Meets}
use Rattle.mast_cq.proofs.ListLemmas.{in_append, append_left, append_right, in_map, map_in}
use Rattle.mast_cq.specs.Queries.{In}
use Rattle.mast_join.proofs.RowListLemmas.{numbers_in, in_numbers}
use Rattle.mast_join.specs.inside.RowLists.{numbers_to}
use Rattle.mast_sql.specs.declared.query.Comparison.{Comparison}
use Rattle.mast_sql.specs.declared.query.FromEntry.{FromEntry}
use Rattle.mast_sql.specs.declared.query.SourceQuery.{SourceQuery}
use Rattle.mast_tables.specs.declared.declaration.TableDecl.{TableDecl}
use Rattle.mast_tables.specs.Rows.{Row}
use Rattle.mast_cli.proofs.ListLemmas.{in_filter, filter_in}

-- each of these numbers before each of these lists
abbrev before_each : List ℕ → List (List ℕ) → List (List ℕ)
before_each [] lists = []
before_each (n ∷ ns) lists = map (λ list. n ∷ list) lists ++ before_each ns lists

before_in : (n : ℕ) (list : List ℕ) (ns : List ℕ) (lists : List (List ℕ)) → In n ns → In list lists → In (n ∷ list) (before_each ns lists)
before_in n list [] lists h g = absurd h
before_in n list (m ∷ ns) lists (inl e) g =
    append_left (n ∷ list) (map (λ l. m ∷ l) lists) (before_each ns lists)
    (subst (λ x. In (n ∷ list) (map (λ l. x ∷ l) lists)) e (map_in (λ l. n ∷ l) list lists g))
before_in n list (m ∷ ns) lists (inr h) g = append_right (n ∷ list) (map (λ l. m ∷ l) lists) (before_each ns lists) (before_in n list ns lists h g)

-- the list is one of these numbers before one of these lists
record IsBefore (ns : List ℕ) (lists : List (List ℕ)) (list : List ℕ) : Type 0 where
  number : ℕ
  later : List ℕ
  is : list ≡ number ∷ later
  there : In number ns
  among : In later lists

before_from : (ns : List ℕ) (lists : List (List ℕ)) (list : List ℕ) → In list (before_each ns lists) → IsBefore ns lists list
before_from [] lists list h = absurd h
before_from (n ∷ ns) lists list h = elim (in_append list (map (λ l. n ∷ l) lists) (before_each ns lists) h) [
  | inl g ↦ let from = in_map (λ l. n ∷ l) list lists g in record { number = n; later = from.from; is = from.is; there = inl refl; among = from.among }
  | inr g ↦ let rest = before_from ns lists list g in record { number = rest.number; later = rest.later; is = rest.is; there = inr rest.there; among = rest.among }
]

module _ (decls : List TableDecl) (tables : List (List Row)) where
  abbrev numbers : FromEntry → List ℕ
  numbers entry = numbers_to (length (rows_of decls tables entry))

  -- all choices for these entries
  abbrev every : List FromEntry → List (List ℕ)
  every [] = [] ∷ []
  every (entry ∷ entries) = before_each (numbers entry) (every entries)

  abbrev IsChosen : List FromEntry → List ℕ → Type 0
  IsChosen entries choice = AllZip (λ entry number. IsRowNumber (rows_of decls tables entry) number) entries choice

  every_in : (entries : List FromEntry) (choice : List ℕ) → IsChosen entries choice → In choice (every entries)
  every_in [] [] h = inl refl
  every_in [] (n ∷ choice) h = absurd h
  every_in (entry ∷ entries) [] h = absurd h
  every_in (entry ∷ entries) (n ∷ choice) h =
      before_in n choice (numbers entry) (every entries) (in_numbers (length (rows_of decls tables entry)) n h.0.0 h.0.1) (every_in entries choice h.1)

  every_from : (entries : List FromEntry) (choice : List ℕ) → In choice (every entries) → IsChosen entries choice
  every_from [] choice (inl e) = subst (IsChosen []) (sym e) tt
  every_from [] choice (inr h) = absurd h
  every_from (entry ∷ entries) choice h =
      let front = before_from (numbers entry) (every entries) choice h in
      subst (IsChosen (entry ∷ entries)) (sym front.is)
      (numbers_in (length (rows_of decls tables entry)) front.number front.there, every_from entries front.later front.among)

  -- whether all comparisons are true
  abbrev are_true : List FromEntry → List Row → List Comparison → Bool
  are_true entries rows [] = true
  are_true entries rows (c ∷ cs) = compare c.op (operand_value decls entries rows c.left) (operand_value decls entries rows c.right) && are_true entries rows cs

  all_true : (entries : List FromEntry) (rows : List Row) (cs : List Comparison) → are_true entries rows cs ≡ true → AllByRecursion (IsTrueOf decls entries rows) cs
  all_true entries rows [] h = tt
  all_true entries rows (c ∷ cs) h =
      let both = and_parts (compare c.op (operand_value decls entries rows c.left) (operand_value decls entries rows c.right)) (are_true entries rows cs) h in
      (both.0, all_true entries rows cs both.1)

  true_all : (entries : List FromEntry) (rows : List Row) (cs : List Comparison) → AllByRecursion (IsTrueOf decls entries rows) cs → are_true entries rows cs ≡ true
  true_all entries rows [] h = refl
  true_all entries rows (c ∷ cs) h =
      and_from (compare c.op (operand_value decls entries rows c.left) (operand_value decls entries rows c.right)) (are_true entries rows cs) h.0 (true_all entries rows cs h.1)

  module _ (query : SourceQuery) where
    abbrev passes : List ℕ → Bool
    passes choice = are_true query.from (chosen decls tables query.from choice) query.conditions

    -- the choices that meet the query
    abbrev pub met : List (List ℕ)
    met = filter passes (every query.from)

    met_from : (choice : List ℕ) → In choice met → Meets decls tables query choice
    met_from choice h =
        let both = in_filter passes choice (every query.from) h in
        record {
          is_choice = every_from query.from choice both.0;
          conditions = all_true query.from (chosen decls tables query.from choice) query.conditions both.1;
        }

    met_in : (choice : List ℕ) → Meets decls tables query choice → In choice met
    met_in choice h =
        filter_in passes choice (every query.from) (true_all query.from (chosen decls tables query.from choice) query.conditions h.conditions) (every_in query.from choice h.is_choice)

    -- and no others
    pub are_met : (choice : List ℕ) → In choice met ↔ Meets decls tables query choice
    are_met choice = (met_from choice, met_in choice)
