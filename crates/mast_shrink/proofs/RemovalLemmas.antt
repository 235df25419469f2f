-- Rows that are left out one after the other: what is left has no model, and each row of it is needed.
use Rattle.std.proofs.Common.{◌≡◌, ◌≢◌, ◌⊎◌, inl, inr, ◌<◌, ◌≤◌, ◌+◌, ℕ, Bool, true, false, List, [], ◌∷◌, ◌++◌, take, length, get_or, refl, sym, ap, subst, ◌∙◌}
use Rattle.std.proofs.lemmas.List.{take_all, take_more}
use Rattle.std.proofs.lemmas.Bool.{false≢true}
use Rattle.std.specs.Prelude.{Some, None, ◌||◌, if◌then◌else◌}
use Rattle.std.specs.List.{AllByRecursion, list_any}
use Rattle.std.specs.List.Sorted.{IsStrictlySortedBy}
use Rattle.mast_terms.specs.declared.term.Term.{Term}
use Rattle.mast_cq.specs.Meanings.{Fact}
use Rattle.mast_cq.specs.Queries.{In}
use Rattle.mast_cq.proofs.ListLemmas.{in_append, in_each, each_in}
use Rattle.mast_tables.specs.Rows.{Row}
use Rattle.mast_canon.specs.contracts.rows.RowIdPartialEq.TheImpl as row_eq
use Rattle.mast_canon.specs.declared.origin.Origin.{Origin}
use Rattle.mast_canon.specs.declared.rows.RowId.{RowId}
use Rattle.mast_canon.specs.declared.spec.Spec.{Spec}
use Rattle.mast_canon.specs.CertainAnswers.{HoldsBy}
use Rattle.mast_canon.specs.ConflictLaws.{HaveNoModel, IsAmong, IsConflict}
use Rattle.mast_canon.specs.Conflicts.{Without}
use Rattle.mast_canon.specs.Facts.{HaveSameRows, IsOfTables}
use Rattle.mast_canon.specs.NoModels.{By}
use Rattle.mast_canon.specs.RowOrder.{row_order}
use Rattle.mast_canon.specs.SpecFacts.{FactsOf}
use Rattle.mast_canon.specs.Theories.{stated, theory_of}
use Rattle.mast_canon.proofs.HoldsLemmas.{holds_grows, breaks_grow}
use Rattle.mast_canon.proofs.RowLemmas.{row_same, row_equality_test}
use Rattle.mast_canon.proofs.SupportLemmas.{facts_grow}
use Rattle.mast_check.specs.declared.breach.Breach.{Breach}
use Rattle.mast_check.specs.Checks.{IsBreachOf, IsBrokenBy, TellsModel}
use Rattle.mast_shrink.specs.declared.conflict.Broken.{Broken}
use Rattle.mast_shrink.specs.inside.Removal.{others, IsNeeded, AreBroken, AreNeeded}

others_case : (b : Bool) (row other r : RowId) (rest : List RowId) → row_eq.ghosts.eq other row ≡ b → In r (if b then rest else other ∷ rest) → In r rest ⊎ ((r ≡ other) × (row_eq.ghosts.eq other row ≡ false))
others_case true row other r rest e i = inl i
others_case false row other r rest e (inl q) = inr (q, e)
others_case false row other r rest e (inr i) = inl i

-- what is left without a row are rows
pub in_others : (row r : RowId) (rows : List RowId) → In r (others row rows) → In r rows
in_others row r [] i = absurd i
in_others row r (other ∷ rows) i = elim (others_case (row_eq.ghosts.eq other row) row other r (others row rows) refl i) [
  | inl j ↦ inr (in_others row r rows j)
  | inr h ↦ inl h.0
]

reflexive : (row : RowId) → row_eq.ghosts.eq row row ≡ true
reflexive row = (row_equality_test row row).1 refl

-- the row is not left
pub not_in_others : (row : RowId) (rows : List RowId) → In row (others row rows) → ⊥
not_in_others row [] i = i
not_in_others row (other ∷ rows) i = elim (others_case (row_eq.ghosts.eq other row) row other row (others row rows) refl i) [
  | inl j ↦ not_in_others row rows j
  | inr h ↦ false≢true (sym h.1 ∙ ap (λ z. row_eq.ghosts.eq z row) (sym h.0) ∙ reflexive row)
]

kept_case : (b : Bool) (row other r : RowId) (rest : List RowId) → row_eq.ghosts.eq other row ≡ b → r ≢ row → (r ≡ other) ⊎ In r rest → In r (if b then rest else other ∷ rest)
kept_case true row other r rest e differ (inl q) = absurd (differ (q ∙ row_same other row e))
kept_case true row other r rest e differ (inr i) = i
kept_case false row other r rest e differ (inl q) = inl q
kept_case false row other r rest e differ (inr i) = inr i

-- and all rows but that one are left
pub others_in : (row r : RowId) (rows : List RowId) → In r rows → r ≢ row → In r (others row rows)
others_in row r [] i differ = absurd i
others_in row r (other ∷ rows) (inl q) differ = kept_case (row_eq.ghosts.eq other row) row other r (others row rows) refl differ (inl q)
others_in row r (other ∷ rows) (inr i) differ = kept_case (row_eq.ghosts.eq other row) row other r (others row rows) refl differ (inr (others_in row r rows i differ))

any_case : (b : Bool) (row other : RowId) (rest : Bool) → row_eq.ghosts.eq other row ≡ b → (b || rest) ≡ false → (row ≡ other → ⊥) × (rest ≡ false)
any_case true row other rest e none = absurd (false≢true (sym none))
any_case false row other rest e none = (λ q. false≢true (sym e ∙ ap (λ z. row_eq.ghosts.eq z row) (sym q) ∙ reflexive row), none)

-- a row that no test finds is none of the rows
pub not_among : (row : RowId) (rows : List RowId) → list_any (λ other. row_eq.ghosts.eq other row) rows ≡ false → In row rows → ⊥
not_among row [] none i = i
not_among row (other ∷ rows) none (inl q) = (any_case (row_eq.ghosts.eq other row) row other (list_any (λ z. row_eq.ghosts.eq z row) rows) refl none).0 q
not_among row (other ∷ rows) none (inr i) = not_among row rows (any_case (row_eq.ghosts.eq other row) row other (list_any (λ z. row_eq.ghosts.eq z row) rows) refl none).1 i

module _ (spec : Spec) (tables : List (List Row)) where
  -- what some rows break, more rows break
  by_grows : (X Y : RowId → Type 0) → ((row : RowId) → X row → Y row) → (origin : Origin) → By (theory_of spec) (FactsOf spec tables X) origin → By (theory_of spec) (FactsOf spec tables Y) origin
  by_grows X Y more origin b =
      let theory = theory_of spec in
      let F = FactsOf spec tables X in
      let G = FactsOf spec tables Y in
      let grow : (f : Fact Term) → F f → G f = λ f h. facts_grow spec.tables tables spec.maps X Y f more h in
      breaks_grow (HoldsBy theory F) (HoldsBy theory G) (holds_grows F G grow (stated theory)) theory origin b

  -- a row stays needed where other rows are left out
  needed_stays : (more rows : List RowId) (row : RowId) → ((r : RowId) → In r rows → In r more) → IsNeeded spec tables more row → IsNeeded spec tables rows row
  needed_stays more rows row within needed none =
      needed (none.0, by_grows (Without (IsAmong rows) row) (Without (IsAmong more) row) (λ r h. (within r h.0, h.1)) none.0 none.1)

  -- a row is needed where the rest has a model
  needed_for : (row : RowId) (rows : List RowId) → (HaveNoModel spec tables (others row rows) → ⊥) → IsNeeded spec tables rows row
  needed_for row rows has none =
      has (none.0, by_grows (Without (IsAmong rows) row) (IsAmong (others row rows)) (λ r h. others_in row r rows h.0 h.1) none.0 none.1)

  -- all rows are left, and the row is none of them
  pub left_as_is : (broken : Broken) (row : RowId) (found : Bool) (slice : List RowId) → slice ≡ broken.rows → found ≡ list_any (λ other. row_eq.ghosts.eq other row) slice → found ≡ false
      → AreNeeded spec tables (λ r. r ≡ row) broken
  left_as_is broken row found slice same tests none r e i =
      let nowhere = ap (list_any (λ other. row_eq.ghosts.eq other row)) (sym same) ∙ sym tests ∙ none in
      absurd (not_among row broken.rows nowhere (subst (λ z. In z broken.rows) e i))

  -- all rows are left, since this one is needed
  pub left_needed : (broken : Broken) (row : RowId) (rest : List RowId) → rest ≡ others row broken.rows → TellsModel spec tables (Some rest) None → AreNeeded spec tables (λ r. r ≡ row) broken
  left_needed broken row rest same none r e i =
      let has : HaveNoModel spec tables (others row broken.rows) → ⊥ = subst (λ rs. HaveNoModel spec tables rs → ⊥) same none in
      subst (λ z. IsNeeded spec tables broken.rows z) (sym e) (needed_for row broken.rows has)

  -- the rows of the breach that was found of the others are left
  pub left_fewer : (old : Broken) (row : RowId) (rest : List RowId) (found : Breach) → rest ≡ others row old.rows → IsBreachOf spec tables (Some rest) found
      → AreBroken spec tables old.rows (record { origin = found.origin; rows = found.hit.rows })
  left_fewer old row rest found same breach = record {
    by = breach.broken;
    ordered = breach.ordered;
    within = λ r i. in_others row r old.rows (subst (In r) same (each_in (IsAmong rest) r found.hit.rows breach.within i));
  }

  -- and the row is none of them
  pub left_without : (old : Broken) (row : RowId) (rest : List RowId) (found : Breach) → rest ≡ others row old.rows → IsBreachOf spec tables (Some rest) found
      → AreNeeded spec tables (λ r. r ≡ row) (record { origin = found.origin; rows = found.hit.rows })
  left_without old row rest found same breach r e i =
      let there = subst (In r) same (each_in (IsAmong rest) r found.hit.rows breach.within i) in
      absurd (not_in_others row old.rows (subst (λ z. In z (others row old.rows)) e there))

  -- the others are rows of the tables
  pub others_of : (row : RowId) (rows rest slice : List RowId) → rest ≡ others row rows → slice ≡ rest → AllByRecursion (IsOfTables tables) rows → AllByRecursion (IsOfTables tables) slice
  others_of row rows rest slice same is of =
      subst (AllByRecursion (IsOfTables tables)) (sym (is ∙ same))
      (in_each (IsOfTables tables) (others row rows) (λ r i. each_in (IsOfTables tables) r rows of (in_others row r rows i)))

  -- and so are fewer rows
  pub fewer_of : (rows : List RowId) (broken : Broken) → AreBroken spec tables rows broken → AllByRecursion (IsOfTables tables) rows → AllByRecursion (IsOfTables tables) broken.rows
  fewer_of rows broken are of = in_each (IsOfTables tables) broken.rows (λ r i. each_in (IsOfTables tables) r rows of (are.within r i))

  -- the rows that are left break what they break
  pub of_itself : (rows : List RowId) (broken : Broken) → AreBroken spec tables rows broken → AreBroken spec tables broken.rows broken
  of_itself rows broken are = record { by = are.by; ordered = are.ordered; within = λ r i. i }

  -- one more row is tried
  pub more_broken : (all : List RowId) (old new : Broken) → AreBroken spec tables all old → AreBroken spec tables old.rows new → AreBroken spec tables all new
  more_broken all old new first more = record { by = more.by; ordered = more.ordered; within = λ r i. first.within r (more.within r i) }

  -- and what is needed
  pub more_needed : (all : List RowId) (i : ℕ) (row : RowId) (old new : Broken) → i < length all → row ≡ get_or all i row
      → AreNeeded spec tables (IsAmong (take i all)) old → AreBroken spec tables old.rows new → AreNeeded spec tables (λ r. r ≡ row) new → AreNeeded spec tables (IsAmong (take (i + 1) all)) new
  more_needed all i row old new less is needed more now r t there =
      elim (in_append r (take i all) (row ∷ []) (subst (In r) (take_more all i row less ∙ ap (λ (k : RowId). take i all ++ k ∷ []) (sym is)) t)) [
        | inl g ↦ needed_stays old.rows new.rows r more.within (needed r g (more.within r there))
        | inr g ↦ elim g [ inl e ↦ now r e there | inr z ↦ absurd z ]
      ]

  -- all rows were tried
  pub all_needed : (all : List RowId) (i : ℕ) (broken : Broken) → length all ≤ i → AreNeeded spec tables (IsAmong (take i all)) broken → AreNeeded spec tables (IsAmong all) broken
  all_needed all i broken long needed = subst (λ rs. AreNeeded spec tables (IsAmong rs) broken) (take_all i all long) needed

  -- where all rows that are left are needed, they are a conflict
  pub is_conflict : (rows : List RowId) (broken : Broken) → AreBroken spec tables rows broken → AreNeeded spec tables (IsAmong rows) broken → IsConflict spec tables broken.rows
  is_conflict rows broken are needed = record {
    no_model = (broken.origin, are.by);
    least = λ r i. needed r (are.within r i) i;
  }

  -- the rows of a breach, in order
  pub breach_in_order : (rows ordered again : List RowId) (origin : Origin) → HaveSameRows ordered rows → HaveSameRows again ordered → IsStrictlySortedBy row_order again
      → IsBrokenBy spec tables rows origin → AreBroken spec tables ordered (record { origin = origin; rows = again })
  breach_in_order rows ordered again origin first second sorted by = record {
    by = by_grows (IsAmong rows) (IsAmong again) (λ r i. (second r).1 ((first r).1 i)) origin by;
    ordered = sorted;
    within = λ r i. (second r).0 i;
  }

  -- and these are rows of the tables
  pub ordered_of : (rows ordered : List RowId) → HaveSameRows ordered rows → AllByRecursion (IsOfTables tables) rows → AllByRecursion (IsOfTables tables) ordered
  ordered_of rows ordered same of = in_each (IsOfTables tables) ordered (λ r i. each_in (IsOfTables tables) r rows of ((same r).0 i))

  -- what is left is among the rows of the breach
  pub left_within : (rows ordered : List RowId) (broken : Broken) → HaveSameRows ordered rows → AreBroken spec tables ordered broken → AllByRecursion (IsAmong rows) broken.rows
  left_within rows ordered broken same are = in_each (IsAmong rows) broken.rows (λ r i. (same r).0 (are.within r i))

  -- the rows of a breach, sorted twice, as they are lent
  pub begun : (asked : Spec) (rows slice ordered lent again left last : List RowId) (origin : Origin) → asked ≡ spec → slice ≡ rows → lent ≡ ordered → last ≡ ordered → left ≡ again
      → HaveSameRows ordered slice → HaveSameRows again lent → IsStrictlySortedBy row_order again → IsBrokenBy spec tables rows origin → AreBroken asked tables last (record { origin = origin; rows = left })
  begun asked rows slice ordered lent again left last origin same sliced lends lasts leaves first second sorted by =
      subst (λ s. AreBroken s tables last (record { origin = origin; rows = left })) (sym same)
      (subst (λ (rs : List RowId). AreBroken spec tables last (record { origin = origin; rows = rs })) (sym leaves)
      (subst (λ (rs : List RowId). AreBroken spec tables rs (record { origin = origin; rows = again })) (sym lasts)
      (breach_in_order rows ordered again origin (subst (HaveSameRows ordered) sliced first) (subst (HaveSameRows again) lends second) sorted by)))
