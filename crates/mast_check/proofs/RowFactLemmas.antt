-- The facts of some rows are those of a list, so it is decided whether they have a model.
use Rattle.std.proofs.Common.{◌≡◌, ℕ, zero, suc, ◌≤◌, inl, inr, List, [], ◌∷◌, ◌++◌, length, Option, Some, None, refl, sym, ap, subst, arith}
use Rattle.std.proofs.lemmas.Bool.{cases_order}
use Rattle.std.specs.List.{AllByRecursion, AllZip}
use Rattle.std.specs.Option.{option_to_list}
use Rattle.mast_terms.specs.declared.term.Term.{Term}
use Rattle.mast_terms.specs.Vocabularies.{IsVocabulary}
use Rattle.mast_cq.specs.Meanings.{Fact}
use Rattle.mast_cq.specs.Queries.{In}
use Rattle.mast_cq.proofs.ListLemmas.{each_in, in_each, in_append, append_left, append_right}
use Rattle.mast_mapping.specs.declared.split_map.SplitMap.{SplitMap}
use Rattle.mast_sql.specs.declared.query.FromEntry.{FromEntry}
use Rattle.mast_sql.specs.declared.query.SourceQuery.{SourceQuery}
use Rattle.mast_tables.specs.declared.declaration.TableDecl.{TableDecl}
use Rattle.mast_tables.specs.Rows.{Row}
use Rattle.mast_tbox.specs.Laws.{Decided}
use Rattle.mast_tbox.proofs.ThroughLemmas.{dec_and}
use Rattle.mast_canon.specs.contracts.rows.RowIdPartialEq.TheImpl as row_eq
use Rattle.mast_canon.specs.declared.rows.RowId.{RowId}
use Rattle.mast_canon.specs.declared.spec.Spec.{Spec}
use Rattle.mast_canon.specs.Choices.{rows_of, IsRowNumber, chosen, IsTrueOf}
use Rattle.mast_canon.specs.ConflictLaws.{HaveNoModel, IsAmong}
use Rattle.mast_canon.specs.FactLists.{is_true_of}
use Rattle.mast_canon.specs.Facts.{IsFactOf, chosen_rows, fact_of}
use Rattle.mast_canon.specs.SpecFacts.{FactsOf}
use Rattle.mast_canon.specs.Theories.{theory_of}
use Rattle.mast_canon.specs.WorldLaws.{IsListed}
use Rattle.mast_canon.proofs.KeptRangeLemmas.{decide}
use Rattle.mast_canon.proofs.RowLemmas.{row_equality_test}
use Rattle.mast_canon.proofs.SpecLemmas.{rows_in_range}
use Rattle.mast_canon.proofs.TestLemmas.{tells_decided, tells_each, tells_test}
use Rattle.mast_check.proofs.FormLemmas.{spec_proper}
use Rattle.mast_check.proofs.ModelLemmas.{is_decided}

-- what a function gives of each number from n down to 1, one after the other
numbered : {B : Type 0} → (ℕ → List B) → ℕ → List B
numbered g zero = []
numbered g (suc n) = g (suc n) ++ numbered g n

into_numbered : {B : Type 0} (g : ℕ → List B) (n k : ℕ) (y : B) → 1 ≤ k → k ≤ n → In y (g k) → In y (numbered g n)
unfolding numbered
into_numbered g zero k y l m i = absurd (omega (arith, l, m))
into_numbered g (suc n) k y l m i = elim (cases_order k (suc n)) [
  | inl e ↦ append_left y (g (suc n)) (numbered g n) (subst (λ j. In y (g j)) e i)
  | inr d ↦ elim d [
    | inl less ↦ append_right y (g (suc n)) (numbered g n) (into_numbered g n k y l (omega (arith, less)) i)
    | inr more ↦ absurd (omega (arith, more, m))
  ]
]

out_numbered : {B : Type 0} (g : ℕ → List B) (n : ℕ) (y : B) → In y (numbered g n) → (k : ℕ) × (((1 ≤ k) × (k ≤ n)) × In y (g k))
unfolding numbered
out_numbered g zero y i = absurd i
out_numbered g (suc n) y i = elim (in_append y (g (suc n)) (numbered g n) i) [
  | inl j ↦ (suc n, ((omega arith, omega arith), j))
  | inr j ↦ (let w = out_numbered g n y j in (w.0, ((w.1.0.0, (let l = w.1.0.1 in omega (arith, l))), w.1.1)))
]

module _ (decls : List TableDecl) (tables : List (List Row)) where
  -- the choice has the number of a row for each entry
  abbrev IsChoiceOf : List FromEntry → List ℕ → Type 0
  IsChoiceOf entries choice = AllZip (λ entry number. IsRowNumber (rows_of decls tables entry) number) entries choice

  -- what a function gives of each choice, one after the other
  chosen_all : {B : Type 0} → List FromEntry → (List ℕ → List B) → List B
  chosen_all [] g = g []
  chosen_all (entry ∷ entries) g = numbered (λ n. chosen_all entries (λ c. g (n ∷ c))) (length (rows_of decls tables entry))

  into_chosen : {B : Type 0} (entries : List FromEntry) (g : List ℕ → List B) (choice : List ℕ) (y : B) → IsChoiceOf entries choice → In y (g choice) → In y (chosen_all entries g)
  unfolding chosen_all
  into_chosen [] g [] y h i = i
  into_chosen [] g (n ∷ choice) y h i = absurd h
  into_chosen (entry ∷ entries) g [] y h i = absurd h
  into_chosen (entry ∷ entries) g (n ∷ choice) y h i =
      into_numbered (λ k. chosen_all entries (λ c. g (k ∷ c))) (length (rows_of decls tables entry)) n y h.0.0 h.0.1 (into_chosen entries (λ c. g (n ∷ c)) choice y h.1 i)

  out_chosen : {B : Type 0} (entries : List FromEntry) (g : List ℕ → List B) (y : B) → In y (chosen_all entries g) → (choice : List ℕ) × (IsChoiceOf entries choice × In y (g choice))
  unfolding chosen_all
  out_chosen [] g y i = ([], (tt, i))
  out_chosen (entry ∷ entries) g y i =
      let k = out_numbered (λ n. chosen_all entries (λ c. g (n ∷ c))) (length (rows_of decls tables entry)) y i in
      let w = out_chosen entries (λ c. g (k.0 ∷ c)) y k.1.1 in
      (k.0 ∷ w.0, ((k.1.0, w.1.0), w.1.1))

  module _ (rows : List RowId) where
    dec_row : (row : RowId) (others : List RowId) → Decided (In row others)
    dec_row row [] = inr (λ i. i)
    dec_row row (other ∷ others) = elim (decide row_eq.ghosts.eq row_equality_test row other) [
      | inl e ↦ inl (inl e)
      | inr n ↦ elim (dec_row row others) [ inl i ↦ inl (inr i) | inr m ↦ inr (λ w. elim w [ inl e ↦ n e | inr i ↦ m i ]) ]
    ]

    dec_within : (part : List RowId) → Decided (AllByRecursion (IsAmong rows) part)
    dec_within [] = inl tt
    dec_within (row ∷ part) = dec_and (dec_row row rows) (dec_within part)

    -- the choice meets the query's conditions, and its rows are among these
    abbrev IsWithin : SourceQuery → List ℕ → Type 0
    IsWithin query choice = AllByRecursion (IsTrueOf decls query.from (chosen decls tables query.from choice)) query.conditions × AllByRecursion (IsAmong rows) (chosen_rows decls query.from choice)

    dec_choice : (query : SourceQuery) (choice : List ℕ) → Decided (IsWithin query choice)
    dec_choice query choice =
        dec_and (tells_decided _ (tells_each (λ c. tells_test (is_true_of decls query.from (chosen decls tables query.from choice) c)) query.conditions)) (dec_within (chosen_rows decls query.from choice))

    picked : {A : Type 0} → Decided A → Option (Fact Term) → List (Fact Term)
    picked (inl a) o = option_to_list o
    picked (inr n) o = []

    into_told : (o : Option (Fact Term)) (f : Fact Term) → o ≡ Some f → In f (option_to_list o)
    into_told None f e = absurd (cc)
    into_told (Some g) f e = let w : f ≡ g = cc in inl w

    out_told : (o : Option (Fact Term)) (f : Fact Term) → In f (option_to_list o) → o ≡ Some f
    out_told None f i = absurd i
    out_told (Some g) f (inl e) = ap Some (sym e)
    out_told (Some g) f (inr i) = absurd i

    into_picked : {A : Type 0} (d : Decided A) (o : Option (Fact Term)) (f : Fact Term) → A → o ≡ Some f → In f (picked d o)
    unfolding picked
    into_picked (inl a) o f h e = into_told o f e
    into_picked (inr n) o f h e = absurd (n h)

    out_picked : {A : Type 0} (d : Decided A) (o : Option (Fact Term)) (f : Fact Term) → In f (picked d o) → A × (o ≡ Some f)
    unfolding picked
    out_picked (inl a) o f i = (a, out_told o f i)
    out_picked (inr n) o f i = absurd i

    abbrev fact_by : SplitMap → List ℕ → Option (Fact Term)
    fact_by m choice = fact_of decls m.query (chosen decls tables m.query.from choice) m.head

    abbrev by_choice : SplitMap → List ℕ → List (Fact Term)
    by_choice m choice = picked (dec_choice m.query choice) (fact_by m choice)

    -- the facts of the rows, map by map and choice by choice
    facts_within : List SplitMap → List (Fact Term)
    facts_within [] = []
    facts_within (m ∷ maps) = chosen_all m.query.from (by_choice m) ++ facts_within maps

    into_facts : (maps : List SplitMap) (m : SplitMap) (f : Fact Term) → In m maps → In f (chosen_all m.query.from (by_choice m)) → In f (facts_within maps)
    unfolding facts_within
    into_facts [] m f i j = absurd i
    into_facts (n ∷ maps) m f (inl e) j = append_left f (chosen_all n.query.from (by_choice n)) (facts_within maps) (subst (λ (k : SplitMap). In f (chosen_all k.query.from (by_choice k))) e j)
    into_facts (n ∷ maps) m f (inr i) j = append_right f (chosen_all n.query.from (by_choice n)) (facts_within maps) (into_facts maps m f i j)

    out_facts : (maps : List SplitMap) (f : Fact Term) → In f (facts_within maps) → (m : SplitMap) × (In m maps × In f (chosen_all m.query.from (by_choice m)))
    unfolding facts_within
    out_facts [] f i = absurd i
    out_facts (n ∷ maps) f i = elim (in_append f (chosen_all n.query.from (by_choice n)) (facts_within maps) i) [
      | inl j ↦ (n, (inl refl, j))
      | inr j ↦ (let w = out_facts maps f j in (w.0, (inr w.1.0, w.1.1)))
    ]

    listed_of : (maps : List SplitMap) (f : Fact Term) → IsFactOf decls tables maps (IsAmong rows) f → In f (facts_within maps)
    listed_of maps f h =
        let s = h.support in
        let within = in_each (IsAmong rows) (chosen_rows decls s.map.query.from s.choice) (λ row i. each_in (IsAmong rows) row h.rows h.within ((s.are row).1 i)) in
        into_facts maps s.map f s.stands
        (into_chosen s.map.query.from (by_choice s.map) s.choice f s.gives.meets.is_choice
        (into_picked (dec_choice s.map.query s.choice) (fact_by s.map s.choice) f (s.gives.meets.conditions, within) s.gives.gives))

    of_listed : (maps : List SplitMap) (f : Fact Term) → In f (facts_within maps) → IsFactOf decls tables maps (IsAmong rows) f
    of_listed maps f i =
        let m = out_facts maps f i in
        let c = out_chosen m.0.query.from (by_choice m.0) f m.1.1 in
        let p = out_picked (dec_choice m.0.query c.0) (fact_by m.0 c.0) f c.1.1 in
        record {
          rows = chosen_rows decls m.0.query.from c.0;
          support = record {
            map = m.0;
            stands = m.1.0;
            choice = c.0;
            gives = record { meets = record { is_choice = c.1.0; conditions = p.0.0 }; gives = p.1 };
            are = λ row. ((λ x. x), λ x. x);
          };
          within = p.0.1;
        }

-- the facts of some rows of a specification's tables stand in a list
pub rows_listed : (spec : Spec) (tables : List (List Row)) (rows : List RowId) → IsListed (FactsOf spec tables (IsAmong rows))
rows_listed spec tables rows = record {
  list = facts_within spec.tables tables rows spec.maps;
  are = λ f. (listed_of spec.tables tables rows spec.maps f, of_listed spec.tables tables rows spec.maps f);
}

-- so it is decided whether they have a model
pub rows_decided : (spec : Spec) → IsVocabulary spec.vocab → (tables : List (List Row)) (rows : List RowId) → Decided (HaveNoModel spec tables rows)
rows_decided spec vocab tables rows =
    is_decided (FactsOf spec tables (IsAmong rows)) (theory_of spec) (spec_proper spec vocab) (rows_in_range spec tables (IsAmong rows) vocab) (rows_listed spec tables rows)
