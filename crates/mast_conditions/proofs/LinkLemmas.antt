-- Entries that are tied by equalities lead to what is chosen.
use Rattle.std.proofs.Common.{◌≡◌, ℕ, zero, suc, ◌+◌, ◌-◌, ◌<◌, inl, inr, true, List, [], ◌∷◌, ◌++◌, length, get_or, refl, sym, ap, subst, ◌∙◌, arith}
use Rattle.std.specs.List.{list_all}
use Rattle.std.proofs.lemmas.List.{get_or_append_left, get_or-append_right, length-append, map-append}
use Rattle.mast_relations.specs.Lookups.{rows_in}
use Rattle.mast_relations.specs.Matches.{In, Rows, nothing}
use Rattle.mast_relations.specs.Plans.{AreBelow, picked}
use Rattle.mast_relations.proofs.ListLemmas.{each_append, each_at_place}
use Rattle.mast_conditions.specs.Choices.{GivesAt, Leads}
use Rattle.mast_conditions.specs.Spans.{AreSpans, Chosen, IsFoundBy, IsSpan}
use Rattle.mast_conditions.specs.Truth.{truth, truths}
use Rattle.mast_conditions.specs.declared.condition.Condition.{Condition}
use Rattle.mast_conditions.specs.declared.condition.Entry.{Entry}
use Rattle.mast_conditions.specs.declared.linking.Equality.{Equality}
use Rattle.mast_conditions.specs.declared.linking.Link.{Link}
use Rattle.mast_conditions.specs.declared.span.Span.{Span}
use Rattle.mast_conditions.specs.inside.Links.{AreEqual, AreLinked, AreLinkedEntries, IsAdded, IsLink, IsLinkedEntry}
use Rattle.mast_conditions.proofs.TruthLemmas.{and_left, and_right}

-- each of conditions that are all true is true
pub all_true_at : (relations : List Rows) (numbers : List ℕ) (conditions : List Condition) (i : ℕ) (d : Condition) → list_all (λ part. part numbers) (truths relations conditions) ≡ true → i < length conditions → truth relations (get_or conditions i d) numbers ≡ true
all_true_at relations numbers [] i d e lt = absurd (omega arith)
all_true_at relations numbers (c ∷ cs) zero d e lt = and_left (truth relations c numbers) (list_all (λ part. part numbers) (truths relations cs)) e
all_true_at relations numbers (c ∷ cs) (suc i) d e lt = all_true_at relations numbers cs i d (and_right (truth relations c numbers) (list_all (λ part. part numbers) (truths relations cs)) e) (omega arith)

-- one equality more
pub equal_more : (equalities : List Equality) (equality : Equality) (numbers : List ℕ) → AreEqual equalities numbers → get_or numbers equality.left 0 ≡ get_or numbers equality.right 0 → AreEqual (equalities ++ equality ∷ []) numbers
equal_more equalities equality numbers all e = each_append (λ q. get_or numbers q.left 0 ≡ get_or numbers q.right 0) equalities (equality ∷ []) all (e, tt)

get_behind : (xs ys : List ℕ) (i : ℕ) → get_or (xs ++ ys) (length xs + i) 0 ≡ get_or ys i 0
get_behind xs ys i =
    let e : length xs + i - length xs ≡ i = omega arith in
    get_or-append_right xs ys (length xs) (length xs + i) 0 refl (omega arith) ∙ ap (λ (k : ℕ). get_or ys k 0) e

-- the number in a column of a chosen row
column_of : (numbers row more : List ℕ) (at column place : ℕ) → length numbers ≡ at → column < length row → place ≡ at + column → get_or ((numbers ++ row) ++ more) place 0 ≡ get_or row column 0
column_of numbers row more at column place ln lt e =
    let place_is : place ≡ length numbers + column = omega (arith, ln, e) in
    ap (λ (k : ℕ). get_or ((numbers ++ row) ++ more) k 0) place_is
    ∙ get_or_append_left (numbers ++ row) more 0 (length numbers + column) (omega (arith, lt, length-append numbers row))
    ∙ get_behind numbers row column

-- the number at a place before it
place_of : (numbers row more : List ℕ) (place : ℕ) → place < length numbers → get_or ((numbers ++ row) ++ more) place 0 ≡ get_or numbers place 0
place_of numbers row more place lt =
    get_or_append_left (numbers ++ row) more 0 place (omega (arith, lt, length-append numbers row)) ∙ get_or_append_left numbers row 0 place lt

module _ (equalities : List Equality) (span : Span) where
  -- nothing is tied
  pub linked_none : AreLinked equalities span [] []
  linked_none numbers row more ln lr all = refl

  tied : (equality : Equality) (link : Link) → IsLink span equality link → (numbers row more : List ℕ) → length numbers ≡ span.at → length row ≡ span.width
      → get_or ((numbers ++ row) ++ more) equality.left 0 ≡ get_or ((numbers ++ row) ++ more) equality.right 0 → get_or row link.column 0 ≡ get_or numbers link.place 0
  tied equality link is numbers row more ln lr e =
      let column : link.column < length row = within is.column in
      let place : link.place < length numbers = before is.place in
      elim is.is [
        | inl x ↦ sym (column_of numbers row more span.at link.column equality.left ln column x.0) ∙ e ∙ ap (λ (k : ℕ). get_or ((numbers ++ row) ++ more) k 0) x.1 ∙ place_of numbers row more link.place place
        | inr x ↦ sym (column_of numbers row more span.at link.column equality.right ln column x.1) ∙ sym e ∙ ap (λ (k : ℕ). get_or ((numbers ++ row) ++ more) k 0) x.0 ∙ place_of numbers row more link.place place
      ]
    where
      within : link.column < span.width → link.column < length row
      within lt = omega (arith, lt, lr)

      before : link.place < span.at → link.place < length numbers
      before lt = omega (arith, lt, ln)

  -- one column more
  pub linked_more : (columns places : List ℕ) (i : ℕ) (d : Equality) (link : Link) → i < length equalities → IsLink span (get_or equalities i d) link → AreLinked equalities span columns places → AreLinked equalities span (columns ++ link.column ∷ []) (places ++ link.place ∷ [])
  linked_more columns places i d link lt is linked numbers row more ln lr all =
      map-append (λ (place : ℕ). get_or row place 0) columns (link.column ∷ [])
      ∙ ap (λ (k : List ℕ). k ++ get_or row link.column 0 ∷ []) (linked numbers row more ln lr all)
      ∙ ap (λ (k : ℕ). picked numbers places ++ k ∷ []) (tied (get_or equalities i d) link is numbers row more ln lr
      (each_at_place (λ q. get_or ((numbers ++ row) ++ more) q.left 0 ≡ get_or ((numbers ++ row) ++ more) q.right 0) d equalities i all lt))
      ∙ sym (map-append (λ (place : ℕ). get_or numbers place 0) places (link.place ∷ []))

  -- the columns so far are tied
  pub record IsTied (columns places : List ℕ) : Type 0 where
    pub linked : AreLinked equalities span columns places
    pub within : AreBelow span.width columns

  pub tied_none : (columns places : List ℕ) → columns ≡ [] → places ≡ [] → IsTied columns places
  tied_none columns places e f = subst (λ (k : List ℕ). IsTied k places) (sym e) (subst (λ (k : List ℕ). IsTied [] k) (sym f) (record { linked = linked_none; within = tt }))

  pub tied_next : (columns places more_columns more_places : List ℕ) (i : ℕ) (d : Equality) → i < length equalities → IsTied columns places → IsAdded span (get_or equalities i d) columns places more_columns more_places → IsTied more_columns more_places
  tied_next columns places more_columns more_places i d lt t (inl x) = subst (λ (k : List ℕ). IsTied k more_places) (sym x.0) (subst (λ (k : List ℕ). IsTied columns k) (sym x.1) t)
  tied_next columns places more_columns more_places i d lt t (inr x) =
      subst (λ (k : List ℕ). IsTied k more_places) (sym x.2) (subst (λ (k : List ℕ). IsTied (columns ++ x.0.column ∷ []) k) (sym x.3) (record {
        linked = linked_more columns places i d x.0 lt x.1 t.linked;
        within = each_append (λ column. column < span.width) columns (x.0.column ∷ []) t.within (x.1.column, tt);
      }))

-- one entry more
pub entries_more : (equalities : List Equality) (spans : List Span) (entries : List Entry) (span : Span) (entry : Entry) → AreLinkedEntries equalities spans entries → IsLinkedEntry equalities span entry → AreLinkedEntries equalities (spans ++ span ∷ []) (entries ++ entry ∷ [])
entries_more equalities [] [] span entry all one = (one, tt)
entries_more equalities [] (e ∷ es) span entry all one = absurd all
entries_more equalities (s ∷ ss) [] span entry all one = absurd all
entries_more equalities (s ∷ ss) (e ∷ es) span entry all one = (all.0, entries_more equalities ss es span entry all.1 one)

-- a span of a number is there
pub record IsThere (relations : List Rows) (span : Span) : Type 0 where
  pub there : span.relation < length relations
  pub wide : span.width ≡ (get_or relations span.relation nothing).width

-- each span of spans one behind the other is
pub span_there : (relations : List Rows) (top : ℕ) (spans : List Span) (i : ℕ) (d : Span) → AreSpans relations top spans → i < length spans → IsThere relations (get_or spans i d)
span_there relations top [] i d all lt = absurd (omega arith)
span_there relations top (s ∷ ss) zero d all lt = record { there = all.0.there; wide = all.0.wide }
span_there relations top (s ∷ ss) (suc i) d all lt = span_there relations (top + s.width) ss i d all.1 (omega arith)

-- what is chosen begins with what it was chosen over
pub record IsEnd (P : List ℕ → Type 0) (numbers : List ℕ) : Type 0 where
  pub more : List ℕ
  pub holds : P (numbers ++ more)

append_nothing : (xs : List ℕ) → xs ≡ xs ++ []
append_nothing [] = refl
append_nothing (x ∷ xs) = ap (λ (k : List ℕ). x ∷ k) (append_nothing xs)

append_both : (xs ys zs : List ℕ) → (xs ++ ys) ++ zs ≡ xs ++ (ys ++ zs)
append_both [] ys zs = refl
append_both (x ∷ xs) ys zs = ap (λ (k : List ℕ). x ∷ k) (append_both xs ys zs)

pub chosen_end : (relations : List Rows) (spans : List Span) (numbers : List ℕ) (P : List ℕ → Type 0) → Chosen relations spans numbers P → IsEnd P numbers
chosen_end relations [] numbers P x = record { more = []; holds = subst P (append_nothing numbers) x }
chosen_end relations (s ∷ ss) numbers P x =
    let end = chosen_end relations ss (numbers ++ x.0) P x.2 in
    record { more = x.0 ++ end.more; holds = subst P (append_both numbers x.0 end.more) end.holds }

module _ (relations : List Rows) (equalities : List Equality) (P : List ℕ → Type 0) (equal : (chosen : List ℕ) → P chosen → AreEqual equalities chosen) where
  -- rows that are found are rows
  pub leads_chosen : (place : ℕ) (spans : List Span) (entries : List Entry) (numbers : List ℕ) → AreSpans relations place spans → AreLinkedEntries equalities spans entries → Leads relations entries numbers P → Chosen relations spans numbers P
  leads_chosen place [] [] numbers are linked x = x
  leads_chosen place [] (e ∷ es) numbers are linked x = absurd linked
  leads_chosen place (s ∷ ss) [] numbers are linked x = absurd linked
  leads_chosen place (s ∷ ss) (e ∷ es) numbers are linked x =
      let same = linked.0.relation in (
        x.0,
        record {
          there = subst (λ (r : ℕ). In x.0 (rows_in relations r)) same x.1.there;
          long = x.1.wide ∙ ap (λ (r : ℕ). (get_or relations r nothing).width) same ∙ sym are.0.wide;
        },
        leads_chosen (place + s.width) ss es (numbers ++ x.0) are.1 linked.1 x.2,
      )

  -- and rows that lead to what holds are found
  pub chosen_leads : (place : ℕ) (spans : List Span) (entries : List Entry) (numbers : List ℕ) → length numbers ≡ place → AreSpans relations place spans → AreLinkedEntries equalities spans entries → Chosen relations spans numbers P → Leads relations entries numbers P
  chosen_leads place [] [] numbers ln are linked x = x
  chosen_leads place [] (e ∷ es) numbers ln are linked x = absurd linked
  chosen_leads place (s ∷ ss) [] numbers ln are linked x = absurd linked
  chosen_leads place (s ∷ ss) (e ∷ es) numbers ln are linked x =
      let same = linked.0.relation in
      let end = chosen_end relations ss (numbers ++ x.0) P x.2 in (
        x.0,
        record {
          there = subst (λ (r : ℕ). In x.0 (rows_in relations r)) (sym same) x.1.there;
          wide = x.1.long ∙ are.0.wide ∙ ap (λ (r : ℕ). (get_or relations r nothing).width) (sym same);
          agrees = linked.0.linked numbers x.0 end.more (ln ∙ sym are.0.begins) x.1.long (equal ((numbers ++ x.0) ++ end.more) end.holds);
        },
        chosen_leads (place + s.width) ss es (numbers ++ x.0) (longer x.1.long) are.1 linked.1 x.2,
      )
    where
      longer : length x.0 ≡ s.width → length (numbers ++ x.0) ≡ place + s.width
      longer e = omega (arith, e, ln, length-append numbers x.0)

-- so they lead to what is chosen
pub found_by : (relations : List Rows) (top : ℕ) (spans : List Span) (condition : Condition) (entries : List Entry) (equalities : List Equality) → AreSpans relations top spans → AreLinkedEntries equalities spans entries
    → ((relations : List Rows) (numbers : List ℕ) → AreEqual [] numbers → truth relations condition numbers ≡ true → AreEqual equalities numbers) → IsFoundBy relations top spans condition entries
found_by relations top spans condition entries equalities are linked equal numbers items tuple ln = (
  leads_chosen relations equalities (GivesAt relations condition items tuple) (λ chosen p. equal relations chosen tt p.0) top spans entries numbers are linked,
  chosen_leads relations equalities (GivesAt relations condition items tuple) (λ chosen p. equal relations chosen tt p.0) top spans entries numbers ln are linked,
)

-- the place behind spans
abbrev pub end_after : ℕ → List Span → ℕ
end_after place [] = place
end_after place (span ∷ spans) = end_after (place + span.width) spans

-- one span more
pub spans_more : (relations : List Rows) (place : ℕ) (spans : List Span) (span : Span) → AreSpans relations place spans → IsSpan relations (end_after place spans) span → AreSpans relations place (spans ++ span ∷ [])
spans_more relations place [] span are is = (is, tt)
spans_more relations place (s ∷ ss) span are is = (are.0, spans_more relations (place + s.width) ss span are.1 is)

-- and the place behind them
pub end_more : (place : ℕ) (spans : List Span) (span : Span) → end_after place (spans ++ span ∷ []) ≡ end_after place spans + span.width
end_more place [] span = refl
end_more place (s ∷ ss) span = end_more (place + s.width) ss span
