-- The steps of a join: choices one by one, and entries one by one.
use Rattle.std.proofs.Common.{◌≡◌, ℕ, zero, suc, ◌+◌, ◌-◌, ◌<◌, ◌≤◌, Bool, true, false, List, [], ◌∷◌, ◌++◌, length, get_or, set, take, inl, inr, refl, sym, ap, subst, ◌∙◌, arith}
use Rattle.std.specs.Prelude.{Option, Some, None}
use Rattle.std.proofs.lemmas.Bool.{cases_lt, false≢true}
use Rattle.std.proofs.lemmas.List.{take_more, get_or_past, get_or-set_same, get_or-set_other}
use Rattle.mast_terms.specs.declared.value.Value.{Value}
use Rattle.mast_cq.specs.Queries.{In}
use Rattle.mast_cq.proofs.ListLemmas.{in_each, each_in}
use Rattle.mast_tables.specs.Rows.{Row, cell_at}
use Rattle.mast_canon.specs.Choices.{IsRowNumber}
use Rattle.mast_join.specs.Chosen.{ChoiceList}
use Rattle.mast_join.specs.declared.comparisons.Side.TheVariants as side
use Rattle.mast_join.specs.declared.comparisons.Test.{Test}
use Rattle.mast_join.specs.declared.index.Index.{Index}
use Rattle.mast_join.specs.declared.join.Join.{Join}
use Rattle.mast_join.specs.declared.numbers.Numbers.{Numbers}
use Rattle.mast_join.specs.declared.order.Link.{Link}
use Rattle.mast_join.specs.inside.Grows.{HasOther, HaveOneValue, NeedsLink, IsLinked, IsLookup, ArePartialOf}
use Rattle.mast_join.specs.inside.Joins.{IsJoin, IsLink, sources, only, nothing}
use Rattle.mast_join.specs.inside.Lookups.{IsFound}
use Rattle.mast_join.specs.inside.Partial.{IsCellOver, IsTestOver, IsSideOver, IsBound, MayHave, IsPartial, AreCandidates, AreGrown, AreOffered, AreReady, AreRows, IsPartly, IsReady, Once, kept, passes, side_value}
use Rattle.mast_join.proofs.FewerLemmas.{passes_each}
use Rattle.mast_join.proofs.GrownLemmas.{grown_more}
use Rattle.mast_join.proofs.JoinLemmas.{cell_is, length-sources}
use Rattle.mast_join.proofs.LinkLemmas.{AreOne, cells_one}
use Rattle.mast_join.proofs.OnceLemmas.{once_before, in_take, in_get, stands_at}

-- one choice more has grown
pub grown_next : (sources : List (List Row)) (tests : List Test) (entry : ℕ) (rows : List ℕ) (choices : List (List ℕ)) (i : ℕ) (found : List ℕ) (grown new : List (List ℕ)) → AreReady sources entry choices → entry < length sources → i < length choices
    → AreGrown sources tests entry rows (take i choices) grown → AreOffered sources tests entry rows (get_or choices i []) found → new ≡ grown ++ kept sources tests (get_or choices i []) entry found → AreGrown sources tests entry rows (take (i + 1) choices) new
grown_next sources tests entry rows choices i found grown new ready there lt g o e =
    let its = each_in (IsReady sources entry) (get_or choices i []) choices ready.each (in_get choices i [] lt) in
    let size : length (get_or choices i []) ≡ length sources = its.partly.long in
    let more : AreGrown sources tests entry rows (take i choices ++ get_or choices i [] ∷ []) (grown ++ kept sources tests (get_or choices i []) entry found) =
    grown_more sources tests entry rows (take i choices) (get_or choices i []) found grown g o
    (λ c j. (each_in (IsReady sources entry) c choices ready.each (in_take choices i c j)).open_there) its.open_there (omega arith) (once_before choices i [] ready.once lt) in
    subst (λ (k : List (List ℕ)). AreGrown sources tests entry rows (take (i + 1) choices) k) (sym e)
    (subst (λ (k : List (List ℕ)). AreGrown sources tests entry rows k (grown ++ kept sources tests (get_or choices i []) entry found)) (sym (take_more choices i [] lt)) more)

-- all rows are offered
pub offered_all : (sources : List (List Row)) (tests : List Test) (entry : ℕ) (rows choice : List ℕ) → Once rows → AreOffered sources tests entry rows choice rows
offered_all sources tests entry rows choice once = record { once = once; within = λ row i. i; all = λ row i p. i }

-- so are those that a lookup finds
pub offered_found : (j : Join) (entry : ℕ) (link : Link) (index : Index) (numbers : Numbers) (choice found : List ℕ) → IsLookup j entry link index numbers → Once index.rows.now → NeedsLink j entry link index.rows.now choice
    → IsFound index (cell_at numbers.from.now (get_or choice link.other 0) numbers.column) found → AreOffered (sources j) j.tests.items entry index.rows.now choice found
offered_found j entry link index numbers choice found l once needs f = record {
  once = f.once once;
  within = f.within;
  all = λ row i p.
      let v = needs row i p in
      let own : cell_at index.table.now row index.column ≡ Some v.value = ap (λ (t : List Row). cell_at t row index.column) l.own ∙ ap (cell_at (get_or (sources j) entry []) row) l.column ∙ v.own in
      let other : cell_at numbers.from.now (get_or choice link.other 0) numbers.column ≡ Some v.value = ap (λ (t : List Row). cell_at t (get_or choice link.other 0) numbers.column) l.from ∙ ap (cell_at (get_or (sources j) link.other []) (get_or choice link.other 0)) l.other_column ∙ v.other in
      f.all row v.value i own other;
}

module _ (j : Join) (bound : List Bool) (choices : ChoiceList) (p : ArePartialOf j bound choices) where
  within_case : (rows : List Row) (b : Bool) (entry x : ℕ) → rows ≡ get_or (sources j) entry [] → IsBound b (MayHave (sources j) j.places.items (only j) entry x) x → x ≤ length rows
  within_case rows true entry x e h = let le : x ≤ length (get_or (sources j) entry []) = h.is_row.1 in let same : length rows ≡ length (get_or (sources j) entry []) = ap length e in omega arith
  within_case rows false entry x e h = let z : x ≡ 0 = h in omega arith

  -- a partial choice has numbers of rows or none
  partly : (c : List ℕ) → IsPartial (sources j) j.places.items (only j) j.tests.items bound c → IsPartly (sources j) c
  partly c q = record {
    long = q.long;
    within = λ k. elim (cases_lt k (length (sources j))) [
      | inl lt ↦ within_case (get_or (sources j) k []) (get_or bound k true) k (get_or c k 0) refl (q.rows k lt)
      | inr le ↦ let z : get_or c k 0 ≡ 0 = get_or_past c k 0 (omega (arith, le, q.long)) in omega arith
    ];
  }

  module _ (entry : ℕ) (not_bound : get_or bound entry true ≡ false) (there : entry < length (sources j)) where
    -- the choices have no row for an entry that is not bound
    pub partial_ready : AreReady (sources j) entry choices.list
    partial_ready = record {
      once = p.partial.once;
      each = in_each (IsReady (sources j) entry) choices.list (λ c i.
          let q = (p.partial.exact c).0 i in
          record {
            partly = partly c q;
            open_there = subst (λ (b : Bool). IsBound b (MayHave (sources j) j.places.items (only j) entry (get_or c entry 0)) (get_or c entry 0)) not_bound (q.rows entry there);
          });
    }

    module _ (link : Link) (k : IsLink j bound entry link) (join : IsJoin j) (rows : List ℕ) (are : AreRows (sources j) entry rows) where
      over : IsTestOver (sources j) k.test
      over = let s = stands_at k.test j.tests.items k.among in subst (λ (t : Test). IsTestOver (sources j) t) (s.is k.test) (join.tests s.place k.test s.within)

      both_over : IsCellOver (sources j) entry link.column × IsCellOver (sources j) link.other link.other_column
      both_over = elim k.of.sides [
        | inl s ↦ (subst (IsSideOver (sources j)) s.0 over.left, subst (IsSideOver (sources j)) s.1 over.right)
        | inr s ↦ (subst (IsSideOver (sources j)) s.1 over.right, subst (IsSideOver (sources j)) s.0 over.left)
      ]

      -- the cells of the link are there
      pub link_over : IsCellOver (sources j) entry link.column
      link_over = both_over.0

      pub other_over : IsCellOver (sources j) link.other link.other_column
      other_over = both_over.1

      differ : link.other ≡ entry → ⊥
      differ e =
          let a : get_or bound entry false ≡ true = subst (λ (x : ℕ). get_or bound x false ≡ true) e k.of.bound_other in
          bound_both bound entry a not_bound
        where
          bound_both : (bs : List Bool) (x : ℕ) → get_or bs x false ≡ true → get_or bs x true ≡ false → ⊥
          bound_both [] x a b = false≢true a
          bound_both (y ∷ ys) zero a b = false≢true (sym b ∙ a)
          bound_both (y ∷ ys) (suc x) a b = bound_both ys x a b

      its_bound : get_or bound link.other true ≡ true
      its_bound = bound_at bound link.other k.of.bound_other
        where
          bound_at : (bs : List Bool) (x : ℕ) → get_or bs x false ≡ true → get_or bs x true ≡ true
          bound_at [] x a = refl
          bound_at (y ∷ ys) zero a = a
          bound_at (y ∷ ys) (suc x) a = bound_at ys x a

      -- the row of a choice for the other entry
      its_other : (c : List ℕ) → In c choices.list → IsRowNumber (get_or (sources j) link.other []) (get_or c link.other 0)
      its_other c i =
          let q = (p.partial.exact c).0 i in
          (subst (λ (b : Bool). IsBound b (MayHave (sources j) j.places.items (only j) link.other (get_or c link.other 0)) (get_or c link.other 0)) its_bound (q.rows link.other other_over.entry_there)).is_row

      has_other : (c : List ℕ) → In c choices.list → HasOther j link c
      has_other c i =
          let r = its_other c i in
          let a : 1 ≤ get_or c link.other 0 = r.0 in
          let b : get_or c link.other 0 ≤ length (get_or (sources j) link.other []) = r.1 in
          let d : link.other_column < length (get_or (get_or (sources j) link.other []) (get_or c link.other 0 - 1) []) = other_over.column_there (get_or c link.other 0 - 1) (omega arith) in
          record { row_from = a; row_to = b; column_from = omega arith; column_to = omega arith }

      -- what an equality of the two cells says of a choice with a row at the entry
      one_value : (c : List ℕ) (row : ℕ) → length c ≡ length (sources j) → AreOne (side_value (sources j) (set c entry row) (side.Cell entry link.column)) (side_value (sources j) (set c entry row) (side.Cell link.other link.other_column)) → HaveOneValue j entry link row (get_or c link.other 0)
      one_value c row size o =
          let lt : entry < length c = omega (arith, there, size) in
          let own : get_or (set c entry row) entry 0 ≡ row = get_or-set_same c entry row 0 lt in
          let other : get_or (set c entry row) link.other 0 ≡ get_or c link.other 0 = get_or-set_other c entry link.other row 0 differ in
          record {
            value = o.value;
            own = cell_is (get_or (sources j) entry []) row link.column ∙ ap (λ (r : ℕ). get_or (get_or (get_or (sources j) entry []) (r - 1) []) link.column None) (sym own) ∙ o.first;
            other = cell_is (get_or (sources j) link.other []) (get_or c link.other 0) link.other_column ∙ ap (λ (r : ℕ). get_or (get_or (get_or (sources j) link.other []) (r - 1) []) link.other_column None) (sym other) ∙ o.second;
          }

      turned : (a b : Option Value) → AreOne a b → AreOne b a
      turned a b o = record { value = o.value; first = o.second; second = o.first }

      needs_link : (c : List ℕ) → In c choices.list → NeedsLink j entry link rows c
      needs_link c i row r passes_all =
          let q = (p.partial.exact c).0 i in
          let lt : entry < length c = omega (arith, there, q.long) in
          let own : get_or (set c entry row) entry 0 ≡ row = get_or-set_same c entry row 0 lt in
          let other : get_or (set c entry row) link.other 0 ≡ get_or c link.other 0 = get_or-set_other c entry link.other row 0 differ in
          let one : 1 ≤ row = (each_in (IsRowNumber (get_or (sources j) entry [])) row rows are.each r).0 in
          let two : 1 ≤ get_or c link.other 0 = (its_other c i).0 in
          let a : get_or (set c entry row) entry 0 ≡ 0 → ⊥ = λ z. absurd (omega (arith, z, own, one)) in
          let b : get_or (set c entry row) link.other 0 ≡ 0 → ⊥ = λ z. absurd (omega (arith, z, other, two)) in
          let t : passes (sources j) (set c entry row) k.test ≡ true = passes_each (sources j) (set c entry row) k.test j.tests.items k.among passes_all in
          one_value c row q.long (elim k.of.sides [
            | inl s ↦ cells_one (sources j) (set c entry row) k.test entry link.column link.other link.other_column k.of.op s.0 s.1 a b t
            | inr s ↦ turned _ _ (cells_one (sources j) (set c entry row) k.test link.other link.other_column entry link.column k.of.op s.0 s.1 b a t)
          ])

      -- the link leads to the entry
      pub linked : IsLinked j entry link rows choices.list
      linked = record {
        other_there = omega (arith, other_over.entry_there, length-sources j);
        others = in_each (HasOther j link) choices.list has_other;
        needs = in_each (NeedsLink j entry link rows) choices.list needs_link;
      }

-- the candidates are rows of the entry
pub candidate_rows : (j : Join) (entry : ℕ) (rows : List ℕ) → AreCandidates (sources j) j.places.items (only j) j.tests.items (nothing j) entry rows → AreRows (sources j) entry rows
candidate_rows j entry rows c = record { once = c.once; each = in_each (IsRowNumber (get_or (sources j) entry [])) rows (λ row i. ((c.exact row).0 i).0.is_row) }
