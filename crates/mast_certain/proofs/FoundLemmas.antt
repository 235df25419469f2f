-- The rows that are found of the slices of a closure's members are exactly the answers of the members.
use Rattle.std.proofs.Common.{◌≡◌, ◌↔◌, ℕ, zero, suc, ◌+◌, ◌<◌, List, [], ◌∷◌, ◌++◌, get_or, length, map, take, ap, inl, inr, refl, sym, subst, ◌∙◌, Contains, arith}
use Rattle.std.specs.Prelude.{All, Some, slice_get, slice_index_or}
use Rattle.std.specs.List.{AllByRecursion, AllZip}
use Rattle.std.proofs.lemmas.List.Elements.{All-from_recursion}
use Rattle.std.proofs.lemmas.Option.{none-some, same_Some}
use Rattle.std.proofs.lemmas.List.{map-append, take_more}
use Rattle.std.proofs.lemmas.Option.{slice_get-get_or}
use Rattle.mast_cq.specs.declared.query.Cq.{Cq}
use Rattle.mast_cq.specs.declared.query.CqRef.{CqRef}
use Rattle.mast_cq.specs.Queries.{In, viewed}
use Rattle.mast_cq.proofs.ListLemmas.{in_each, in_map, map_in}
use Rattle.mast_tbox.specs.declared.axiom.Inclusion.{Inclusion}
use Rattle.mast_relations.specs.Matches.{Rows, In as HasIn}
use Rattle.mast_relations.specs.Stores.{HasAll, HasOnlyGained, contents, no_rows}
use Rattle.mast_relations.proofs.ListLemmas.{in_each as has_each}
use Rattle.mast_rewrite.specs.Closures.{Closure}
use Rattle.mast_join.specs.declared.ready.Ready.{Ready}
use Rattle.mast_join.specs.declared.slices.Slice.{Slice}
use Rattle.mast_join.specs.Answers.{Extended, HasInSlice, IsAsked, IsReady, KeepsReady}
use Rattle.mast_join.specs.Slices.{AreSlices}
use Rattle.mast_join.proofs.CutLemmas.{answer_in_slice, slice_answer, slices_are_of}
use Rattle.mast_join.proofs.OrderedLemmas.{contains_in, in_contains}
use Rattle.mast_certain.specs.inside.Found.{AreReady, AreRowsOf, InSome, IsFoundIn, IsRowOf}
use Rattle.mast_certain.proofs.AskedLemmas.{member_asked}
use Rattle.mast_certain.proofs.BlockLemmas.{each_more}

module _ {X : Type 0} where
  -- what holds of each holds of the one that is got at a place
  pub each_got : (P : X → Type 0) (xs : List X) (number : ℕ) (x : X) → AllByRecursion P xs → slice_get xs number ≡ Some x → P x
  each_got P [] number x h e = absurd (none-some x e)
  each_got P (y ∷ xs) zero x h e = subst P (same_Some y x e) h.0
  each_got P (y ∷ xs) (suc number) x h e = each_got P xs number x h.1 e

  got_in : (xs : List X) (number : ℕ) (x : X) → slice_get xs number ≡ Some x → In x xs
  got_in [] number x e = absurd (none-some x e)
  got_in (y ∷ xs) zero x e = inl (sym (same_Some y x e))
  got_in (y ∷ xs) (suc number) x e = inr (got_in xs number x e)

  got_below : (xs : List X) (number : ℕ) (x : X) → slice_get xs number ≡ Some x → number < length xs
  got_below [] number x e = absurd (none-some x e)
  got_below (y ∷ xs) zero x e = omega arith
  got_below (y ∷ xs) (suc number) x e = let h = got_below xs number x e in omega arith

  -- an element is got at some place
  record IsGot (xs : List X) (x : X) : Type 0 where
    pub number : ℕ
    pub is : slice_get xs number ≡ Some x

  in_got : (xs : List X) (x : X) → In x xs → IsGot xs x
  in_got [] x i = absurd i
  in_got (y ∷ xs) x (inl e) = record { number = 0; is = subst (λ (z : X). slice_get (y ∷ xs) 0 ≡ Some z) (sym e) refl }
  in_got (y ∷ xs) x (inr i) = let g = in_got xs x i in record { number = suc g.number; is = g.is }

-- the members of a closure are asked as its query is
pub all_asked : (bound : ℕ) (tbox : List Inclusion) (q : Cq) (queries : List Cq) → ((m : Cq) → Contains queries m ↔ Closure tbox q m) → IsAsked bound q → AllByRecursion (IsAsked bound) queries
all_asked bound tbox q queries members asked = in_each (IsAsked bound) queries (λ m i. member_asked bound tbox q m asked ((members m).0 (in_contains queries m i)))

-- each slice is of a query of the list
pub slices_there : (readies : List Ready) (slices : List Slice) → AreSlices 0 readies slices → All (λ slice. slice.query < length readies) slices
slices_there readies slices cut =
    All-from_recursion (λ (slice : Slice). slice.query < length readies) slices
    (has_each (λ (slice : Slice). slice.query < length readies) slices (λ slice i. let h = slices_are_of readies slices slice cut i in got_below readies slice.query h.query h.stands))

module _ (e : Extended) (tbox : List Inclusion) (q : Cq) (queries : List Cq) (readies : List Ready) (members : (m : Cq) → Contains queries m ↔ Closure tbox q m) (ready : AreReady e queries readies) where
  abbrev asked : Ready → Cq
  asked r = viewed r.query

  member_at : (number : ℕ) (r : Ready) → slice_get readies number ≡ Some r → Closure tbox q (asked r)
  member_at number r s = (members (asked r)).0 (in_contains queries (asked r) (subst (In (asked r)) ready.are (map_in asked r readies (got_in readies number r s))))

  rows_right : (slices : List Slice) (sets : List Rows) → AllZip (IsFoundIn e readies) slices sets → (row : List ℕ) → InSome sets row → IsRowOf e (Closure tbox q) row
  rows_right slices [] z row i = absurd i
  rows_right [] (rows ∷ sets) z row i = absurd z
  rows_right (s ∷ slices) (rows ∷ sets) z row (inl i) =
      let h = z.0 in
      record {
        ready = h.ready;
        is_ready = each_got (IsReady e) readies s.query h.ready ready.each h.stands;
        member = member_at s.query h.ready h.stands;
        answer = slice_answer (contents e.relations) h.ready s row ((h.exact row).0 i);
      }
  rows_right (s ∷ slices) (rows ∷ sets) z row (inr i) = rows_right slices sets z.1 row i

  row_found : (slices : List Slice) (sets : List Rows) → AllZip (IsFoundIn e readies) slices sets → (s : Slice) → HasIn s slices → (r : Ready) → slice_get readies s.query ≡ Some r
      → (row : List ℕ) → HasInSlice e r s.from s.to row → InSome sets row
  row_found [] sets z s i r stands row h = absurd i
  row_found (p ∷ slices) [] z s i r stands row h = absurd z
  row_found (p ∷ slices) (rows ∷ sets) z s (inl same) r stands row h =
      let k = z.0 in
      let at : slice_get readies p.query ≡ Some r = subst (λ (t : Slice). slice_get readies t.query ≡ Some r) same stands in
      let one : r ≡ k.ready = same_Some r k.ready (sym at ∙ k.stands) in
      let has : HasInSlice e r p.from p.to row = subst (λ (t : Slice). HasInSlice e r t.from t.to row) same h in
      inl ((k.exact row).1 (subst (λ (t : Ready). HasInSlice e t p.from p.to row) one has))
  row_found (p ∷ slices) (rows ∷ sets) z s (inr i) r stands row h = inr (row_found slices sets z.1 s i r stands row h)

  -- the rows of all slices are exactly the answers of the members
  pub are_rows : (slices : List Slice) (sets : List Rows) → AreSlices 0 readies slices → AllZip (IsFoundIn e readies) slices sets → AreRowsOf e (Closure tbox q) (InSome sets)
  are_rows slices sets cut found = record {
    right = rows_right slices sets found;
    all = λ m c.
        let w = in_map asked m readies (subst (In m) (sym ready.are) (contains_in queries m ((members m).1 c))) in
        let g = in_got readies w.from w.among in
        let is_ready : IsReady e w.from = each_got (IsReady e) readies g.number w.from ready.each g.is in
        record {
          ready = w.from;
          is_ready = is_ready;
          is = sym w.is;
          all = λ row a.
              let s = answer_in_slice e.relations readies slices g.number w.from row cut g.is is_ready.plan a in
              row_found slices sets found s.slice s.among w.from (subst (λ (n : ℕ). slice_get readies n ≡ Some w.from) (sym s.of_query) g.is) row s.answer;
        };
  }

-- ---- for the calls

-- what was put into a set without rows is what is found of a slice
pub found_in : (e : Extended) (readies : List Ready) (slice : Slice) (d : Ready) (width : ℕ) (old new : Rows) → slice.query < length readies → old ≡ no_rows width
    → HasOnlyGained (HasInSlice e (get_or readies slice.query d) slice.from slice.to) old new → HasAll (HasInSlice e (get_or readies slice.query d) slice.from slice.to) new → IsFoundIn e readies slice new
found_in e readies slice d width old new lt none gained all = record {
  ready = get_or readies slice.query d;
  stands = slice_get-get_or readies slice.query d lt;
  exact = λ row. (
    λ i. elim (gained.within row i) [ inl j ↦ absurd (subst (λ (r : Rows). HasIn row r.list) none j) | inr a ↦ a ],
    λ a. all row a,
  );
}

-- the query at a place is asked as all are
pub asked_at : (bound now : ℕ) (queries : List CqRef) (number : ℕ) (d : CqRef) → now ≡ bound → number < length queries → AllByRecursion (IsAsked bound) (map viewed queries) → IsAsked now (viewed (get_or queries number d))
asked_at bound now [] number d e lt h = absurd (omega arith)
asked_at bound now (q ∷ queries) zero d e lt h = subst (λ (n : ℕ). IsAsked n (viewed q)) (sym e) h.0
asked_at bound now (q ∷ queries) (suc number) d e lt h = asked_at bound now queries number d e (omega arith) h.1

-- what was ready stays so
still_ready : (now new : Extended) (readies : List Ready) → KeepsReady now new → AllByRecursion (IsReady now) readies → AllByRecursion (IsReady new) readies
still_ready now new [] keeps h = tt
still_ready now new (r ∷ readies) keeps h = (keeps r h.0, still_ready now new readies keeps h.1)

-- one query more is ready
pub ready_more : (now new : Extended) (queries : List CqRef) (number : ℕ) (d : CqRef) (old readies : List Ready) (ready : Ready) → number < length queries → KeepsReady now new
    → AreReady now (map viewed (take number queries)) old → IsReady new ready → viewed ready.query ≡ viewed (get_or queries number d) → readies ≡ old ++ ready ∷ []
    → AreReady new (map viewed (take (number + 1) queries)) readies
ready_more now new queries number d old readies ready lt keeps h is_ready same grown =
    subst (AreReady new (map viewed (take (number + 1) queries))) (sym grown) (record {
      each = each_more (IsReady new) old ready (still_ready now new old keeps h.each) is_ready;
      are = map-append (λ (r : Ready). viewed r.query) old (ready ∷ []) ∙ ap (λ (qs : List Cq). qs ++ viewed ready.query ∷ []) h.are
          ∙ ap (λ (q : Cq). map viewed (take number queries) ++ q ∷ []) same ∙ sym (map-append viewed (take number queries) (get_or queries number d ∷ []))
          ∙ ap (map viewed) (sym (take_more queries number d lt));
    })

-- the rows of all slices, as they were told
pub rows_told : (e : Extended) (tbox : List Inclusion) (q : Cq) (queries asked : List Cq) (readies first second : List Ready) (slices parts : List Slice) (sets : List Rows) → asked ≡ queries
    → ((m : Cq) → Contains queries m ↔ Closure tbox q m) → AreReady e asked readies → first ≡ readies → AreSlices 0 first slices → second ≡ readies → parts ≡ slices
    → AllZip (IsFoundIn e second) parts sets → AreRowsOf e (Closure tbox q) (InSome sets)
rows_told e tbox q queries asked readies first second slices parts sets same members ready one cut two three found =
    are_rows e tbox q queries readies members (subst (λ (qs : List Cq). AreReady e qs readies) same ready) slices sets (subst (λ (rs : List Ready). AreSlices 0 rs slices) one cut)
    (subst (λ (ss : List Slice). AllZip (IsFoundIn e readies) ss sets) three (subst (λ (rs : List Ready). AllZip (IsFoundIn e rs) parts sets) two found))

-- and so are the queries of the slices
pub there_told : (readies first second : List Ready) (slices parts : List Slice) → first ≡ readies → AreSlices 0 first slices → second ≡ readies → parts ≡ slices → (k : ℕ) (d : Slice) → k < length parts → (slice_index_or parts k d).query < length second
there_told readies first second slices parts one cut two three =
    subst (λ (ss : List Slice). All (λ slice. slice.query < length second) ss) (sym three)
    (subst (λ (rs : List Ready). All (λ slice. slice.query < length rs) slices) (sym two) (slices_there readies slices (subst (λ (rs : List Ready). AreSlices 0 rs slices) one cut)))

-- the same of a query that was read
pub found_here : (e : Extended) (readies : List Ready) (slice : Slice) (ready : Ready) (width : ℕ) (old new : Rows) → slice.query < length readies → ready ≡ get_or readies slice.query ready → old ≡ no_rows width
    → HasOnlyGained (HasInSlice e ready slice.from slice.to) old new → HasAll (HasInSlice e ready slice.from slice.to) new → IsFoundIn e readies slice new
found_here e readies slice ready width old new lt is none gained all =
    found_in e readies slice ready width old new lt none (subst (λ (r : Ready). HasOnlyGained (HasInSlice e r slice.from slice.to) old new) is gained) (subst (λ (r : Ready). HasAll (HasInSlice e r slice.from slice.to) new) is all)
