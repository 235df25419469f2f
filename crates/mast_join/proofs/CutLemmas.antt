-- Slices, one after another, and the rows that lie in them.
use Rattle.std.proofs.Common.{◌≡◌, ℕ, zero, suc, ◌+◌, ◌<◌, ◌≤◌, List, [], ◌∷◌, ◌++◌, length, take, refl, sym, ap, subst, ◌∙◌, inl, inr, append_assoc, append-nil, arith}
use Rattle.std.specs.Prelude.{slice_get, Some}
use Rattle.std.proofs.lemmas.Bool.{cases_lt}
use Rattle.std.proofs.lemmas.List.{length-take}
use Rattle.std.proofs.lemmas.Option.{none-some, same_Some}
use Rattle.mast_relations.specs.Matches.{In}
use Rattle.mast_relations.proofs.ListLemmas.{in_append as in_either, append_left as in_left, append_right as in_right}
use Rattle.mast_relations.proofs.SliceLemmas.{slices_law}
use Rattle.mast_relations.specs.Matches.{IsAnswer, Rows, relation_of}
use Rattle.mast_relations.specs.Plans.{IsPlan}
use Rattle.mast_relations.specs.Slices.{IsAnswerIn, pattern_at}
use Rattle.mast_relations.specs.Stores.{Stored, contents}
use Rattle.mast_join.specs.declared.ready.Ready.{Ready}
use Rattle.mast_join.specs.declared.slices.Slice.{Slice}
use Rattle.mast_join.specs.Slices.{IsNext, AreCut, AreSlices, most_rows}
use Rattle.mast_join.specs.inside.Cuts.{HasCut}

-- one slice more
pub cut_more : (number from : ℕ) (slices : List Slice) (mid : ℕ) (slice : Slice) → AreCut number from mid slices → IsNext number mid slice
    → AreCut number from slice.to (slices ++ slice ∷ [])
cut_more number from [] mid slice e n = (subst (λ (k : ℕ). IsNext number k slice) (sym e) n, refl)
cut_more number from (s ∷ slices) mid slice c n = (c.0, cut_more number s.to slices mid slice c.1 n)

-- the slices of one query more
pub slices_more : (number : ℕ) (queries : List Ready) (slices : List Slice) (next : ℕ) (query : Ready) (cut : List Slice) → AreSlices number queries slices
    → next ≡ number + length queries → AreCut next 0 query.plan.size cut → AreSlices number (queries ++ query ∷ []) (slices ++ cut)
slices_more number [] slices next query cut e at c =
    let first : AreCut number 0 query.plan.size cut = subst (λ (k : ℕ). AreCut k 0 query.plan.size cut) (omega (arith, at)) c in
    (cut, [], ap (λ (ss : List Slice). ss ++ cut) e ∙ sym (append-nil cut), first, refl)
slices_more number (q ∷ queries) slices next query cut (first, rest, is, are, more) at c =
    (first, rest ++ cut, ap (λ (ss : List Slice). ss ++ cut) is ∙ append_assoc first rest cut, are, slices_more (suc number) queries rest next query cut more (omega (arith, at)) c)

-- no slice is put yet
pub cut_none : (number : ℕ) (slices : List Slice) → HasCut number 0 slices slices
cut_none number slices = record { cut = []; is = sym (append-nil slices); are = refl }

-- one is put
pub cut_one : (number mid to : ℕ) (old now new : List Slice) (slice : Slice) → HasCut number mid old now → slice ≡ record { query = number; from = mid; to = to }
    → mid < to → to ≤ mid + most_rows → new ≡ now ++ slice ∷ [] → HasCut number to old new
cut_one number mid to old now new slice h e lt few grown =
    let next : IsNext number mid (record { query = number; from = mid; to = to }) = record { query = refl; begins = refl; some = lt; few = few } in
    record {
      cut = h.cut ++ record { query = number; from = mid; to = to } ∷ [];
      is = grown ∙ (ap (λ (s : Slice). now ++ s ∷ []) e ∙ (ap (λ (ss : List Slice). ss ++ record { query = number; from = mid; to = to } ∷ []) h.is ∙ append_assoc old h.cut (record { query = number; from = mid; to = to } ∷ [])));
      are = cut_more number 0 h.cut mid (record { query = number; from = mid; to = to }) h.are next;
    }

-- the slices of one query more of a list
pub slices_next : (queries : List Ready) (number : ℕ) (query : Ready) (old new : List Slice) → number < length queries → take (number + 1) queries ≡ take number queries ++ query ∷ []
    → AreSlices 0 (take number queries) old → HasCut number query.plan.size old new → AreSlices 0 (take (number + 1) queries) new
slices_next queries number query old new lt more are h =
    subst (λ (qs : List Ready). AreSlices 0 qs new) (sym more) (subst (λ (ss : List Slice). AreSlices 0 (take number queries ++ query ∷ []) ss) (sym h.is)
    (slices_more 0 (take number queries) old number query h.cut are (let l = length-take number queries in omega (arith, l, lt)) h.are))

-- a slice of the list has a row in it, which is of the query of a number
pub record HasRow (number row : ℕ) (slices : List Slice) : Type 0 where
  pub slice : Slice
  pub among : In slice slices
  pub query : slice.query ≡ number
  pub low : slice.from ≤ row
  pub high : row < slice.to

-- the query of a slice of the list
pub record IsOf (queries : List Ready) (slice : Slice) : Type 0 where
  pub query : Ready
  pub stands : slice_get queries slice.query ≡ Some query

-- it has one in a longer list
row_more : (number row : ℕ) (front rest : List Slice) → HasRow number row rest → HasRow number row (front ++ rest)
row_more number row front rest h = record { slice = h.slice; among = in_right h.slice front rest h.among; query = h.query; low = h.low; high = h.high }

row_first : (number row : ℕ) (front rest : List Slice) → HasRow number row front → HasRow number row (front ++ rest)
row_first number row front rest h = record { slice = h.slice; among = in_left h.slice front rest h.among; query = h.query; low = h.low; high = h.high }

-- each row between two is in a slice that cuts what lies between
pub cut_has : (number from to row : ℕ) (slices : List Slice) → AreCut number from to slices → from ≤ row → row < to → HasRow number row slices
cut_has number from to row [] e low high = absurd (omega (arith, e, low, high))
cut_has number from to row (slice ∷ slices) c low high = elim (cases_lt row slice.to) [
  | inl lt ↦ record { slice = slice; among = inl refl; query = c.0.query; low = (let b = c.0.begins in omega (arith, b, low)); high = lt }
  | inr ge ↦ row_more number row (slice ∷ []) slices (cut_has number slice.to to row slices c.1 ge high)
]

slices_have_from : (first number row : ℕ) (queries : List Ready) (query : Ready) (slices : List Slice) → AreSlices first queries slices → slice_get queries number ≡ Some query → row < query.plan.size
    → HasRow (first + number) row slices
slices_have_from first number row [] query slices are stands lt = absurd (none-some query stands)
slices_have_from first zero row (q ∷ queries) query slices (cut, rest, is, c, more) stands lt =
    let size : row < q.plan.size = subst (λ (r : Ready). row < r.plan.size) (sym (same_Some q query stands)) lt in
    let h : HasRow (first + 0) row cut = subst (λ (n : ℕ). HasRow n row cut) (omega arith) (cut_has first 0 q.plan.size row cut c (omega arith) size) in
    subst (HasRow (first + 0) row) (sym is) (row_first (first + 0) row cut rest h)
slices_have_from first (suc number) row (q ∷ queries) query slices (cut, rest, is, c, more) stands lt =
    let h : HasRow (suc first + number) row rest = slices_have_from (suc first) number row queries query rest more stands lt in
    subst (HasRow (first + suc number) row) (sym is) (row_more (first + suc number) row cut rest (subst (λ (n : ℕ). HasRow n row rest) (omega arith) h))

-- each row of the relation that the join of a query begins with is in a slice of the query
pub slices_have : (number row : ℕ) (queries : List Ready) (query : Ready) (slices : List Slice) → AreSlices 0 queries slices → slice_get queries number ≡ Some query → row < query.plan.size
    → HasRow number row slices
slices_have number row queries query slices are stands lt =
    subst (λ (n : ℕ). HasRow n row slices) (omega arith) (slices_have_from 0 number row queries query slices are stands lt)

cut_query : (number from to : ℕ) (slices : List Slice) (slice : Slice) → AreCut number from to slices → In slice slices → slice.query ≡ number
cut_query number from to [] slice c i = absurd i
cut_query number from to (s ∷ slices) slice c (inl e) = ap (λ (k : Slice). k.query) e ∙ c.0.query
cut_query number from to (s ∷ slices) slice c (inr i) = cut_query number s.to to slices slice c.1 i

-- the query of a slice, whose number counts from a number
pub record IsFrom (first : ℕ) (queries : List Ready) (slice : Slice) : Type 0 where
  pub number : ℕ
  pub is : slice.query ≡ first + number
  pub query : Ready
  pub stands : slice_get queries number ≡ Some query

slices_of_from : (first : ℕ) (queries : List Ready) (slices : List Slice) (slice : Slice) → AreSlices first queries slices → In slice slices → IsFrom first queries slice
slices_of_from first [] slices slice e i = absurd (subst (λ (ss : List Slice). In slice ss) e i)
slices_of_from first (q ∷ queries) slices slice (cut, rest, is, c, more) i = elim (in_either slice cut rest (subst (λ (ss : List Slice). In slice ss) is i)) [
  | inl j ↦ record { number = 0; is = (let e = cut_query first 0 q.plan.size cut slice c j in omega (arith, e)); query = q; stands = refl }
  | inr j ↦
      let h = slices_of_from (suc first) queries rest slice more j in
      record { number = suc h.number; is = (let e = h.is in omega (arith, e)); query = h.query; stands = h.stands }
]

-- each slice is of a query of the list
pub slices_are_of : (queries : List Ready) (slices : List Slice) (slice : Slice) → AreSlices 0 queries slices → In slice slices → IsOf queries slice
slices_are_of queries slices slice are i =
    let h = slices_of_from 0 queries slices slice are i in
    let at : h.number ≡ slice.query = let e = h.is in omega (arith, e) in
    record { query = h.query; stands = subst (λ (n : ℕ). slice_get queries n ≡ Some h.query) at h.stands }

-- an answer of the query of a number is one of one of its slices
pub record InSlice (stored : List Stored) (query : Ready) (number : ℕ) (slices : List Slice) (row : List ℕ) : Type 0 where
  pub slice : Slice
  pub among : In slice slices
  pub of_query : slice.query ≡ number
  pub answer : IsAnswerIn (contents stored) query.plan.query query.plan.start slice.from slice.to row

-- an answer of a slice is an answer
pub slice_answer : (relations : List Rows) (query : Ready) (slice : Slice) (row : List ℕ) → IsAnswerIn relations query.plan.query query.plan.start slice.from slice.to row → IsAnswer relations query.plan.query row
slice_answer relations query slice row a = record { assignment = a.assignment; is_match = a.is_match; gives = a.gives }

-- the slices of queries have together all answers of each of them
pub answer_in_slice : (stored : List Stored) (queries : List Ready) (slices : List Slice) (number : ℕ) (query : Ready) (row : List ℕ) → AreSlices 0 queries slices
    → slice_get queries number ≡ Some query → IsPlan stored query.plan → IsAnswer (contents stored) query.plan.query row → InSlice stored query number slices row
answer_in_slice stored queries slices number query row are stands plan a =
    let relations = contents stored in
    let all : IsAnswerIn relations query.plan.query query.plan.start 0 (length (relation_of relations (pattern_at query.plan.query query.plan.start)).list) row =
    (slices_law relations query.plan.query query.plan.start plan.begins [] (omega arith) row).0 a in
    let at = slices_have number all.begins.place queries query slices are stands (let high = all.begins.high in let size = plan.size in omega (arith, high, size)) in
    record {
      slice = at.slice;
      among = at.among;
      of_query = at.query;
      answer = record { assignment = all.assignment; is_match = all.is_match; begins = record { place = all.begins.place; is = all.begins.is; low = at.low; high = at.high }; gives = all.gives };
    }
