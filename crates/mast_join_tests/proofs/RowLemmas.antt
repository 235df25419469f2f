-- The rows that a query that is ready has are of numbers of terms, and then of numbers of sets.
use Rattle.std.proofs.Common.{◌≡◌, ℕ, inl, inr, List, length, subst}
use Rattle.mast_cq.specs.declared.query.Cq.{Cq}
use Rattle.mast_cq.specs.Queries.{viewed}
use Rattle.mast_relations.specs.Matches.{In, IsAnswer, Rows}
use Rattle.mast_relations.specs.Stores.{HasOnlyGained, contents, no_rows}
use Rattle.mast_join.specs.declared.extensions.Wanted.{Wanted}
use Rattle.mast_join.specs.declared.extensions.Wanted.TheVariants.{Tuples, SomeHits, AllHits}
use Rattle.mast_join.specs.declared.ready.Ready.{Ready}
use Rattle.mast_join.specs.Answers.{Extended, HasInSlice, IsNumberRow, IsReady, Tell}
use Rattle.mast_join.proofs.HitLemmas.{hit_numbers, tuple_numbers}

-- what rows tell makes them rows of numbers
told_numbers : (w : Wanted) (e : Extended) (q : Cq) (P : List ℕ → Type 0) → Tell w e q P → (row : List ℕ) → P row → IsNumberRow e row (length q.answer)
told_numbers Tuples e q P t row p = tuple_numbers e q row (t.right row p)
told_numbers SomeHits e q P t row p = hit_numbers e q row (t.right row p)
told_numbers AllHits e q P t row p = hit_numbers e q row (t.right row p)

answer_of : (e : Extended) (ready : Ready) (from to : ℕ) (row : List ℕ) → HasInSlice e ready from to row → IsAnswer (contents e.relations) ready.plan.query row
answer_of e ready from to row a = record { assignment = a.assignment; is_match = a.is_match; gives = a.gives }

-- the rows of two slices, put into a set that has none
pub slices_numbers : (e : Extended) (ready : Ready) → IsReady e ready → (width from middle to : ℕ) (start one both : Rows) → start ≡ no_rows width → HasOnlyGained (HasInSlice e ready from middle) start one
    → HasOnlyGained (HasInSlice e ready middle to) one both → (row : List ℕ) → In row both.list → IsNumberRow e row (length (viewed ready.query).answer)
slices_numbers e ready r width from middle to start one both empty g h row i = elim (h.within row i) [
  | inl a ↦ elim (g.within row a) [
    | inl none ↦ absurd (subst (λ (rows : Rows). In row rows.list) empty none)
    | inr x ↦ told_numbers e.wanted e (viewed ready.query) (IsAnswer (contents e.relations) ready.plan.query) r.tell row (answer_of e ready from middle row x)
  ]
  | inr x ↦ told_numbers e.wanted e (viewed ready.query) (IsAnswer (contents e.relations) ready.plan.query) r.tell row (answer_of e ready middle to row x)
]
