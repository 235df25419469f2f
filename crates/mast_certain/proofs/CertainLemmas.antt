-- The rows of numbers of the members of a closure stand for exactly the certain answers.
use Rattle.std.proofs.Common.{◌≡◌, ℕ, List, None, length, sym, subst, ◌∙◌}
use Rattle.mast_terms.specs.declared.term.Term.{Term}
use Rattle.mast_terms.specs.Vocabularies.{IsVocabulary}
use Rattle.mast_cq.specs.declared.query.Cq.{Cq}
use Rattle.mast_cq.specs.Queries.{viewed}
use Rattle.mast_tables.specs.Rows.{Row}
use Rattle.mast_canon.specs.declared.spec.Spec.{Spec}
use Rattle.mast_canon.specs.CertainAnswers.{HasThrough, ThroughDown}
use Rattle.mast_canon.specs.Facts.{IsOfTables}
use Rattle.mast_canon.specs.SpecFacts.{AllFacts}
use Rattle.mast_canon.specs.Theories.{constant_of, theory_of}
use Rattle.mast_relations.specs.Matches.{IsAnswer}
use Rattle.mast_relations.specs.Stores.{contents}
use Rattle.mast_rewrite.specs.Closures.{Closure}
use Rattle.mast_rewrite.specs.Rewritings.{Members}
use Rattle.mast_rewrite.proofs.ClosureLemmas.{member_smaller}
use Rattle.mast_rewrite.proofs.RewritingLemmas.{spec_rewriting}
use Rattle.mast_join.specs.declared.extensions.Wanted.{Wanted}
use Rattle.mast_join.specs.declared.extensions.Wanted.TheVariants.{Tuples}
use Rattle.mast_join.specs.declared.ready.Ready.{Ready}
use Rattle.mast_join.specs.Answers.{Extended, IsReady, IsTupleRow, Tell, TellTuples}
use Rattle.mast_join.specs.Extensions.{HasOver, Over, over_of}
use Rattle.mast_join.proofs.HitLemmas.{numbers_below, numbers_long}
use Rattle.mast_certain.specs.Answered.{IsBlock, IsCertainOf, project_of}
use Rattle.mast_certain.specs.inside.Found.{AreRowsOf, AreTermNumbers, HasRow}
use Rattle.mast_certain.proofs.NumberLemmas.{gives_long, things_same}

module _ (spec : Spec) (q m : Cq) where
  -- the members by the theory are those by the normal inclusions
  pub member_kept : Members (theory_of spec) q m → Closure spec.normal q m
  member_kept c = subst (λ t. Closure t q m) (sym spec.is_normal) c

  pub kept_member : Closure spec.normal q m → Members (theory_of spec) q m
  kept_member c = subst (λ t. Closure t q m) spec.is_normal c

module _ (spec : Spec) (rows : List (List Row)) (m : Cq) (tuple : List Term) where
  -- what a query has over all rows it has through Down in their facts
  has_through : HasOver (over_of spec rows None) m tuple → ThroughDown (theory_of spec) (AllFacts spec rows) m tuple
  has_through h = subst (λ t. HasThrough t (constant_of spec.vocab.constants) (AllFacts spec rows) m tuple) spec.is_normal h

  through_has : ThroughDown (theory_of spec) (AllFacts spec rows) m tuple → HasOver (over_of spec rows None) m tuple
  through_has h = subst (λ t. HasThrough t (constant_of spec.vocab.constants) (AllFacts spec rows) m tuple) (sym spec.is_normal) h

module _ (spec : Spec) (rows : List (List Row)) (e : Extended) (is : e.over ≡ over_of spec rows None) (tuples : e.wanted ≡ Tuples) (v : IsVocabulary spec.vocab) (q : Cq) (block : IsBlock spec q)
    (P : List ℕ → Type 0) (are : AreRowsOf e (Closure spec.normal q) P) where
  tells : (ready : Ready) → IsReady e ready → TellTuples e (viewed ready.query) (IsAnswer (contents e.relations) ready.plan.query)
  tells ready r = subst (λ (w : Wanted). Tell w e (viewed ready.query) (IsAnswer (contents e.relations) ready.plan.query)) tuples r.tell

  of_row : (row : List ℕ) (p : P row) → IsTupleRow e (viewed (are.right row p).ready.query) row
  of_row row p = let r = are.right row p in (tells r.ready r.is_ready).right row r.answer

  -- the tuple of a row is a certain answer
  pub row_certain : (tuple : List Term) → HasRow e P tuple → IsCertainOf (project_of spec rows) (IsOfTables rows) q tuple
  row_certain tuple h =
      let r = are.right h.row h.has in
      let t = of_row h.row h.has in
      let same : t.tuple ≡ tuple = things_same e.numbered.terms h.row t.tuple tuple t.numbers h.numbers in
      let has : HasOver e.over (viewed r.ready.query) tuple = subst (λ (k : List Term). HasOver e.over (viewed r.ready.query) k) same t.has in
      (spec_rewriting spec rows (IsOfTables rows) v q tuple block.named block.sorted).1 (record {
        query = viewed r.ready.query;
        has = kept_member spec q (viewed r.ready.query) r.member;
        through = has_through spec rows (viewed r.ready.query) tuple (subst (λ (o : Over). HasOver o (viewed r.ready.query) tuple) is has);
      })

  -- each certain answer is that of a row
  pub certain_row : (tuple : List Term) → IsCertainOf (project_of spec rows) (IsOfTables rows) q tuple → HasRow e P tuple
  certain_row tuple c =
      let w = (spec_rewriting spec rows (IsOfTables rows) v q tuple block.named block.sorted).0 c in
      let m = are.all w.query (member_kept spec q w.query w.has) in
      let has : HasOver e.over w.query tuple = subst (λ (o : Over). HasOver o w.query tuple) (sym is) (through_has spec rows w.query tuple w.through) in
      let found = (tells m.ready m.is_ready).all tuple (subst (λ (k : Cq). HasOver e.over k tuple) (sym m.is) has) in
      record { row = found.row; has = m.all found.row found.found; numbers = found.numbers }

  -- a row has as many numbers as the answer list has arguments
  pub row_wide : (row : List ℕ) → P row → length row ≡ length q.answer
  row_wide row p =
      let r = are.right row p in
      let t = of_row row p in
      numbers_long e.numbered.terms row t.tuple t.numbers ∙ (sym (gives_long _ t.has.under (viewed r.ready.query).answer t.tuple t.has.answers) ∙ (member_smaller spec.normal q (viewed r.ready.query) r.member).answer)

  -- and they are numbers of terms
  pub row_terms : (row : List ℕ) → P row → AreTermNumbers e row
  row_terms row p = let t = of_row row p in numbers_below e.numbered.terms row t.tuple t.numbers
