-- What a block's rows are, for the calls that turn them into tuples and into hits.
use Rattle.std.proofs.Common.{◌≡◌, ◌↔◌, ℕ, List, None, length, sym, ap, subst, ◌∙◌}
use Rattle.mast_terms.specs.declared.term.Term.{Term}
use Rattle.mast_terms.specs.Vocabularies.{IsVocabulary}
use Rattle.mast_cq.specs.declared.atom.Arg.{Arg}
use Rattle.mast_cq.specs.declared.query.Cq.{Cq}
use Rattle.mast_canon.specs.declared.spec.Spec.{Spec}
use Rattle.mast_canon.specs.Facts.{IsOfTables}
use Rattle.mast_relations.specs.Matches.{In as HasIn, Rows}
use Rattle.mast_rewrite.specs.Closures.{Closure}
use Rattle.mast_join.specs.declared.extensions.Wanted.TheVariants.{AllHits, Tuples}
use Rattle.mast_join.specs.declared.hit.Hit.{Hit}
use Rattle.mast_join.specs.Answers.{Extended, IsNumberRow, IsOverSame}
use Rattle.mast_join.specs.Extensions.{over_of}
use Rattle.mast_certain.specs.Answered.{IsBlock, IsCertainOf, project_of}
use Rattle.mast_certain.specs.inside.Found.{AreRowsOf, AreTermNumbers, HasGained, HasRow, InSome, IsOverAll}
use Rattle.mast_certain.specs.inside.Supported.{AreBlockHits, HasHitsOf}
use Rattle.mast_certain.proofs.CertainLemmas.{certain_row, row_certain, row_terms, row_wide}
use Rattle.mast_certain.proofs.GainedLemmas.{gains_same}
use Rattle.mast_certain.proofs.HitLemmas.{block_hits, row_numbers}

-- it stays over all rows of the specification, which are those that were there before
still_over : (spec : Spec) (old new : Extended) → IsOverSame old new → old.over ≡ over_of spec old.over.rows None → new.over ≡ over_of spec old.over.rows None
still_over spec old new same over = same.over ∙ over

module _ (spec : Spec) (old new : Extended) (same : IsOverSame old new) (v : IsVocabulary spec.vocab) (q : Cq) (block : IsBlock spec q)
    (sets parts : List Rows) (told : parts ≡ sets) (are : AreRowsOf new (Closure spec.normal q) (InSome sets)) where
  some_told : (row : List ℕ) → InSome parts row → InSome sets row
  some_told row i = subst (λ (s : List Rows). InSome s row) told i

  module _ (over : IsOverAll spec Tuples old) where
    -- a row has as many numbers as the answer list has places
    pub rows_wide : (width : ℕ) (answer : List Arg) → width ≡ length answer → answer ≡ q.answer → (row : List ℕ) → InSome parts row → length row ≡ width
    rows_wide width answer long is row i =
        row_wide spec old.over.rows new (still_over spec old new same over.over) (same.wanted ∙ over.wanted) v q block (InSome sets) are row (some_told row i)
        ∙ sym (long ∙ ap length is)

    -- they are numbers of terms
    pub rows_of_terms : (union : Rows) → ((row : List ℕ) → HasIn row union.list ↔ InSome parts row) → (row : List ℕ) → HasIn row union.list → AreTermNumbers new row
    rows_of_terms union is row i =
        row_terms spec old.over.rows new (still_over spec old new same over.over) (same.wanted ∙ over.wanted) v q block (InSome sets) are row (some_told row ((is row).0 i))

    -- and their tuples are exactly the certain answers
    pub block_gains : (union : Rows) → ((row : List ℕ) → HasIn row union.list ↔ InSome parts row) → (before after : List (List Term)) → HasGained (HasRow new (λ row. HasIn row union.list)) before after
        → HasGained (IsCertainOf (project_of spec old.over.rows) (IsOfTables old.over.rows) q) before after
    block_gains union is before after gained =
        gains_same (HasRow new (λ row. HasIn row union.list)) (IsCertainOf (project_of spec old.over.rows) (IsOfTables old.over.rows) q) before after gained (λ tuple. (
          λ h. row_certain spec old.over.rows new (still_over spec old new same over.over) (same.wanted ∙ over.wanted) v q block (InSome sets) are tuple
              (record { row = h.row; has = some_told h.row ((is h.row).0 h.has); numbers = h.numbers }),
          λ c.
              let h = certain_row spec old.over.rows new (still_over spec old new same over.over) (same.wanted ∙ over.wanted) v q block (InSome sets) are tuple c in
              record { row = h.row; has = (is h.row).1 (subst (λ (s : List Rows). InSome s h.row) (sym told) h.has); numbers = h.numbers },
        ))

  module _ (over : IsOverAll spec AllHits old) (width : ℕ) (answer : List Arg) (long : width ≡ length answer) (list : answer ≡ q.answer) where
    -- a row has the numbers of terms, and then those of sets of rows
    pub rows_of_numbers : (row : List ℕ) → InSome parts row → IsNumberRow new row width
    rows_of_numbers row i =
        subst (IsNumberRow new row) (sym (long ∙ ap length list))
        (row_numbers spec old.over.rows new (still_over spec old new same over.over) (same.wanted ∙ over.wanted) v q block (InSome sets) are row (some_told row i))

    -- and their hits are those of the block
    pub block_has : (before after : List Hit) → HasHitsOf new width (InSome parts) before after → AreBlockHits (project_of spec old.over.rows) q before after
    block_has before after h =
        block_hits spec old.over.rows new (still_over spec old new same over.over) (same.wanted ∙ over.wanted) v q block (InSome sets) are before after
        (subst (λ (s : List Rows). HasHitsOf new (length q.answer) (InSome s) before after) told (subst (λ (n : ℕ). HasHitsOf new n (InSome parts) before after) (long ∙ ap length list) h))
