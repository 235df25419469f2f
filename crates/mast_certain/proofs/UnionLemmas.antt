-- Blocks one after another, and their certain answers.
use Rattle.std.proofs.Common.{◌≡◌, ◌↔◌, ◌⊎◌, ℕ, ◌+◌, ◌<◌, ◌≤◌, List, [], ◌∷◌, ◌++◌, None, length, get_or, take, inl, inr, refl, sym, ap, subst, ◌∙◌}
use Rattle.std.proofs.lemmas.List.{take_all, take_more}
use Rattle.mast_terms.specs.declared.term.Term.{Term}
use Rattle.mast_cq.specs.declared.query.Cq.{Cq}
use Rattle.mast_cq.specs.Queries.{In}
use Rattle.mast_cq.proofs.ListLemmas.{append_left, append_right, in_append}
use Rattle.mast_tables.specs.Rows.{Row}
use Rattle.mast_canon.specs.declared.rows.RowId.{RowId}
use Rattle.mast_canon.specs.declared.spec.Spec.{Spec}
use Rattle.mast_canon.specs.Facts.{IsOfTables}
use Rattle.mast_join.specs.declared.extensions.Wanted.{Wanted}
use Rattle.mast_join.specs.Answers.{Extended, IsAsked, IsOverSame}
use Rattle.mast_join.specs.Extensions.{Over, over_of}
use Rattle.mast_certain.specs.Answered.{AreCertain, IsBlock, IsCertain, IsCertainOf, Project, project_of}
use Rattle.mast_certain.specs.inside.Found.{HasGained, IsOverAll}
use Rattle.mast_certain.specs.inside.Ordered.{IsInOrder}

-- ---- what is asked over stays

pub over_itself : (e : Extended) → IsOverSame e e
over_itself e = record { over = refl; wanted = refl }

-- first so, and then so
pub over_then : (old now new : Extended) → IsOverSame old now → IsOverSame now new → IsOverSame old new
over_then old now new h k = record { over = k.over ∙ h.over; wanted = k.wanted ∙ h.wanted }

-- all rows are asked over still
pub over_stays : (spec : Spec) (wish : Wanted) (old new : Extended) → IsOverSame old new → IsOverAll spec wish old → IsOverAll spec wish new
over_stays spec wish old new same h = record {
  over = same.over ∙ (h.over ∙ ap (λ (o : Over). over_of spec o.rows None) (sym same.over));
  wanted = same.wanted ∙ h.wanted;
}

-- over rows that are told
pub over_told : (spec : Spec) (wish : Wanted) (rows : List (List Row)) (e : Extended) → e.over ≡ over_of spec rows None → e.wanted ≡ wish → IsOverAll spec wish e
over_told spec wish rows e is wanted = record { over = is ∙ ap (λ (o : Over). over_of spec o.rows None) (sym is); wanted = wanted }

-- what is asked of the specification is asked of what stands for it
pub asked_over : (spec : Spec) (wish : Wanted) (e : Extended) (q : Cq) → IsOverAll spec wish e → IsBlock spec q → IsAsked (length e.over.sources.vocab.constants) q
asked_over spec wish e q over block = subst (λ (n : ℕ). IsAsked n q) (ap (λ (o : Over). length o.sources.vocab.constants) (sym over.over)) block.asked

-- ---- the certain answers of blocks

module _ (project : Project) (X : RowId → Type 0) where
  pub certain_append : (blocks : List Cq) (block : Cq) (tuple : List Term) → IsCertain project X (blocks ++ block ∷ []) tuple ↔ (IsCertain project X blocks tuple ⊎ IsCertainOf project X block tuple)
  certain_append blocks block tuple = (
    λ h. elim (in_append h.block blocks (block ∷ []) h.among) [
      | inl i ↦ inl (record { block = h.block; among = i; certain = h.certain })
      | inr (inl e) ↦ inr (subst (λ (q : Cq). IsCertainOf project X q tuple) e h.certain)
      | inr (inr none) ↦ absurd none
    ],
    λ h. elim h [
      | inl k ↦ record { block = k.block; among = append_left k.block blocks (block ∷ []) k.among; certain = k.certain }
      | inr c ↦ record { block = block; among = append_right block blocks (block ∷ []) (inl refl); certain = c }
    ],
  )

  -- those of one block more
  pub certain_more : (blocks : List Cq) (number : ℕ) (d : Cq) → number < length blocks → (tuple : List Term)
      → IsCertain project X (take (number + 1) blocks) tuple ↔ (IsCertain project X (take number blocks) tuple ⊎ IsCertainOf project X (get_or blocks number d) tuple)
  certain_more blocks number d lt tuple =
      subst (λ (bs : List Cq). IsCertain project X bs tuple ↔ (IsCertain project X (take number blocks) tuple ⊎ IsCertainOf project X (get_or blocks number d) tuple)) (sym (take_more blocks number d lt))
      (certain_append (take number blocks) (get_or blocks number d) tuple)

-- the tuples are the certain answers of the blocks so far
abbrev pub AreSoFar : Spec → List (List Row) → List Cq → ℕ → List (List Term) → Type 0
AreSoFar spec rows blocks number tuples = (tuple : List Term) → In tuple tuples ↔ IsCertain (project_of spec rows) (IsOfTables rows) (take number blocks) tuple

module _ (spec : Spec) (rows : List (List Row)) (blocks : List Cq) where
  pub none_so_far : AreSoFar spec rows blocks 0 []
  none_so_far tuple = (λ i. absurd i, λ h. absurd h.among)

  pub more_so_far : (number : ℕ) (d : Cq) (now : List (List Row)) (old new : List (List Term)) → number < length blocks → now ≡ rows → AreSoFar spec rows blocks number old
      → HasGained (IsCertainOf (project_of spec now) (IsOfTables now) (get_or blocks number d)) old new → AreSoFar spec rows blocks (number + 1) new
  more_so_far number d now old new lt same so gained tuple =
      let g = subst (λ (rs : List (List Row)). HasGained (IsCertainOf (project_of spec rs) (IsOfTables rs) (get_or blocks number d)) old new) same gained tuple in
      let more = certain_more (project_of spec rows) (IsOfTables rows) blocks number d lt tuple in (
        λ i. more.1 (elim (g.0 i) [ inl j ↦ inl ((so tuple).0 j) | inr c ↦ inr c ]),
        λ h. g.1 (elim (more.0 h) [ inl k ↦ inl ((so tuple).1 k) | inr c ↦ inr c ]),
      )

  -- the same of a block that was read
  pub so_far_here : (number : ℕ) (block : Cq) (now : List (List Row)) (old new : List (List Term)) → number < length blocks → block ≡ get_or blocks number block → now ≡ rows → AreSoFar spec rows blocks number old
      → HasGained (IsCertainOf (project_of spec now) (IsOfTables now) block) old new → AreSoFar spec rows blocks (number + 1) new
  so_far_here number block now old new lt is same so gained =
      more_so_far number block now old new lt same so (subst (λ (q : Cq). HasGained (IsCertainOf (project_of spec now) (IsOfTables now) q) old new) is gained)

  -- in order they are the certain answers of all
  pub all_in_order : (number : ℕ) (tuples ordered : List (List Term)) → length blocks ≤ number → AreSoFar spec rows blocks number tuples → IsInOrder tuples ordered
      → AreCertain (project_of spec rows) blocks ordered
  all_in_order number tuples ordered le so is = record {
    ascending = is.ascending;
    are = λ tuple.
        let whole = subst (λ (bs : List Cq). In tuple tuples ↔ IsCertain (project_of spec rows) (IsOfTables rows) bs tuple) (take_all number blocks le) (so tuple) in
        (λ i. whole.0 ((is.are tuple).0 i), λ h. (is.are tuple).1 (whole.1 h));
  }
