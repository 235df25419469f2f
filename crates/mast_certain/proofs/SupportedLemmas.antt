-- Hits of rows, of the rows of sets, and of blocks, one after another.
use Rattle.std.proofs.Common.{◌≡◌, ◌↔◌, ◌⊎◌, ℕ, ◌+◌, ◌<◌, ◌≤◌, List, [], ◌∷◌, ◌++◌, length, get_or, take, inl, inr, refl, sym, subst}
use Rattle.std.proofs.lemmas.List.{take_all, take_more}
use Rattle.mast_cq.specs.declared.query.Cq.{Cq}
use Rattle.mast_cq.specs.Queries.{In}
use Rattle.mast_cq.proofs.ListLemmas.{append_left, append_right, each_in, in_append, in_each}
use Rattle.mast_tables.specs.Rows.{Row}
use Rattle.mast_canon.specs.declared.spec.Spec.{Spec}
use Rattle.mast_canon.specs.ConflictLaws.{IsAmong}
use Rattle.mast_relations.specs.Matches.{In as HasIn, Rows}
use Rattle.mast_join.specs.declared.hit.Hit.{Hit}
use Rattle.mast_join.specs.Answers.{Extended}
use Rattle.mast_join.specs.Hits.{IsHitOfRow}
use Rattle.mast_certain.specs.Answered.{AreHits, IsCertainHit, Project, project_of}
use Rattle.mast_certain.specs.inside.Found.{InSome}
use Rattle.mast_certain.specs.inside.Supported.{AreBlockHits, HasHitsOf, IsHitOfBlock}
use Rattle.mast_certain.proofs.GainedLemmas.{row_more}
use Rattle.mast_certain.proofs.SetLemmas.{some_more}
use Rattle.mast_certain.proofs.UnionLemmas.{certain_append}

-- ---- hits of rows of numbers

module _ (e : Extended) (width : ℕ) where
  -- no row has a hit to be there
  pub hits_none : (P : List ℕ → Type 0) (old : List Hit) → ((row : List ℕ) → P row → ⊥) → HasHitsOf e width P old old
  hits_none P old none = record { kept = λ hit i. i; right = λ hit i. inl i; all = λ row p. absurd (none row p) }

  -- the hit of one row is put
  pub hits_one : (P Q : List ℕ → Type 0) (old now new : List Hit) (row : List ℕ) (hit : Hit) → HasHitsOf e width P old now → new ≡ now ++ hit ∷ [] → IsHitOfRow e width row hit
      → ((x : List ℕ) → Q x ↔ (P x ⊎ (x ≡ row))) → HasHitsOf e width Q old new
  hits_one P Q old now new row hit h grown is more =
      let front : (x : Hit) → In x now → In x new = λ x i. subst (In x) (sym grown) (append_left x now (hit ∷ []) i) in
      record {
        kept = λ x i. front x (h.kept x i);
        right = λ x i. elim (in_append x now (hit ∷ []) (subst (In x) grown i)) [
          | inl j ↦ elim (h.right x j) [ inl k ↦ inl k | inr r ↦ inr (record { row = r.row; has = (more r.row).1 (inl r.has); is = r.is }) ]
          | inr (inl same) ↦ inr (record { row = row; has = (more row).1 (inr refl); is = subst (IsHitOfRow e width row) (sym same) is })
          | inr (inr none) ↦ absurd none
        ];
        all = λ x q. elim ((more x).0 q) [
          | inl p ↦ (let r = h.all x p in record { hit = r.hit; among = front r.hit r.among; is = r.is })
          | inr same ↦ record {
            hit = hit;
            among = subst (In hit) (sym grown) (append_right hit now (hit ∷ []) (inl refl));
            is = subst (λ (r : List ℕ). IsHitOfRow e width r hit) (sym same) is;
          }
        ];
      }

  -- some are put, and then others
  pub hits_then : (P Q R : List ℕ → Type 0) (old now new : List Hit) → HasHitsOf e width P old now → HasHitsOf e width Q now new → ((x : List ℕ) → R x ↔ (P x ⊎ Q x)) → HasHitsOf e width R old new
  hits_then P Q R old now new h k more = record {
    kept = λ x i. k.kept x (h.kept x i);
    right = λ x i. elim (k.right x i) [
      | inl j ↦ elim (h.right x j) [ inl l ↦ inl l | inr r ↦ inr (record { row = r.row; has = (more r.row).1 (inl r.has); is = r.is }) ]
      | inr r ↦ inr (record { row = r.row; has = (more r.row).1 (inr r.has); is = r.is })
    ];
    all = λ x a. elim ((more x).0 a) [
      | inl p ↦ (let r = h.all x p in record { hit = r.hit; among = k.kept r.hit r.among; is = r.is })
      | inr q ↦ k.all x q
    ];
  }

  -- said in other words
  pub hits_same : (P Q : List ℕ → Type 0) (old new : List Hit) → HasHitsOf e width P old new → ((x : List ℕ) → P x ↔ Q x) → HasHitsOf e width Q old new
  hits_same P Q old new h same = record {
    kept = h.kept;
    right = λ x i. elim (h.right x i) [ inl j ↦ inl j | inr r ↦ inr (record { row = r.row; has = (same r.row).0 r.has; is = r.is }) ];
    all = λ x q. h.all x ((same x).1 q);
  }

  -- ---- the rows of a list, one after another

  abbrev pub HaveRowHits : List (List ℕ) → ℕ → List Hit → List Hit → Type 0
  HaveRowHits list number old new = HasHitsOf e width (λ row. HasIn row (take number list)) old new

  pub row_hits_none : (list : List (List ℕ)) (old : List Hit) → HaveRowHits list 0 old old
  row_hits_none list old = hits_none (λ row. HasIn row (take 0 list)) old (λ row i. absurd i)

  pub row_hits_more : (list : List (List ℕ)) (number : ℕ) (row : List ℕ) (old now new : List Hit) (hit : Hit) → number < length list → row ≡ get_or list number [] → HaveRowHits list number old now
      → new ≡ now ++ hit ∷ [] → IsHitOfRow e width row hit → HaveRowHits list (number + 1) old new
  row_hits_more list number row old now new hit lt at h grown is =
      hits_one (λ r. HasIn r (take number list)) (λ r. HasIn r (take (number + 1) list)) old now new (get_or list number []) hit h grown (subst (λ (r : List ℕ). IsHitOfRow e width r hit) at is)
      (λ r. row_more list number r lt)

  pub row_hits_all : (list : List (List ℕ)) (number : ℕ) (old new : List Hit) → length list ≤ number → HaveRowHits list number old new → HasHitsOf e width (λ row. HasIn row list) old new
  row_hits_all list number old new le h = subst (λ (l : List (List ℕ)). HasHitsOf e width (λ row. HasIn row l) old new) (take_all number list le) h

  -- ---- the rows of sets, one after another

  abbrev pub HaveSetHits : List Rows → ℕ → List Hit → List Hit → Type 0
  HaveSetHits sets number old new = HasHitsOf e width (InSome (take number sets)) old new

  pub set_hits_none : (sets : List Rows) (old : List Hit) → HaveSetHits sets 0 old old
  set_hits_none sets old = hits_none (InSome (take 0 sets)) old (λ row i. absurd i)

  pub set_hits_more : (sets : List Rows) (number : ℕ) (rows : Rows) (old now new : List Hit) → number < length sets → rows ≡ get_or sets number rows → HaveSetHits sets number old now
      → HasHitsOf e width (λ row. HasIn row rows.list) now new → HaveSetHits sets (number + 1) old new
  set_hits_more sets number rows old now new lt at h k =
      hits_then (InSome (take number sets)) (λ row. HasIn row (get_or sets number rows).list) (InSome (take (number + 1) sets)) old now new h
      (subst (λ (r : Rows). HasHitsOf e width (λ row. HasIn row r.list) now new) at k) (λ row. some_more sets number rows row lt)

  pub set_hits_all : (sets : List Rows) (number : ℕ) (old new : List Hit) → length sets ≤ number → HaveSetHits sets number old new → HasHitsOf e width (InSome sets) old new
  set_hits_all sets number old new le h = subst (λ (s : List Rows). HasHitsOf e width (InSome s) old new) (take_all number sets le) h

-- ---- hits of blocks

module _ (project : Project) where
  front_hit : (blocks : List Cq) (block : Cq) (hit : Hit) → IsCertainHit project blocks hit → IsCertainHit project (blocks ++ block ∷ []) hit
  front_hit blocks block hit h = record {
    certain = (certain_append project (IsAmong hit.rows) blocks block hit.terms).1 (inl h.certain);
    of_tables = h.of_tables;
    ascending = h.ascending;
  }

  last_hit : (blocks : List Cq) (block : Cq) (hit : Hit) → IsHitOfBlock project block hit → IsCertainHit project (blocks ++ block ∷ []) hit
  last_hit blocks block hit h = record {
    certain = (certain_append project (IsAmong hit.rows) blocks block hit.terms).1 (inr h.certain);
    of_tables = h.of_tables;
    ascending = h.ascending;
  }

  -- those of one block more
  hits_append : (blocks : List Cq) (block : Cq) (old new : List Hit) → AreHits project blocks old → AreBlockHits project block old new → AreHits project (blocks ++ block ∷ []) new
  hits_append blocks block old new h k = record {
    right = in_each (IsCertainHit project (blocks ++ block ∷ [])) new (λ hit i. elim (k.right hit i) [
      | inl j ↦ front_hit blocks block hit (each_in (IsCertainHit project blocks) hit old h.right j)
      | inr b ↦ last_hit blocks block hit b
    ]);
    all = λ X tuple c. elim ((certain_append project (IsAmong X) blocks block tuple).0 c) [
      | inl b ↦ (let r = h.all X tuple b in record { hit = r.hit; among = k.kept r.hit r.among; terms = r.terms; within = r.within })
      | inr b ↦ k.all X tuple b
    ];
  }

module _ (spec : Spec) (rows : List (List Row)) (blocks : List Cq) where
  -- the hits are those of the blocks so far
  abbrev pub AreHitsSoFar : ℕ → List Hit → Type 0
  AreHitsSoFar number hits = AreHits (project_of spec rows) (take number blocks) hits

  pub hits_so_far_none : AreHitsSoFar 0 []
  hits_so_far_none = record { right = tt; all = λ X tuple c. absurd c.among }

  pub hits_here : (number : ℕ) (block : Cq) (now : List (List Row)) (old new : List Hit) → number < length blocks → block ≡ get_or blocks number block → now ≡ rows → AreHitsSoFar number old
      → AreBlockHits (project_of spec now) block old new → AreHitsSoFar (number + 1) new
  hits_here number block now old new lt is same h k =
      subst (λ (bs : List Cq). AreHits (project_of spec rows) bs new) (sym (take_more blocks number block lt))
      (hits_append (project_of spec rows) (take number blocks) (get_or blocks number block) old new h
      (subst (λ (q : Cq). AreBlockHits (project_of spec rows) q old new) is (subst (λ (rs : List (List Row)). AreBlockHits (project_of spec rs) block old new) same k)))

  -- and so of all of them
  pub hits_all : (number : ℕ) (hits : List Hit) → length blocks ≤ number → AreHitsSoFar number hits → AreHits (project_of spec rows) blocks hits
  hits_all number hits le h = subst (λ (bs : List Cq). AreHits (project_of spec rows) bs hits) (take_all number blocks le) h
