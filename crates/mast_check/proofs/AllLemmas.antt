-- All breaches: of the rows of a set, row by row, and of the violations of a list, violation by violation.
use Rattle.std.proofs.Common.{◌≡◌, ℕ, Bool, true, false, List, [], ◌∷◌, ◌++◌, None, inl, inr, refl, sym, ap, ◌∙◌, subst, append_assoc, append-nil}
use Rattle.std.proofs.lemmas.Bool.{true≢false}
use Rattle.std.specs.Prelude.{Result, Ok, Err, IfOk}
use Rattle.std.specs.List.{AllByRecursion}
use Rattle.mast_terms.specs.Vocabularies.{IsVocabulary}
use Rattle.mast_cq.proofs.ListLemmas.{append_left, append_right}
use Rattle.mast_tables.specs.Rows.{Row}
use Rattle.mast_canon.specs.declared.rows.RowId.{RowId}
use Rattle.mast_canon.specs.declared.spec.Spec.{Spec}
use Rattle.mast_canon.specs.ConflictLaws.{IsAmong}
use Rattle.mast_canon.specs.SpecFacts.{FactsOf}
use Rattle.mast_canon.specs.Theories.{theory_of}
use Rattle.mast_canon.proofs.OverLemmas.{each_append}
use Rattle.mast_relations.specs.Matches.{In as Among}
use Rattle.mast_join.specs.Answers.{Extended}
use Rattle.mast_join.specs.Extensions.{Over, over_of}
use Rattle.mast_violate.specs.declared.violation.Violation.{Violation}
use Rattle.mast_violate.specs.Breaches.{violations_of}
use Rattle.mast_violate.proofs.BreachLemmas.{are_breaches}
use Rattle.mast_check.specs.declared.breach.Breach.{Breach}
use Rattle.mast_check.specs.Checks.{AreAllBreaches, HasBreachWithin, IsBreachOf}
use Rattle.mast_check.specs.inside.Judging.{passes_by}
use Rattle.mast_check.specs.inside.Pieces.{HasBreachOfRow, IsBreachOfRow, IsBreachOfSome, IsPut, TellsAll, TellsBreaches, flat}
use Rattle.mast_check.proofs.FormLemmas.{spec_proper}

-- what follows of each value follows of the value that is there
pub ok_then : {X E : Type 0} (P Q : X → Type 0) → ((x : X) → P x → Q x) → (result : Result X E) → IfOk result P → IfOk result Q
ok_then P Q h (Ok x) p = h x p
ok_then P Q h (Err e) p = tt

-- one list more behind the others
pub flat_more : (lists : List (List Breach)) (list : List Breach) → flat (lists ++ list ∷ []) ≡ flat lists ++ list
flat_more [] list = append-nil list
flat_more (first ∷ lists) list = ap (λ (bs : List Breach). first ++ bs) (flat_more lists list) ∙ sym (append_assoc first (flat lists) list)

module _ (e : Extended) (width : ℕ) (v : Violation) where
  -- a breach of a row of these is one of a row of more
  some_more : (P Q : List ℕ → Type 0) → ((row : List ℕ) → P row → Q row) → (breach : Breach) → IsBreachOfSome e width v P breach → IsBreachOfSome e width v Q breach
  some_more P Q h breach b = record { row = b.row; found = h b.row b.found; is = b.is }

  each_more : (P Q : List ℕ → Type 0) → ((row : List ℕ) → P row → Q row) → (list : List Breach) → AllByRecursion (IsBreachOfSome e width v P) list → AllByRecursion (IsBreachOfSome e width v Q) list
  each_more P Q h [] t = tt
  each_more P Q h (b ∷ list) t = (some_more P Q h b t.0, each_more P Q h list t.1)

  -- the breaches of the same rows
  pub all_same : (P Q : List ℕ → Type 0) → ((row : List ℕ) → P row → Q row) → ((row : List ℕ) → Q row → P row) → (list : List Breach) → TellsAll e width v P list → TellsAll e width v Q list
  all_same P Q h k list t = record { right = each_more P Q h list t.right; all = λ row q. t.all row (k row q) }

  -- what is told of the rest of the rows is told of all, with the breaches so far
  abbrev pub TellsOthers : (rows rest : List (List ℕ)) → List Breach → Type 0
  TellsOthers rows rest list = (more : List Breach) → TellsAll e width v (λ row. Among row rest) more → TellsAll e width v (λ row. Among row rows) (list ++ more)

  -- the row in front has a breach
  put_front : (row : List ℕ) (rest : List (List ℕ)) (breach : Breach) (more : List Breach) → IsBreachOfRow e width v row breach → TellsAll e width v (λ r. Among r rest) more
      → TellsAll e width v (λ r. Among r (row ∷ rest)) (breach ∷ more)
  put_front row rest breach more b t = record {
    right = (record { row = row; found = inl refl; is = b }, each_more (λ r. Among r rest) (λ r. Among r (row ∷ rest)) (λ r i. inr i) more t.right);
    all = λ r i passes. go r passes i;
  }
    where
      go : (r : List ℕ) → passes_by e.numbered.terms v.test r ≡ true → Among r (row ∷ rest) → HasBreachOfRow e width v (breach ∷ more) r
      go r passes (inl k) = record { breach = breach; stands = inl refl; is = subst (λ z. IsBreachOfRow e width v z breach) (sym k) b }
      go r passes (inr i) = let w = t.all r i passes in record { breach = w.breach; stands = inr w.stands; is = w.is }

  -- it does not pass
  pass_front : (row : List ℕ) (rest : List (List ℕ)) (more : List Breach) → passes_by e.numbered.terms v.test row ≡ false → TellsAll e width v (λ r. Among r rest) more
      → TellsAll e width v (λ r. Among r (row ∷ rest)) more
  pass_front row rest more wrong t = record {
    right = each_more (λ r. Among r rest) (λ r. Among r (row ∷ rest)) (λ r i. inr i) more t.right;
    all = λ r i passes. go r passes i;
  }
    where
      go : (r : List ℕ) → passes_by e.numbered.terms v.test r ≡ true → Among r (row ∷ rest) → HasBreachOfRow e width v more r
      go r passes (inl k) = absurd (true≢false (sym passes ∙ (ap (passes_by e.numbered.terms v.test) k ∙ wrong)))
      go r passes (inr i) = t.all r i passes

  -- so it is behind one row more
  pub others_more : (rows now rest : List (List ℕ)) (row : List ℕ) (old new : List Breach) (passes : Bool) → now ≡ row ∷ rest → passes_by e.numbered.terms v.test row ≡ passes → IsPut e width v row passes old new
      → TellsOthers rows now old → TellsOthers rows rest new
  others_more rows now rest row old new true cut passes put before more t =
      let whole = before (put.0 ∷ more) (subst (λ rs. TellsAll e width v (λ r. Among r rs) (put.0 ∷ more)) (sym cut) (put_front row rest put.0 more put.1.0 t)) in
      subst (TellsAll e width v (λ r. Among r rows)) (sym (ap (λ (bs : List Breach). bs ++ more) put.1.1 ∙ append_assoc old (put.0 ∷ []) more)) whole
  others_more rows now rest row old new false cut passes put before more t =
      let whole = before more (subst (λ rs. TellsAll e width v (λ r. Among r rs) more) (sym cut) (pass_front row rest more passes t)) in
      subst (TellsAll e width v (λ r. Among r rows)) (sym (ap (λ (bs : List Breach). bs ++ more) put)) whole

  -- at the beginning nothing is told
  pub others_first : (rows : List (List ℕ)) → TellsOthers rows rows []
  others_first rows more t = t

  -- and at the end all is
  pub others_last : (rows rest : List (List ℕ)) (list : List Breach) → rest ≡ [] → TellsOthers rows rest list → TellsAll e width v (λ row. Among row rows) list
  others_last rows rest list none told =
      subst (TellsAll e width v (λ row. Among row rows)) (append-nil list)
      (told [] (subst (λ rs. TellsAll e width v (λ row. Among row rs) []) (sym none) (record { right = tt; all = λ row i passes. absurd i })))

module _ (spec : Spec) (over : Over) where
  -- what is told of the rest of the violations is told of all, with the breaches so far
  abbrev pub TellsBehind : (list rest : List Violation) → List Breach → Type 0
  TellsBehind list rest found = (more : List Breach) → TellsBreaches spec over rest more → TellsBreaches spec over list (found ++ more)

  left_within : (rows : List RowId) (left right : List Breach) → HasBreachWithin rows left → HasBreachWithin rows (left ++ right)
  left_within rows left right w = record { breach = w.breach; stands = append_left w.breach left right w.stands; within = w.within }

  right_within : (rows : List RowId) (left right : List Breach) → HasBreachWithin rows right → HasBreachWithin rows (left ++ right)
  right_within rows left right w = record { breach = w.breach; stands = append_right w.breach left right w.stands; within = w.within }

  breaches_front : (v : Violation) (rest : List Violation) (found more : List Breach) → TellsBreaches spec over (v ∷ []) found → TellsBreaches spec over rest more → TellsBreaches spec over (v ∷ rest) (found ++ more)
  breaches_front v rest found more t u = record {
    each = each_append (IsBreachOf spec over.rows over.only) found more t.each u.each;
    all = λ w i rows b. elim i [ inl k ↦ left_within rows found more (t.all w (inl k) rows b) | inr j ↦ right_within rows found more (u.all w j rows b) ];
  }

  -- so it is behind one violation more
  pub behind_more : (list now rest : List Violation) (v : Violation) (old found new : List Breach) → now ≡ v ∷ rest → TellsBreaches spec over (v ∷ []) found → new ≡ old ++ found
      → TellsBehind list now old → TellsBehind list rest new
  behind_more list now rest v old found new cut told grown before more t =
      let whole = before (found ++ more) (subst (λ vs. TellsBreaches spec over vs (found ++ more)) (sym cut) (breaches_front v rest found more told t)) in
      subst (TellsBreaches spec over list) (sym (ap (λ (bs : List Breach). bs ++ more) grown ∙ append_assoc old found more)) whole

  pub behind_first : (list : List Violation) → TellsBehind list list []
  behind_first list more t = t

  pub behind_last : (list rest : List Violation) (found : List Breach) → rest ≡ [] → TellsBehind list rest found → TellsBreaches spec over list found
  behind_last list rest found none told =
      subst (TellsBreaches spec over list) (append-nil found)
      (told [] (subst (λ vs. TellsBreaches spec over vs []) (sym none) (record { each = tt; all = λ w i rows b. absurd i })))

-- the breaches of the violation list are all breaches
pub all_breaches : (spec : Spec) → IsVocabulary spec.vocab → (tables : List (List Row)) (list : List Breach) → TellsBreaches spec (over_of spec tables None) (violations_of (theory_of spec)) list
    → AreAllBreaches spec tables list
all_breaches spec vocab tables list t = record {
  each = t.each;
  all = λ rows broken. (
      let w = (are_breaches (theory_of spec) (FactsOf spec tables (IsAmong rows)) (spec_proper spec vocab).formed broken.0).0 broken.1 in
      t.all w.violation w.stands rows w.breached
      );
}

-- so it is of what is answered
pub all_breaches_told : {E : Type 0} (spec : Spec) → IsVocabulary spec.vocab → (tables : List (List Row)) (o : Over) → o ≡ over_of spec tables None → (list : List Violation) → list ≡ violations_of (theory_of spec)
    → (result : Result (List Breach) E) → IfOk result (TellsBreaches spec o list) → IfOk result (AreAllBreaches spec tables)
all_breaches_told spec vocab tables o same list lists (Ok found) t =
    all_breaches spec vocab tables found (subst (λ p. TellsBreaches spec p (violations_of (theory_of spec)) found) same (subst (λ vs. TellsBreaches spec o vs found) lists t))
all_breaches_told spec vocab tables o same list lists (Err e) t = tt
