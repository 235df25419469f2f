-- Partial choices in which each entry is bound are the choices that meet the query; and the first partial choices.
use Rattle.std.proofs.Common.{◌≡◌, ℕ, ◌<◌, Bool, true, false, if◌then◌else◌, List, [], ◌∷◌, length, get_or, replicate, inl, inr, refl, sym, subst, ◌∙◌, arith}
use Rattle.std.specs.Prelude.{Option}
use Rattle.std.proofs.lemmas.List.{ext_get_or, get_or-replicate, length-replicate}
use Rattle.mast_sql.specs.declared.query.SourceQuery.{SourceQuery}
use Rattle.mast_tables.specs.declared.declaration.TableDecl.{TableDecl}
use Rattle.mast_tables.specs.Rows.{Row}
use Rattle.mast_canon.specs.declared.rows.RowId.{RowId}
use Rattle.mast_join.specs.Chosen.{AreChoices, IsMet}
use Rattle.mast_join.specs.declared.comparisons.Test.{Test}
use Rattle.mast_join.specs.inside.Partial.{MayHave, IsBound, IsPartial, ArePartial, open_count, pass_all}
use Rattle.mast_join.specs.inside.Plans.{AreTests, sources_of}
use Rattle.mast_join.proofs.FewerLemmas.{nothing_at}
use Rattle.mast_join.proofs.OnceLemmas.{each_once}
use Rattle.mast_join.proofs.PlanLemmas.{places_of, tables_of, full_met, met_full, met_passes}
use Rattle.mast_join.proofs.StepLemmas.{all_bound}

module _ (decls : List TableDecl) (tables : List (List Row)) (query : SourceQuery) (given : Option (List RowId)) (tests : List Test) (are : AreTests decls query.from query.conditions tests) (bound : List Bool) (none : open_count bound ≡ 0) where
  to_met : (choice : List ℕ) → IsPartial (tables_of decls tables query.from) (places_of decls query.from) given tests bound choice → IsMet decls tables query given choice
  to_met choice p =
      full_met decls tables query given tests choice are (record {
        long = p.long;
        rows = λ k lt. subst (λ (b : Bool). IsBound b (MayHave (tables_of decls tables query.from) (places_of decls query.from) given k (get_or choice k 0)) (get_or choice k 0)) (all_bound bound k none) (p.rows k lt);
      }) p.passes

  from_met : (choice : List ℕ) → IsMet decls tables query given choice → IsPartial (tables_of decls tables query.from) (places_of decls query.from) given tests bound choice
  from_met choice m =
      let f = met_full decls tables query given choice m in
      record {
        long = f.long;
        rows = λ k lt. subst (λ (b : Bool). IsBound b (MayHave (tables_of decls tables query.from) (places_of decls query.from) given k (get_or choice k 0)) (get_or choice k 0)) (sym (all_bound bound k none)) (f.rows k lt);
        passes = met_passes decls tables query given tests choice are m;
      }

  whole : (list : List (List ℕ)) → ArePartial (tables_of decls tables query.from) (places_of decls query.from) given tests bound list → AreChoices decls tables query given list
  whole list p = record { once = each_once list p.once; exact = λ choice. (λ i. to_met choice ((p.exact choice).0 i), λ m. (p.exact choice).1 (from_met choice m)) }

  -- the partial choices in which each entry is bound
  pub whole_are : (places : List ℕ) (list : List (List ℕ)) → places ≡ places_of decls query.from → ArePartial (sources_of tables places) places given tests bound list → AreChoices decls tables query given list
  whole_are places list e p = whole list (subst (λ (k : List ℕ). ArePartial (sources_of tables k) k given tests bound list) e p)

module _ (sources : List (List Row)) (places : List ℕ) (given : Option (List RowId)) (tests : List Test) (n : ℕ) (long : n ≡ length sources) where
  open_at : (k : ℕ) → k < n → get_or (replicate n false) k true ≡ false
  open_at k lt = get_or-replicate n k false true lt

  -- the choice without rows
  is_first : pass_all sources (replicate n 0) tests ≡ true → IsPartial sources places given tests (replicate n false) (replicate n 0)
  is_first p = record {
    long = length-replicate n 0 ∙ long;
    rows = λ k lt. subst (λ (b : Bool). IsBound b (MayHave sources places given k (get_or (replicate n 0) k 0)) (get_or (replicate n 0) k 0)) (sym (open_at k (omega (arith, lt, long)))) (nothing_at n k);
    passes = p;
  }

  -- is the only one
  only_first : (choice : List ℕ) → IsPartial sources places given tests (replicate n false) choice → choice ≡ replicate n 0
  only_first choice p =
      ext_get_or 0 choice (replicate n 0) (p.long ∙ sym long ∙ sym (length-replicate n 0)) (λ k lt.
      let within : k < length sources = omega (arith, lt, p.long) in
      let zero_there : get_or choice k 0 ≡ 0 = subst (λ (b : Bool). IsBound b (MayHave sources places given k (get_or choice k 0)) (get_or choice k 0)) (open_at k (omega (arith, within, long))) (p.rows k within) in
      zero_there ∙ sym (nothing_at n k))

  first_case : (b : Bool) → pass_all sources (replicate n 0) tests ≡ b → ArePartial sources places given tests (replicate n false) (if b then replicate n 0 ∷ [] else [])
  first_case true e = record {
    once = (λ i. absurd i, tt);
    exact = λ choice. (
      λ i. elim i [ inl q ↦ subst (λ (k : List ℕ). IsPartial sources places given tests (replicate n false) k) (sym q) (is_first e) | inr j ↦ absurd j ],
      λ p. inl (only_first choice p),
    );
  }
  first_case false e = record {
    once = tt;
    exact = λ choice. (
      λ i. absurd i,
      λ p. let q : pass_all sources choice tests ≡ true = p.passes in
          let z : pass_all sources (replicate n 0) tests ≡ true = subst (λ (k : List ℕ). pass_all sources k tests ≡ true) (only_first choice p) q in absurd (cc),
    );
  }

  -- the partial choices before any entry is bound
  pub first_are : (list : List (List ℕ)) → list ≡ (if pass_all sources (replicate n 0) tests then replicate n 0 ∷ [] else []) → ArePartial sources places given tests (replicate n false) list
  first_are list e = subst (λ (k : List (List ℕ)). ArePartial sources places given tests (replicate n false) k) (sym e) (first_case (pass_all sources (replicate n 0) tests) refl)
