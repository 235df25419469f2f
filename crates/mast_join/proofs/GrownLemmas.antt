-- Partial choices that get a row for one more entry.
use Rattle.std.proofs.Common.{◌≡◌, ℕ, ◌+◌, ◌<◌, Bool, true, false, if◌then◌else◌, List, [], ◌∷◌, ◌++◌, length, get_or, set, drop, append_assoc, inl, inr, refl, sym, ap, subst, ◌∙◌}
use Rattle.std.proofs.lemmas.Bool.{cond-true, cond-false}
use Rattle.std.proofs.lemmas.List.{get_or-set_same, set-set, set-get_or, drop_more}
use Rattle.mast_cq.specs.Queries.{In}
use Rattle.mast_cq.proofs.ListLemmas.{in_append, append_left, append_right}
use Rattle.mast_tables.specs.Rows.{Row}
use Rattle.mast_join.specs.declared.comparisons.Test.{Test}
use Rattle.mast_join.specs.inside.Partial.{Once, pass_all, kept, IsGrownOf, AreGrown, AreOffered}
use Rattle.mast_join.proofs.OnceLemmas.{once_append}

-- the choice with one of these rows at the entry, of which no comparison is false
pub record IsKept (sources : List (List Row)) (tests : List Test) (choice : List ℕ) (entry : ℕ) (rows : List ℕ) (x : List ℕ) : Type 0 where
  pub row : ℕ
  pub row_in : In row rows
  pub is : x ≡ set choice entry row
  pub passes : pass_all sources x tests ≡ true

module _ (sources : List (List Row)) (tests : List Test) (choice : List ℕ) (entry : ℕ) where
  kept_later : (r : ℕ) (rs : List ℕ) (x : List ℕ) → IsKept sources tests choice entry rs x → IsKept sources tests choice entry (r ∷ rs) x
  kept_later r rs x k = record { row = k.row; row_in = inr k.row_in; is = k.is; passes = k.passes }

  kept_case : (r : ℕ) (rs : List ℕ) (x : List ℕ) (ks : List (List ℕ)) (b : Bool) → pass_all sources (set choice entry r) tests ≡ b → (In x ks → IsKept sources tests choice entry rs x) → In x (if b then set choice entry r ∷ ks else ks) → IsKept sources tests choice entry (r ∷ rs) x
  kept_case r rs x ks true e rec (inl q) = record { row = r; row_in = inl refl; is = q; passes = subst (λ (k : List ℕ). pass_all sources k tests ≡ true) (sym q) e }
  kept_case r rs x ks true e rec (inr i) = kept_later r rs x (rec i)
  kept_case r rs x ks false e rec i = kept_later r rs x (rec i)

  -- what is kept is the choice with such a row
  pub in_kept : (rows : List ℕ) (x : List ℕ) → In x (kept sources tests choice entry rows) → IsKept sources tests choice entry rows x
  in_kept [] x i = absurd i
  in_kept (r ∷ rs) x i = kept_case r rs x (kept sources tests choice entry rs) (pass_all sources (set choice entry r) tests) refl (in_kept rs x) i

  put_later : (x y : List ℕ) (ks : List (List ℕ)) (b : Bool) → In x ks → In x (if b then y ∷ ks else ks)
  put_later x y ks true i = inr i
  put_later x y ks false i = i

  put_here : (y : List ℕ) (ks : List (List ℕ)) (b : Bool) → b ≡ true → In y (if b then y ∷ ks else ks)
  put_here y ks true e = inl refl
  put_here y ks false e = absurd (cc)

  -- and the choice with such a row is kept
  pub kept_in : (rows : List ℕ) (row : ℕ) → In row rows → pass_all sources (set choice entry row) tests ≡ true → In (set choice entry row) (kept sources tests choice entry rows)
  kept_in [] row i p = absurd i
  kept_in (r ∷ rs) row (inl q) p =
      subst (λ (k : ℕ). In (set choice entry k) (kept sources tests choice entry (r ∷ rs))) (sym q)
      (put_here (set choice entry r) (kept sources tests choice entry rs) (pass_all sources (set choice entry r) tests) (subst (λ (k : ℕ). pass_all sources (set choice entry k) tests ≡ true) q p))
  kept_in (r ∷ rs) row (inr i) p = put_later (set choice entry row) (set choice entry r) (kept sources tests choice entry rs) (pass_all sources (set choice entry r) tests) (kept_in rs row i p)

  once_case : (y : List ℕ) (ks : List (List ℕ)) (b : Bool) → Once ks → (In y ks → ⊥) → Once (if b then y ∷ ks else ks)
  once_case y ks true p n = (n, p)
  once_case y ks false p n = p

  -- each once
  pub kept_once : (rows : List ℕ) → entry < length choice → Once rows → Once (kept sources tests choice entry rows)
  kept_once [] lt p = tt
  kept_once (r ∷ rs) lt p =
      once_case (set choice entry r) (kept sources tests choice entry rs) (pass_all sources (set choice entry r) tests) (kept_once rs lt p.1) (λ i.
      let k = in_kept rs (set choice entry r) i in
      let same : r ≡ k.row = sym (get_or-set_same choice entry r 0 lt) ∙ ap (λ (c : List ℕ). get_or c entry 0) k.is ∙ get_or-set_same choice entry k.row 0 lt in
      p.0 (subst (λ (n : ℕ). In n rs) (sym same) k.row_in))

  -- a row that the choice had at the entry plays no part
  pub kept_base : (row : ℕ) (rows : List ℕ) → kept sources tests (set choice entry row) entry rows ≡ kept sources tests choice entry rows
  kept_base row [] = refl
  kept_base row (r ∷ rs) =
      ap (λ (k : List ℕ). if pass_all sources k tests then k ∷ kept sources tests (set choice entry row) entry rs else kept sources tests (set choice entry row) entry rs) (set-set choice entry row r)
      ∙ ap (λ (ks : List (List ℕ)). if pass_all sources (set choice entry r) tests then set choice entry r ∷ ks else ks) (kept_base row rs)

  -- the next row, with which no comparison is false
  pub kept_yes : (rows : List ℕ) (i : ℕ) (grown : List (List ℕ)) → i < length rows → pass_all sources (set choice entry (get_or rows i 0)) tests ≡ true
      → (grown ++ set choice entry (get_or rows i 0) ∷ []) ++ kept sources tests (set choice entry (get_or rows i 0)) entry (drop (i + 1) rows) ≡ grown ++ kept sources tests choice entry (drop i rows)
  kept_yes rows i grown lt e =
      append_assoc grown (set choice entry (get_or rows i 0) ∷ []) (kept sources tests (set choice entry (get_or rows i 0)) entry (drop (i + 1) rows))
      ∙ ap (λ (ks : List (List ℕ)). grown ++ ks) (
      ap (λ (ks : List (List ℕ)). set choice entry (get_or rows i 0) ∷ ks) (kept_base (get_or rows i 0) (drop (i + 1) rows))
      ∙ sym (cond-true (pass_all sources (set choice entry (get_or rows i 0)) tests) (set choice entry (get_or rows i 0) ∷ kept sources tests choice entry (drop (i + 1) rows)) (kept sources tests choice entry (drop (i + 1) rows)) e)
      ∙ ap (λ (rs : List ℕ). kept sources tests choice entry rs) (sym (drop_more rows i 0 lt)))

  -- the next row, with which one is
  pub kept_no : (rows : List ℕ) (i : ℕ) (grown : List (List ℕ)) → i < length rows → pass_all sources (set choice entry (get_or rows i 0)) tests ≡ false
      → grown ++ kept sources tests (set choice entry (get_or rows i 0)) entry (drop (i + 1) rows) ≡ grown ++ kept sources tests choice entry (drop i rows)
  kept_no rows i grown lt e =
      ap (λ (ks : List (List ℕ)). grown ++ ks) (
      kept_base (get_or rows i 0) (drop (i + 1) rows)
      ∙ sym (cond-false (pass_all sources (set choice entry (get_or rows i 0)) tests) (set choice entry (get_or rows i 0) ∷ kept sources tests choice entry (drop (i + 1) rows)) (kept sources tests choice entry (drop (i + 1) rows)) e)
      ∙ ap (λ (rs : List ℕ). kept sources tests choice entry rs) (sym (drop_more rows i 0 lt)))

back : (c : List ℕ) (entry : ℕ) → get_or c entry 0 ≡ 0 → set c entry 0 ≡ c
back c entry z = ap (λ (k : ℕ). set c entry k) (sym z) ∙ set-get_or c entry 0

same_base : (a b : List ℕ) (entry r s : ℕ) → get_or a entry 0 ≡ 0 → get_or b entry 0 ≡ 0 → set a entry r ≡ set b entry s → a ≡ b
same_base a b entry r s za zb h =
    sym (set-set a entry r 0 ∙ back a entry za) ∙ ap (λ (k : List ℕ). set k entry 0) h ∙ (set-set b entry s 0 ∙ back b entry zb)

module _ (sources : List (List Row)) (tests : List Test) (entry : ℕ) (rows : List ℕ) where
  -- no choice gives none
  pub grown_none : AreGrown sources tests entry rows [] []
  grown_none = record { once = tt; exact = λ x. (λ i. absurd i, λ w. absurd w.base_in) }

  module _ (before : List (List ℕ)) (choice found : List ℕ) (grown : List (List ℕ)) (g : AreGrown sources tests entry rows before grown) (o : AreOffered sources tests entry rows choice found) where
    of_front : (x : List ℕ) → In x grown → IsGrownOf sources tests entry rows (before ++ choice ∷ []) x
    of_front x i =
        let w = (g.exact x).0 i in
        record { base = w.base; row = w.row; base_in = append_left w.base before (choice ∷ []) w.base_in; row_in = w.row_in; is = w.is; passes = w.passes }

    of_last : (x : List ℕ) → In x (kept sources tests choice entry found) → IsGrownOf sources tests entry rows (before ++ choice ∷ []) x
    of_last x i =
        let k = in_kept sources tests choice entry found x i in
        record { base = choice; row = k.row; base_in = append_right choice before (choice ∷ []) (inl refl); row_in = o.within k.row k.row_in; is = k.is; passes = k.passes }

    to_last : (x : List ℕ) (row : ℕ) → In row rows → x ≡ set choice entry row → pass_all sources x tests ≡ true → In x (kept sources tests choice entry found)
    to_last x row i e p =
        let q : pass_all sources (set choice entry row) tests ≡ true = subst (λ (k : List ℕ). pass_all sources k tests ≡ true) e p in
        subst (λ (k : List ℕ). In k (kept sources tests choice entry found)) (sym e) (kept_in sources tests choice entry found row (o.all row i q) q)

    to_grown : (x : List ℕ) → IsGrownOf sources tests entry rows (before ++ choice ∷ []) x → In x (grown ++ kept sources tests choice entry found)
    to_grown x w = elim (in_append w.base before (choice ∷ []) w.base_in) [
      | inl i ↦ append_left x grown (kept sources tests choice entry found) ((g.exact x).1 (record { base = w.base; row = w.row; base_in = i; row_in = w.row_in; is = w.is; passes = w.passes }))
      | inr j ↦ elim j [
        | inl q ↦ append_right x grown (kept sources tests choice entry found) (to_last x w.row w.row_in (w.is ∙ ap (λ (k : List ℕ). set k entry w.row) q) w.passes)
        | inr n ↦ absurd n
      ]
    ]

    -- one choice more, with the rows that are offered to it
    pub grown_more : ((c : List ℕ) → In c before → get_or c entry 0 ≡ 0) → get_or choice entry 0 ≡ 0 → entry < length choice → (In choice before → ⊥) → AreGrown sources tests entry rows (before ++ choice ∷ []) (grown ++ kept sources tests choice entry found)
    grown_more zeros zero_here lt new = record {
      once = once_append grown (kept sources tests choice entry found) g.once (kept_once sources tests choice entry found lt o.once) (λ x i j.
          let w = (g.exact x).0 i in
          let k = in_kept sources tests choice entry found x j in
          let same : w.base ≡ choice = same_base w.base choice entry w.row k.row (zeros w.base w.base_in) zero_here (sym w.is ∙ k.is) in
          new (subst (λ (c : List ℕ). In c before) same w.base_in));
      exact = λ x. (λ i. elim (in_append x grown (kept sources tests choice entry found) i) [ inl a ↦ of_front x a | inr b ↦ of_last x b ], to_grown x);
    }
