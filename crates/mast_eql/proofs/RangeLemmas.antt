-- The range of `some` does not matter in the formula of a body, as long as it has the terms of the rows that K has.
use Rattle.std.proofs.Common.{◌≡◌, ◌↔◌, ℕ, zero, suc, List, [], ◌∷◌, map, get_or, slice_get, ◌⊎◌, inl, inr, refl, sym, ap, subst, ◌∙◌}
use Rattle.std.specs.Prelude.{Option, Some, None}
use Rattle.std.specs.List.{AllByRecursion, flat_map}
use Rattle.std.proofs.lemmas.Option.{none-some, same_Some}
use Rattle.mast_terms.specs.declared.term.Term.{Term}
use Rattle.mast_sparsql.specs.declared.query.ColumnRef.{ColumnRef}
use Rattle.mast_sparsql.specs.declared.query.Side.{Side}
use Rattle.mast_cq.specs.Queries.{In}
use Rattle.mast_cq.proofs.ListLemmas.{append_left, append_right, in_each}
use Rattle.mast_sparsql.specs.declared.query.Body.{Body}
use Rattle.mast_sparsql.specs.declared.query.Body.TheFolds.{fold-roll-Body, fold-roll-Condition, ind-Body, map-Body, map-Condition}
use Rattle.mast_sparsql.specs.declared.query.Body.TheOpen.{Body-F, Condition-F}
use Rattle.mast_sparsql.specs.declared.query.Body.TheViews.{roll-Body, roll-Condition}
use Rattle.mast_sparsql.specs.declared.query.Condition.{Condition}
use Rattle.mast_eql.specs.Evaluated.{IsListed, IsTermOf, Satisfies, SatisfiesAnywhere, terms_in, terms_of}
use Rattle.mast_eql.specs.Formulas.{Formula, Always, Known, Equals, Items, Not, And, Or, SomeColumns, SomeAnswer, body_formula, condition_formula, formula_of, condition_of}
use Rattle.mast_eql.specs.Satisfaction.{column_in, side_in, AreKnown, Sat}

module _ (D E : Term → Type 0) (K : ℕ → List Term → Type 0) (wide : (table : ℕ) (row : List Term) → K table row → AllByRecursion D row × AllByRecursion E row) where
  -- the terms of rows are in both ranges
  abbrev pub AreIn : List (List Term) → Type 0
  AreIn rows = AllByRecursion (AllByRecursion D) rows × AllByRecursion (AllByRecursion E) rows

  -- so are those of all chosen rows
  abbrev pub AreAllIn : List (List (List Term)) → Type 0
  AreAllIn froms = AllByRecursion AreIn froms

  -- a condition is satisfied alike over both ranges
  abbrev pub IsFree : Formula → Type 0
  IsFree a = (froms : List (List (List Term))) → AreAllIn froms → (answer : List Term) → Sat D K a froms answer ↔ Sat E K a froms answer

  -- and the formula of a body by terms of both
  abbrev pub IsSafe : Formula → Type 0
  IsSafe a = IsFree a × ((froms : List (List (List Term))) → AreAllIn froms → (answer : List Term) → Sat D K a froms answer → AllByRecursion D answer × AllByRecursion E answer)

  known_in : (tables : List ℕ) (rows : List (List Term)) → AreKnown K tables rows → AreIn rows
  known_in [] [] k = (tt, tt)
  known_in [] (r ∷ rs) k = absurd k
  known_in (t ∷ ts) [] k = absurd k
  known_in (t ∷ ts) (r ∷ rs) k = let one = wide t r k.0 in let rest = known_in ts rs k.1 in ((one.0, rest.0), (one.1, rest.1))

  cell_in : (P : Term → Type 0) (row : List Term) (column : ℕ) (t : Term) → AllByRecursion P row → slice_get row column ≡ Some t → P t
  cell_in P [] column t all e = absurd (none-some t e)
  cell_in P (x ∷ xs) zero t all e = subst P (same_Some x t e) all.0
  cell_in P (x ∷ xs) (suc column) t all e = cell_in P xs column t all.1 e

  row_in : (P : Term → Type 0) (rows : List (List Term)) (entry : ℕ) → AllByRecursion (AllByRecursion P) rows → AllByRecursion P (get_or rows entry [])
  row_in P [] entry all = tt
  row_in P (r ∷ rs) zero all = all.0
  row_in P (r ∷ rs) (suc entry) all = row_in P rs entry all.1

  from_in : (froms : List (List (List Term))) (scope : ℕ) → AreAllIn froms → AreIn (get_or froms scope [])
  from_in [] scope all = (tt, tt)
  from_in (f ∷ fs) zero all = all.0
  from_in (f ∷ fs) (suc scope) all = from_in fs scope all.1

  column_both : (froms : List (List (List Term))) (c : ColumnRef) (t : Term) → AreAllIn froms → column_in froms c ≡ Some t → D t × E t
  column_both froms c t all e =
      let from = from_in froms c.scope all in (
        cell_in D (get_or (get_or froms c.scope []) c.entry []) c.column t (row_in D (get_or froms c.scope []) c.entry from.0) e,
        cell_in E (get_or (get_or froms c.scope []) c.entry []) c.column t (row_in E (get_or froms c.scope []) c.entry from.1) e,
      )

  items_in : (froms : List (List (List Term))) (items : List ColumnRef) (answer : List Term) → AreAllIn froms → map (column_in froms) items ≡ map Some answer → AllByRecursion D answer × AllByRecursion E answer
  items_in froms items [] all e = (tt, tt)
  items_in froms [] (t ∷ ts) all e = absurd (cc)
  items_in froms (c ∷ cs) (t ∷ ts) all e =
      let first : column_in froms c ≡ Some t = cc in
      let rest : map (column_in froms) cs ≡ map Some ts = cc in
      let one = column_both froms c t all first in
      let more = items_in froms cs ts all rest in
      ((one.0, more.0), (one.1, more.1))

  -- the formula of a select
  pub select_safe : (entries : List ℕ) (items : List ColumnRef) (c : Formula) → IsFree c → IsSafe (SomeColumns (And (Known entries) (And c (Items items))))
  select_safe entries items c free = (
    λ froms all answer. (
      λ s. let rows = s.0 in let both = known_in entries rows s.2.0 in (rows, both.1, (s.2.0, ((free (rows ∷ froms) (both, all) answer).0 s.2.1.0, s.2.1.1))),
      λ s. let rows = s.0 in let both = known_in entries rows s.2.0 in (rows, both.0, (s.2.0, ((free (rows ∷ froms) (both, all) answer).1 s.2.1.0, s.2.1.1))),
    ),
    λ froms all answer s. items_in (s.0 ∷ froms) items answer (known_in entries s.0 s.2.0, all) s.2.1.1,
  )

  -- of a UNION
  pub union_safe : (a b : Formula) → IsSafe a → IsSafe b → IsSafe (Or a b)
  union_safe a b p q = (
    λ froms all answer. (
      λ s. elim s [ inl x ↦ inl ((p.0 froms all answer).0 x) | inr y ↦ inr ((q.0 froms all answer).0 y) ],
      λ s. elim s [ inl x ↦ inl ((p.0 froms all answer).1 x) | inr y ↦ inr ((q.0 froms all answer).1 y) ],
    ),
    λ froms all answer s. elim s [ inl x ↦ p.1 froms all answer x | inr y ↦ q.1 froms all answer y ],
  )

  -- of an EXCEPT
  pub except_safe : (a b : Formula) → IsSafe a → IsSafe b → IsSafe (And a (Not b))
  except_safe a b p q = (
    λ froms all answer. (
      λ s. ((p.0 froms all answer).0 s.0, λ y. s.1 ((q.0 froms all answer).1 y)),
      λ s. ((p.0 froms all answer).1 s.0, λ y. s.1 ((q.0 froms all answer).0 y)),
    ),
    λ froms all answer s. p.1 froms all answer s.0,
  )

  -- of an INTERSECT
  pub intersect_safe : (a b : Formula) → IsSafe a → IsSafe b → IsSafe (And a b)
  intersect_safe a b p q = (
    λ froms all answer. (
      λ s. ((p.0 froms all answer).0 s.0, (q.0 froms all answer).0 s.1),
      λ s. ((p.0 froms all answer).1 s.0, (q.0 froms all answer).1 s.1),
    ),
    λ froms all answer s. p.1 froms all answer s.0,
  )

  -- of the conditions
  pub always_free : IsFree Always
  always_free froms all answer = (λ s. s, λ s. s)

  pub not_free : (a : Formula) → IsFree a → IsFree (Not a)
  not_free a p froms all answer = (λ s x. s ((p froms all answer).1 x), λ s x. s ((p froms all answer).0 x))

  pub and_free : (a b : Formula) → IsFree a → IsFree b → IsFree (And a b)
  and_free a b p q froms all answer = (
    λ s. ((p froms all answer).0 s.0, (q froms all answer).0 s.1),
    λ s. ((p froms all answer).1 s.0, (q froms all answer).1 s.1),
  )

  pub or_free : (a b : Formula) → IsFree a → IsFree b → IsFree (Or a b)
  or_free a b p q froms all answer = (
    λ s. elim s [ inl x ↦ inl ((p froms all answer).0 x) | inr y ↦ inr ((q froms all answer).0 y) ],
    λ s. elim s [ inl x ↦ inl ((p froms all answer).1 x) | inr y ↦ inr ((q froms all answer).1 y) ],
  )

  -- an EXISTS: a row of a body has terms of both ranges
  pub exists_free : (a : Formula) → IsSafe a → IsFree (SomeAnswer a)
  exists_free a p froms all answer = (
    λ s. (s.0, (p.1 froms all s.0 s.2).1, (p.0 froms all s.0).0 s.2),
    λ s. let x = (p.0 froms all s.0).1 s.2 in (s.0, (p.1 froms all s.0 x).0, x),
  )

  pub equals_free : (left right : Side) → IsFree (Equals left right)
  equals_free left right froms all answer = (λ s. s, λ s. s)

  body_case : (y : Body-F ((b : Body) × IsSafe (formula_of b)) ((c : Condition) × IsFree (condition_of c)))
      → IsSafe (formula_of (roll-Body (map-Body ((b : Body) × IsSafe (formula_of b)) ((c : Condition) × IsFree (condition_of c)) Body Condition (λ e. e.0) (λ e. e.0) y)))
  body_case (Body-F.Select items entries c) =
      subst IsSafe (sym (fold-roll-Body Formula Formula body_formula condition_formula (Body-F.Select items entries c.0))) (select_safe entries items (condition_of c.0) c.1)
  body_case (Body-F.Union a b) =
      subst IsSafe (sym (fold-roll-Body Formula Formula body_formula condition_formula (Body-F.Union a.0 b.0))) (union_safe (formula_of a.0) (formula_of b.0) a.1 b.1)
  body_case (Body-F.Except a b) =
      subst IsSafe (sym (fold-roll-Body Formula Formula body_formula condition_formula (Body-F.Except a.0 b.0))) (except_safe (formula_of a.0) (formula_of b.0) a.1 b.1)
  body_case (Body-F.Intersect a b) =
      subst IsSafe (sym (fold-roll-Body Formula Formula body_formula condition_formula (Body-F.Intersect a.0 b.0))) (intersect_safe (formula_of a.0) (formula_of b.0) a.1 b.1)

  condition_case : (y : Condition-F ((b : Body) × IsSafe (formula_of b)) ((c : Condition) × IsFree (condition_of c)))
      → IsFree (condition_of (roll-Condition (map-Condition ((b : Body) × IsSafe (formula_of b)) ((c : Condition) × IsFree (condition_of c)) Body Condition (λ e. e.0) (λ e. e.0) y)))
  condition_case Condition-F.Always =
      subst IsFree (sym (fold-roll-Condition Formula Formula body_formula condition_formula Condition-F.Always)) always_free
  condition_case (Condition-F.Equal left right) =
      subst IsFree (sym (fold-roll-Condition Formula Formula body_formula condition_formula (Condition-F.Equal left right))) (equals_free left right)
  condition_case (Condition-F.Differ left right) =
      subst IsFree (sym (fold-roll-Condition Formula Formula body_formula condition_formula (Condition-F.Differ left right))) (not_free (Equals left right) (equals_free left right))
  condition_case (Condition-F.Not a) =
      subst IsFree (sym (fold-roll-Condition Formula Formula body_formula condition_formula (Condition-F.Not a.0))) (not_free (condition_of a.0) a.1)
  condition_case (Condition-F.And a b) =
      subst IsFree (sym (fold-roll-Condition Formula Formula body_formula condition_formula (Condition-F.And a.0 b.0))) (and_free (condition_of a.0) (condition_of b.0) a.1 b.1)
  condition_case (Condition-F.Or a b) =
      subst IsFree (sym (fold-roll-Condition Formula Formula body_formula condition_formula (Condition-F.Or a.0 b.0))) (or_free (condition_of a.0) (condition_of b.0) a.1 b.1)
  condition_case (Condition-F.Exists b) =
      subst IsFree (sym (fold-roll-Condition Formula Formula body_formula condition_formula (Condition-F.Exists b.0))) (exists_free (formula_of b.0) b.1)

  -- the formula of each body
  pub body_safe : (b : Body) → IsSafe (formula_of b)
  body_safe = ind-Body (λ b. IsSafe (formula_of b)) (λ c. IsFree (condition_of c))
      (λ x y is. subst (λ (z : Body-F Body Condition). IsSafe (formula_of (roll-Body z))) is (body_case y))
      (λ x y is. subst (λ (z : Condition-F Body Condition). IsFree (condition_of (roll-Condition z))) is (condition_case y))

in_row_terms : (rows : List (List Term)) (row : List Term) (t : Term) → In row rows → In t row → In t (flat_map (λ row. row) rows)
in_row_terms [] row t i j = absurd i
in_row_terms (r ∷ rs) row t (inl e) j = append_left t r (flat_map (λ row. row) rs) (subst (λ (k : List Term). In t k) e j)
in_row_terms (r ∷ rs) row t (inr i) j = append_right t r (flat_map (λ row. row) rs) (in_row_terms rs row t i j)

in_list_terms : (lists : List (List (List Term))) (table : ℕ) (row : List Term) (t : Term) → In row (get_or lists table []) → In t row → In t (terms_in lists)
in_list_terms [] table row t i j = absurd i
in_list_terms (rows ∷ lists) zero row t i j = append_left t (flat_map (λ row. row) rows) (terms_in lists) (in_row_terms rows row t i j)
in_list_terms (rows ∷ lists) (suc table) row t i j = append_right t (flat_map (λ row. row) rows) (terms_in lists) (in_list_terms lists table row t i j)

any_row : (row : List Term) → AllByRecursion (λ (t : Term). Unit {0}) row
any_row [] = tt
any_row (t ∷ ts) = (tt, any_row ts)

listed_wide : (lists : List (List (List Term))) (body : Body) (table : ℕ) (row : List Term) → IsListed lists table row → AllByRecursion (IsTermOf lists body) row × AllByRecursion (λ (t : Term). Unit {0}) row
listed_wide lists body table row i = (
  in_each (IsTermOf lists body) row (λ t j. append_left t (terms_in lists) (terms_of body) (in_list_terms lists table row t i j)),
  any_row row,
)

-- `some` may as well range over all terms
pub any_range : (lists : List (List (List Term))) (body : Body) (tuple : List Term) → Satisfies lists body tuple ↔ SatisfiesAnywhere lists body tuple
any_range lists body tuple =
    (body_safe (IsTermOf lists body) (λ (t : Term). Unit {0}) (IsListed lists) (listed_wide lists body) body).0 [] tt tuple
