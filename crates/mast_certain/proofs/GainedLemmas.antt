-- Things that are put behind others, and what is said of them.
use Rattle.std.proofs.Common.{◌≡◌, ◌↔◌, ◌⊎◌, ℕ, ◌+◌, ◌<◌, ◌≤◌, List, [], ◌∷◌, ◌++◌, length, get_or, take, inl, inr, refl, sym, subst}
use Rattle.std.proofs.lemmas.List.{take_all, take_more}
use Rattle.mast_cq.specs.Queries.{In}
use Rattle.mast_cq.proofs.ListLemmas.{append_left, append_right, in_append}
use Rattle.mast_terms.specs.declared.term.Term.{Term}
use Rattle.mast_relations.specs.Matches.{In as HasIn}
use Rattle.mast_relations.proofs.ListLemmas.{append_left as has_left, append_right as has_right, in_append as has_append}
use Rattle.mast_join.specs.Answers.{AreNumbersOf, Extended}
use Rattle.mast_certain.specs.inside.Found.{HasGained, HasRow}
use Rattle.mast_certain.proofs.NumberLemmas.{things_same}

module _ {X : Type 0} where
  -- nothing is put yet
  pub gains_none : (P : X → Type 0) (old : List X) → ((x : X) → P x → ⊥) → HasGained P old old
  gains_none P old none x = (λ i. inl i, λ h. elim h [ inl i ↦ i | inr p ↦ absurd (none x p) ])

  -- one thing is, which is all that is new
  pub gains_one : (P Q : X → Type 0) (old now new : List X) (thing : X) → HasGained P old now → new ≡ now ++ thing ∷ []
      → ((x : X) → Q x ↔ (P x ⊎ (x ≡ thing))) → HasGained Q old new
  gains_one P Q old now new thing g is more x = (
    λ i. elim (in_append x now (thing ∷ []) (subst (In x) is i)) [
      | inl j ↦ elim ((g x).0 j) [ inl k ↦ inl k | inr p ↦ inr ((more x).1 (inl p)) ]
      | inr (inl e) ↦ inr ((more x).1 (inr e))
      | inr (inr none) ↦ absurd none
    ],
    λ h. subst (In x) (sym is) (elim h [
      | inl i ↦ append_left x now (thing ∷ []) ((g x).1 (inl i))
      | inr q ↦ elim ((more x).0 q) [ inl p ↦ append_left x now (thing ∷ []) ((g x).1 (inr p)) | inr e ↦ append_right x now (thing ∷ []) (inl e) ]
    ]),
  )

  -- several, and then others
  pub gains_then : (P Q R : X → Type 0) (old now new : List X) → HasGained P old now → HasGained Q now new → ((x : X) → R x ↔ (P x ⊎ Q x)) → HasGained R old new
  gains_then P Q R old now new g h more x = (
    λ i. elim ((h x).0 i) [
      | inl j ↦ elim ((g x).0 j) [ inl k ↦ inl k | inr p ↦ inr ((more x).1 (inl p)) ]
      | inr q ↦ inr ((more x).1 (inr q))
    ],
    λ k. elim k [
      | inl i ↦ (h x).1 (inl ((g x).1 (inl i)))
      | inr r ↦ elim ((more x).0 r) [ inl p ↦ (h x).1 (inl ((g x).1 (inr p))) | inr q ↦ (h x).1 (inr q) ]
    ],
  )

  -- said in other words
  pub gains_same : (P Q : X → Type 0) (old new : List X) → HasGained P old new → ((x : X) → P x ↔ Q x) → HasGained Q old new
  gains_same P Q old new g same x = (
    λ i. elim ((g x).0 i) [ inl j ↦ inl j | inr p ↦ inr ((same x).0 p) ],
    λ h. elim h [ inl j ↦ (g x).1 (inl j) | inr q ↦ (g x).1 (inr ((same x).1 q)) ],
  )

-- a row of one list more
pub row_more : (list : List (List ℕ)) (number : ℕ) (row : List ℕ) → number < length list
    → HasIn row (take (number + 1) list) ↔ (HasIn row (take number list) ⊎ (row ≡ get_or list number []))
row_more list number row lt =
    let is = take_more list number [] lt in (
      λ i. elim (has_append row (take number list) (get_or list number [] ∷ []) (subst (HasIn row) is i)) [ inl j ↦ inl j | inr (inl e) ↦ inr e | inr (inr none) ↦ absurd none ],
      λ h. subst (HasIn row) (sym is) (elim h [
        | inl i ↦ has_left row (take number list) (get_or list number [] ∷ []) i
        | inr e ↦ has_right row (take number list) (get_or list number [] ∷ []) (inl e)
      ]),
    )

-- the tuple of one row more
pub tuple_more : (e : Extended) (list : List (List ℕ)) (number : ℕ) (tuple : List Term) → number < length list → AreNumbersOf e.numbered.terms (get_or list number []) tuple
    → (x : List Term) → HasRow e (λ row. HasIn row (take (number + 1) list)) x ↔ (HasRow e (λ row. HasIn row (take number list)) x ⊎ (x ≡ tuple))
tuple_more e list number tuple lt are x = (
  λ h. elim ((row_more list number h.row lt).0 h.has) [
    | inl i ↦ inl (record { row = h.row; has = i; numbers = h.numbers })
    | inr same ↦ inr (things_same e.numbered.terms (get_or list number []) x tuple (subst (λ (r : List ℕ). AreNumbersOf e.numbered.terms r x) same h.numbers) are)
  ],
  λ h. elim h [
    | inl r ↦ record { row = r.row; has = (row_more list number r.row lt).1 (inl r.has); numbers = r.numbers }
    | inr same ↦ record {
      row = get_or list number [];
      has = (row_more list number (get_or list number []) lt).1 (inr refl);
      numbers = subst (λ (k : List Term). AreNumbersOf e.numbered.terms (get_or list number []) k) (sym same) are;
    }
  ],
)

-- no row, no tuple
pub tuple_none : (e : Extended) (list : List (List ℕ)) (x : List Term) → HasRow e (λ row. HasIn row (take 0 list)) x → ⊥
tuple_none e list x h = absurd h.has

-- all rows
pub tuple_all : (e : Extended) (list : List (List ℕ)) (number : ℕ) → length list ≤ number → (x : List Term)
    → HasRow e (λ row. HasIn row (take number list)) x ↔ HasRow e (λ row. HasIn row list) x
tuple_all e list number le x =
    let same = take_all number list le in (
      λ h. record { row = h.row; has = subst (HasIn h.row) same h.has; numbers = h.numbers },
      λ h. record { row = h.row; has = subst (HasIn h.row) (sym same) h.has; numbers = h.numbers },
    )
