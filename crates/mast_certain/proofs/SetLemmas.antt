-- Rows that are put into sets, and the rows of several sets.
use Rattle.std.proofs.Common.{◌≡◌, ◌↔◌, ◌⊎◌, ℕ, zero, suc, ◌+◌, ◌<◌, ◌≤◌, Bool, true, false, List, [], ◌∷◌, ◌++◌, length, get_or, take, inl, inr, refl, sym, ap, subst, ◌∙◌, arith}
use Rattle.std.specs.Prelude.{Result, Ok, Err}
use Rattle.std.proofs.lemmas.Bool.{cases_eq}
use Rattle.std.proofs.lemmas.List.{take_all, take_more}
use Rattle.mast_relations.specs.Matches.{In, Rows}
use Rattle.mast_relations.specs.Stores.{HasAll, HasOnlyGained, IsInserted}
use Rattle.mast_relations.proofs.ListLemmas.{append_left, append_right, in_append, in_get, stands_at}
use Rattle.mast_certain.specs.inside.Found.{InSome}

-- ---- one set into another

-- a row is put, or it is there already
module _ {E : Type 0} (P : List ℕ → Type 0) (old now new : Rows) (row : List ℕ) where
  pub gained_row : (result : Result Bool E) → HasOnlyGained P old now → P row → IsInserted now row result new → HasOnlyGained P old new
  gained_row (Ok true) g p i = record {
    width = ap (λ (r : Rows). r.width) i.1 ∙ g.width;
    kept = λ tuple k. subst (λ (r : Rows). In tuple r.list) (sym i.1) (append_left tuple now.list (row ∷ []) (g.kept tuple k));
    within = λ tuple k. elim (in_append tuple now.list (row ∷ []) (subst (λ (r : Rows). In tuple r.list) i.1 k)) [
      | inl j ↦ g.within tuple j
      | inr (inl e) ↦ inr (subst P (sym e) p)
      | inr (inr none) ↦ absurd none
    ];
  }
  gained_row (Ok false) g p i = subst (HasOnlyGained P old) (sym i.1) g
  gained_row (Err e) g p i = subst (HasOnlyGained P old) (sym i) g

module _ (E : Type 0) (now new : Rows) (row : List ℕ) where
  -- it is there then, and what was there is
  pub there_row : (b : Bool) → IsInserted {E = E} now row (Ok b) new → In row new.list
  there_row true i = subst (λ (r : Rows). In row r.list) (sym i.1) (append_right row now.list (row ∷ []) (inl refl))
  there_row false i = subst (λ (r : Rows). In row r.list) (sym i.1) i.0

  pub still_row : (b : Bool) (other : List ℕ) → IsInserted {E = E} now row (Ok b) new → In other now.list → In other new.list
  still_row true other i k = subst (λ (r : Rows). In other r.list) (sym i.1) (append_left other now.list (row ∷ []) k)
  still_row false other i k = subst (λ (r : Rows). In other r.list) (sym i.1) k

-- no row is put yet
pub gained_none : (P : List ℕ → Type 0) (old : Rows) → HasOnlyGained P old old
gained_none P old = record { width = refl; kept = λ tuple k. k; within = λ tuple k. inl k }

-- the rows so far are there
abbrev pub AreThere : List (List ℕ) → ℕ → Rows → Type 0
AreThere list number new = (k : ℕ) → k < number → In (get_or list k []) new.list

-- one row more is there
pub there_more : (E : Type 0) (list : List (List ℕ)) (number : ℕ) (now new : Rows) (row : List ℕ) (b : Bool) → AreThere list number now → row ≡ get_or list number [] → IsInserted {E = E} now row (Ok b) new
    → AreThere list (number + 1) new
there_more E list number now new row b there is i k lt = elim (cases_eq k number) [
  | inl e ↦ subst (λ (r : List ℕ). In r new.list) (is ∙ ap (λ (n : ℕ). get_or list n []) (sym e)) (there_row E now new row b i)
  | inr ne ↦ still_row E now new row b (get_or list k []) i (there k (omega (arith, lt, ne)))
]

-- and all at the end
pub there_all : (list : List (List ℕ)) (number : ℕ) (new : Rows) → length list ≤ number → AreThere list number new → HasAll (λ row. In row list) new
there_all list number new le there row i =
    let at = stands_at row list i in
    subst (λ (r : List ℕ). In r new.list) (at.is []) (there at.place (let w = at.within in omega (arith, w, le)))

-- ---- several sets

-- a row of the set at a place is one of some set
pub in_some_at : (sets : List Rows) (number : ℕ) (d : Rows) (row : List ℕ) → number < length sets → In row (get_or sets number d).list → InSome sets row
in_some_at [] number d row lt i = absurd (omega arith)
in_some_at (rows ∷ sets) zero d row lt i = inl i
in_some_at (rows ∷ sets) (suc number) d row lt i = inr (in_some_at sets number d row (omega arith) i)

in_some_append : (sets : List Rows) (rows : Rows) (row : List ℕ) → InSome (sets ++ rows ∷ []) row ↔ (InSome sets row ⊎ In row rows.list)
in_some_append [] rows row = (λ h. elim h [ inl i ↦ inr i | inr none ↦ absurd none ], λ h. elim h [ inl none ↦ absurd none | inr i ↦ inl i ])
in_some_append (first ∷ sets) rows row =
    let more = in_some_append sets rows row in (
      λ h. elim h [ inl i ↦ inl (inl i) | inr j ↦ elim (more.0 j) [ inl k ↦ inl (inr k) | inr k ↦ inr k ] ],
      λ h. elim h [ inl (inl i) ↦ inl i | inl (inr k) ↦ inr (more.1 (inl k)) | inr k ↦ inr (more.1 (inr k)) ],
    )

-- those of one set more
pub some_more : (sets : List Rows) (number : ℕ) (d : Rows) (row : List ℕ) → number < length sets
    → InSome (take (number + 1) sets) row ↔ (InSome (take number sets) row ⊎ In row (get_or sets number d).list)
some_more sets number d row lt =
    subst (λ (k : List Rows). InSome k row ↔ (InSome (take number sets) row ⊎ In row (get_or sets number d).list)) (sym (take_more sets number d lt))
    (in_some_append (take number sets) (get_or sets number d) row)

-- the union of the sets so far
abbrev pub IsUnionSoFar : List Rows → ℕ → Rows → Type 0
IsUnionSoFar sets number union = (row : List ℕ) → In row union.list ↔ InSome (take number sets) row

-- with one set more
pub union_more : (sets : List Rows) (number : ℕ) (d now new : Rows) → number < length sets → IsUnionSoFar sets number now → HasOnlyGained (λ row. In row (get_or sets number d).list) now new
    → HasAll (λ row. In row (get_or sets number d).list) new → IsUnionSoFar sets (number + 1) new
union_more sets number d now new lt so gained all row =
    let more = some_more sets number d row lt in (
      λ i. more.1 (elim (gained.within row i) [ inl j ↦ inl ((so row).0 j) | inr j ↦ inr j ]),
      λ h. elim (more.0 h) [ inl j ↦ gained.kept row ((so row).1 j) | inr j ↦ all row j ],
    )

-- and the union of all at the end
pub union_all : (sets : List Rows) (number : ℕ) (union : Rows) → length sets ≤ number → IsUnionSoFar sets number union → (row : List ℕ) → In row union.list ↔ InSome sets row
union_all sets number union le so row = subst (λ (k : List Rows). In row union.list ↔ InSome k row) (take_all number sets le) (so row)

-- the row at a place is one of the list
pub row_in : (list : List (List ℕ)) (number long : ℕ) (row : List ℕ) → row ≡ get_or list number [] → long ≡ length list → number < long → In row list
row_in list number long row is len lt = subst (λ (r : List ℕ). In r list) (sym is) (in_get list number [] (omega (arith, len, lt)))

-- the same of a set that was read
pub in_some_here : (sets : List Rows) (number : ℕ) (rows : Rows) (row : List ℕ) → number < length sets → rows ≡ get_or sets number rows → In row rows.list → InSome sets row
in_some_here sets number rows row lt is i = in_some_at sets number rows row lt (subst (λ (r : Rows). In row r.list) is i)

-- the union of one set more, which was read
pub union_here : (sets : List Rows) (number : ℕ) (rows now new : Rows) → number < length sets → rows ≡ get_or sets number rows → IsUnionSoFar sets number now → HasOnlyGained (λ row. In row rows.list) now new
    → HasAll (λ row. In row rows.list) new → IsUnionSoFar sets (number + 1) new
union_here sets number rows now new lt is so gained all =
    union_more sets number rows now new lt so (subst (λ (r : Rows). HasOnlyGained (λ row. In row r.list) now new) is gained) (subst (λ (r : Rows). HasAll (λ row. In row r.list) new) is all)
