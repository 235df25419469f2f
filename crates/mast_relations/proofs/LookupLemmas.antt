-- Rows that agree, looked up.
use Rattle.std.proofs.Common.{◌≡◌, ℕ, zero, suc, ◌+◌, ◌-◌, ◌<◌, ◌≤◌, List, [], ◌∷◌, length, get_or, set, inl, inr, refl, sym, ap, subst, ◌∙◌, arith}
use Rattle.std.proofs.lemmas.Bool.{cases_eq, cases_lt}
use Rattle.std.proofs.Math.ListN.{get_or-map}
use Rattle.mast_relations.specs.Lookups.{AgreesAt, CanAgreeBy, CanLookUp, IsLastOf, rows_in}
use Rattle.mast_relations.specs.Matches.{Rows, nothing}
use Rattle.mast_relations.specs.Plans.{none, picked}
use Rattle.mast_relations.specs.Stores.{Stored, contents}
use Rattle.mast_relations.specs.inside.Indices.{Agrees, IsIndexAt}
use Rattle.mast_relations.specs.inside.Lasts.{IsLast}

-- the rows of a relation of a number, as they are kept
pub kept_rows : (stored : List Stored) (relation : ℕ) → get_or (contents stored) relation nothing ≡ (get_or stored relation none).rows
kept_rows stored relation = get_or-map (λ (r : Stored). r.rows) stored relation none

-- the contents stay where one relation keeps its rows
pub set_contents : (stored : List Stored) (k : ℕ) (new : Stored) → k < length stored → new.rows ≡ (get_or stored k none).rows → contents (set stored k new) ≡ contents stored
set_contents [] k new lt e = absurd (omega arith)
set_contents (s ∷ ss) zero new lt e = ap (λ (r : Rows). r ∷ contents ss) e
set_contents (s ∷ ss) (suc k) new lt e = ap (λ (l : List Rows). s.rows ∷ l) (set_contents ss k new (omega arith) e)

-- what an index finds is the last that agrees
pub found_last : (stored : Stored) (index : ℕ) (columns values places : List ℕ) (end place : ℕ) → IsIndexAt stored columns index → IsLast (Agrees stored index values places) (Agrees stored index values places) end place
    → IsLastOf (AgreesAt stored.rows.list columns values places) end place
found_last stored index columns values places end place at last =
    let l : IsLast (λ p. picked (get_or stored.rows.list p []) columns ≡ picked values places) (λ p. picked (get_or stored.rows.list p []) columns ≡ picked values places) end place =
    subst (λ (k : List ℕ). IsLast (λ p. picked (get_or stored.rows.list p []) k ≡ picked values places) (λ p. picked (get_or stored.rows.list p []) k ≡ picked values places) end place) at.is last in
    record { within = l.within; here = l.here; none = l.none }

-- a row that agrees ends a scan
pub scan_ends : (Here : ℕ → Type 0) (end place : ℕ) → place ≤ end → 0 < place → ((later : ℕ) → place ≤ later → later < end → Here later → ⊥) → Here (place - 1) → IsLastOf Here end place
scan_ends Here end place within some none here = record {
  within = within;
  here = λ last e. subst Here (omega (arith, e, some)) here;
  none = none;
}

-- no row agrees
pub scan_none : (Here : ℕ → Type 0) (end place : ℕ) → place ≡ 0 → ((later : ℕ) → place ≤ later → later < end → Here later → ⊥) → IsLastOf Here end place
scan_none Here end place z none = record {
  within = omega (arith, z);
  here = λ last e. absurd (omega (arith, z, e));
  none = none;
}

-- one row further
pub scan_on : (Here : ℕ → Type 0) (end place : ℕ) → 0 < place → ((later : ℕ) → place ≤ later → later < end → Here later → ⊥) → (Here (place - 1) → ⊥) → (later : ℕ) → place - 1 ≤ later → later < end → Here later → ⊥
scan_on Here end place some none out later from below h = elim (cases_lt later place) [
  | inr ge ↦ none later ge below h
  | inl lt ↦ out (subst Here (omega (arith, from, lt, some)) h)
]
