-- A header and the names that it must have, one column after another.
use Rattle.std.proofs.Common.{◌≡◌, inl, inr, ℕ, ◌+◌, ◌<◌, ◌≤◌, [], ◌∷◌, length, get_or, take, drop, refl, arith}
use Rattle.std.proofs.lemmas.List.{take_more_same, drop_more, drop_all}
use Rattle.mast_tables.specs.Breach.{DiffersAt}
use Rattle.mast_tables.specs.Records.{Record}

-- so many cells of the header are the names: what is left of both gives the whole
pub record Agrees (names fields : Record) (i : ℕ) : Type 0 where
  pub short : i ≤ length fields
  pub same : take i fields ≡ take i names
  pub rest : (column : ℕ) → DiffersAt (i + 1) (drop i names) (drop i fields) column → DiffersAt 1 names fields column

module _ (names fields : Record) (i : ℕ) (a : Agrees names fields i) where
  -- the header ends before the names
  pub differs_end : i < length names → length fields ≤ i → DiffersAt 1 names fields (i + 1)
  differs_end lt le = a.rest (i + 1) (rw (drop_more names i [] lt, drop_all i fields le) refl)

  -- a cell is not the name
  pub differs_here : i < length names → i < length fields → (get_or fields i [] ≡ get_or names i [] → ⊥) → DiffersAt 1 names fields (i + 1)
  differs_here lt within other = a.rest (i + 1) (rw (drop_more names i [] lt, drop_more fields i [] within) (inl (other, refl)))

  -- the names end before the header
  pub differs_after : i ≡ length names → length names < length fields → DiffersAt 1 names fields (i + 1)
  differs_after e lt =
      let none : drop i names ≡ [] = drop_all i names (omega arith) in
      let more : drop i fields ≡ get_or fields i [] ∷ drop (i + 1) fields = drop_more fields i [] (omega arith) in
      a.rest (i + 1) (rw (none, more) refl)

  pub agrees_more : i < length names → i < length fields → get_or fields i [] ≡ get_or names i [] → Agrees names fields (i + 1)
  agrees_more lt within e = record {
    short = omega arith;
    same = take_more_same fields names i [] within lt a.same e;
    rest = λ column h. a.rest column (rw (drop_more names i [] lt, drop_more fields i [] within) (inr (e, h)));
  }
