-- A choice that has rows of another for fewer entries passes what the other passes.
use Rattle.std.proofs.Common.{◌≡◌, ℕ, zero, suc, ◌-◌, ◌<◌, Bool, true, List, [], ◌∷◌, length, get_or, set, replicate, ◌⊎◌, inl, inr, refl, sym, ap, subst, ◌∙◌}
use Rattle.std.specs.Prelude.{◌||◌, nat_eq, Option, None}
use Rattle.std.proofs.lemmas.List.{get_or-set_same, get_or-set_other}
use Rattle.std.proofs.lemmas.Bool.{cases_eq, eq-eqb, or_left, or_right, and_parts, and_from}
use Rattle.mast_terms.specs.declared.value.Value.{Value}
use Rattle.mast_cq.specs.Queries.{In}
use Rattle.mast_tables.specs.Rows.{Row}
use Rattle.mast_sql.specs.declared.query.Compare.{Compare}
use Rattle.mast_canon.specs.Choices.{compare}
use Rattle.mast_join.specs.declared.comparisons.Side.{Side}
use Rattle.mast_join.specs.declared.comparisons.Side.TheVariants as side
use Rattle.mast_join.specs.declared.comparisons.Test.{Test}
use Rattle.mast_join.specs.inside.Partial.{side_value, is_open, passes, pass_all}

-- the first has the rows of the second for some entries, and none for the others
pub record IsFewer (few all : List ℕ) : Type 0 where
  pub agrees : (entry : ℕ) → (get_or few entry 0 ≡ 0) ⊎ (get_or few entry 0 ≡ get_or all entry 0)

side_fewer : (sources : List (List Row)) (d c : List ℕ) (s : Side) → IsFewer d c → (is_open d s ≡ true) ⊎ ((is_open c s ≡ is_open d s) × (side_value sources c s ≡ side_value sources d s))
side_fewer sources d c (side.Cell entry column) f = elim (f.agrees entry) [
  | inl z ↦ inl (eq-eqb (get_or d entry 0) 0 z)
  | inr e ↦ inr (ap (λ (k : ℕ). nat_eq k 0) (sym e), ap (λ (k : ℕ). get_or (get_or (get_or sources entry []) (k - 1) []) column None) (sym e))
]
side_fewer sources d c (side.Constant value) f = inr (refl, refl)
side_fewer sources d c side.Nothing f = inr (refl, refl)

same_passes : (op : Compare) (cl cr dl dr : Bool) (cx cy dx dy : Option Value) → cl ≡ dl → cr ≡ dr → cx ≡ dx → cy ≡ dy → (cl || (cr || compare op cx cy)) ≡ true → (dl || (dr || compare op dx dy)) ≡ true
same_passes op cl cr dl dr cx cy dx dy a b x y h = rw (← a, ← b, ← x, ← y) h

pub passes_fewer : (sources : List (List Row)) (d c : List ℕ) (t : Test) → IsFewer d c → passes sources c t ≡ true → passes sources d t ≡ true
passes_fewer sources d c t f h = elim (side_fewer sources d c t.left f) [
  | inl z ↦ or_left (is_open d t.left) (is_open d t.right || compare t.op (side_value sources d t.left) (side_value sources d t.right)) z
  | inr a ↦ elim (side_fewer sources d c t.right f) [
    | inl z ↦ or_right (is_open d t.left) (is_open d t.right || compare t.op (side_value sources d t.left) (side_value sources d t.right)) (or_left (is_open d t.right) (compare t.op (side_value sources d t.left) (side_value sources d t.right)) z)
    | inr b ↦ same_passes t.op (is_open c t.left) (is_open c t.right) (is_open d t.left) (is_open d t.right) (side_value sources c t.left) (side_value sources c t.right) (side_value sources d t.left) (side_value sources d t.right) a.0 b.0 a.1 b.1 h
  ]
]

-- no comparison is false of the one where none is of the other
pub pass_all_fewer : (sources : List (List Row)) (d c : List ℕ) (ts : List Test) → IsFewer d c → pass_all sources c ts ≡ true → pass_all sources d ts ≡ true
pass_all_fewer sources d c [] f h = refl
pass_all_fewer sources d c (t ∷ ts) f h =
    let p = and_parts (passes sources c t) (pass_all sources c ts) h in
    and_from (passes sources d t) (pass_all sources d ts) (passes_fewer sources d c t f p.0) (pass_all_fewer sources d c ts f p.1)

-- where no comparison is false, a certain one is not
pub passes_each : (sources : List (List Row)) (c : List ℕ) (t : Test) (ts : List Test) → In t ts → pass_all sources c ts ≡ true → passes sources c t ≡ true
passes_each sources c t [] i h = absurd i
passes_each sources c t (u ∷ ts) (inl e) h = subst (λ (k : Test). passes sources c k ≡ true) (sym e) (and_parts (passes sources c u) (pass_all sources c ts) h).0
passes_each sources c t (u ∷ ts) (inr i) h = passes_each sources c t ts i (and_parts (passes sources c u) (pass_all sources c ts) h).1

-- a choice without rows has none
pub nothing_at : (n k : ℕ) → get_or (replicate n zero) k zero ≡ zero
nothing_at zero k = refl
nothing_at (suc n) zero = refl
nothing_at (suc n) (suc k) = nothing_at n k

-- a row at one entry alone
pub fewer_alone : (nothing choice : List ℕ) (entry : ℕ) → ((k : ℕ) → get_or nothing k 0 ≡ 0) → entry < length nothing → IsFewer (set nothing entry (get_or choice entry 0)) choice
fewer_alone nothing choice entry none lt = record {
  agrees = λ k. elim (cases_eq k entry) [
    | inl q ↦ inr (ap (λ (i : ℕ). get_or (set nothing entry (get_or choice entry 0)) i 0) q ∙ get_or-set_same nothing entry (get_or choice entry 0) 0 lt ∙ ap (λ (i : ℕ). get_or choice i 0) (sym q))
    | inr n ↦ inl (get_or-set_other nothing entry k (get_or choice entry 0) 0 n ∙ none k)
  ];
}

-- all rows but that at one entry
pub fewer_open : (choice : List ℕ) (entry : ℕ) → entry < length choice → IsFewer (set choice entry 0) choice
fewer_open choice entry lt = record {
  agrees = λ k. elim (cases_eq k entry) [
    | inl q ↦ inl (ap (λ (i : ℕ). get_or (set choice entry 0) i 0) q ∙ get_or-set_same choice entry 0 0 lt)
    | inr n ↦ inr (get_or-set_other choice entry k 0 0 n)
  ];
}
