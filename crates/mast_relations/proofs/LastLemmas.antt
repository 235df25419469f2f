-- The last of the places before a number at which something holds, and how a walk along a chain finds it.
use Rattle.std.proofs.Common.{◌≡◌, ℕ, suc, ◌+◌, ◌-◌, ◌<◌, ◌≤◌, inl, inr, sym, subst, arith}
use Rattle.std.proofs.lemmas.Bool.{cases_eq, cases_lt}
use Rattle.mast_relations.specs.inside.Lasts.{IsLast}

-- a place where what is sought does not hold is passed, to the last one before it on the chain
pub last_skip : (Key Sought : ℕ → Type 0) (count place next : ℕ) → ((p : ℕ) → p < count → Sought p → Key p) → IsLast Key Sought count (suc place) → (Sought place → ⊥) → IsLast Key Key place next → IsLast Key Sought count next
last_skip Key Sought count place next up a out b =
    let low : suc place ≤ count = a.within in
    let lower : next ≤ place = b.within in
    record {
      within = omega arith;
      here = b.here;
      none = λ later from below h. elim (cases_lt later place) [
        | inl lt ↦ b.none later from lt (up later below h)
        | inr ge ↦ elim (cases_eq later place) [
          | inl e ↦ out (subst Sought e h)
          | inr ne ↦ a.none later (omega (arith, ge, ne)) below h
        ]
      ];
    }

-- the place before a walk's end, where it holds there
pub last_at : (Key Sought : ℕ → Type 0) (count place : ℕ) → IsLast Key Sought count place → 0 < place → Sought (place - 1) → IsLast Sought Sought count place
last_at Key Sought count place a some e = record {
  within = a.within;
  here = λ last q. subst Sought (omega (arith, q, some)) e;
  none = a.none;
}

-- and at its end
pub last_end : (Key Sought : ℕ → Type 0) (count place : ℕ) → IsLast Key Sought count place → place ≡ 0 → IsLast Sought Sought count place
last_end Key Sought count place a z = record {
  within = a.within;
  here = λ last q. absurd (omega (arith, q, z));
  none = a.none;
}

-- a place where it does not hold is passed
pub last_past : (Key Sought : ℕ → Type 0) (count place next : ℕ) → ((p : ℕ) → p < count → Sought p → Key p) → 0 < place → IsLast Key Sought count place → (Sought (place - 1) → ⊥) → IsLast Key Key (place - 1) next → IsLast Key Sought count next
last_past Key Sought count place next up some a out b =
    let one : place ≡ suc (place - 1) = omega arith in
    last_skip Key Sought count (place - 1) next up (subst (λ (k : ℕ). IsLast Key Sought count k) one a) out b

-- where something is sought among fewer places
pub last_weaker : (Key Sought : ℕ → Type 0) (count place : ℕ) → ((p : ℕ) → p < count → Sought p → Key p) → IsLast Key Key count place → IsLast Key Sought count place
last_weaker Key Sought count place up a = record {
  within = a.within;
  here = a.here;
  none = λ later from below h. a.none later from below (up later below h);
}

-- the top place, where it holds
pub last_top : (Key : ℕ → Type 0) (count : ℕ) → Key count → IsLast Key Key (count + 1) (count + 1)
last_top Key count k = record {
  within = omega arith;
  here = λ last e. subst Key (same last e) k;
  none = λ later from below h. absurd (omega (arith, from, below));
}
  where
    same : (last : ℕ) → count + 1 ≡ suc last → count ≡ last
    same last e = omega (arith, e)

-- the top place, where it does not hold
pub last_longer : (Key : ℕ → Type 0) (count place : ℕ) → (Key count → ⊥) → IsLast Key Key count place → IsLast Key Key (count + 1) place
last_longer Key count place out a =
    let low : place ≤ count = a.within in
    record {
      within = omega arith;
      here = a.here;
      none = λ later from below h. elim (cases_eq later count) [
        | inl e ↦ out (subst Key e h)
        | inr ne ↦ a.none later from (omega (arith, below, ne)) h
      ];
    }

-- the same of what holds at the same places
pub last_as : (P Q : ℕ → Type 0) (count place : ℕ) → ((p : ℕ) → p < count → P p → Q p) → ((p : ℕ) → p < count → Q p → P p) → IsLast P P count place → IsLast Q Q count place
last_as P Q count place to from a =
    let low : place ≤ count = a.within in
    record {
      within = a.within;
      here = λ last e. to last (omega (arith, e)) (a.here last e);
      none = λ later high below h. a.none later high below (from later below h);
    }

-- A walk down the places at which Agrees holds: it stands at one of them, or at 0, and those from it on are done with.
pub record IsWalked (Agrees Done : ℕ → Type 0) (count place : ℕ) : Type 0 where
  pub within : place ≤ count
  pub here : (last : ℕ) → place ≡ suc last → Agrees last
  pub done : (later : ℕ) → place ≤ later → later < count → Agrees later → Done later

-- at the beginning
pub walk_first : (Agrees Done : ℕ → Type 0) (count place : ℕ) → IsLast Agrees Agrees count place → IsWalked Agrees Done count place
walk_first Agrees Done count place a = record {
  within = a.within;
  here = a.here;
  done = λ later from below h. absurd (a.none later from below h);
}

-- one place further
pub walk_next : (Agrees Done More : ℕ → Type 0) (count place next : ℕ) → IsWalked Agrees Done count place → 0 < place → ((p : ℕ) → Done p → More p) → More (place - 1) → IsLast Agrees Agrees (place - 1) next → IsWalked Agrees More count next
walk_next Agrees Done More count place next w some keep new b =
    let low : place ≤ count = w.within in
    let lower : next ≤ place - 1 = b.within in
    record {
      within = omega (arith, low, lower);
      here = b.here;
      done = λ later from below h. elim (cases_lt later place) [
        | inr ge ↦ keep later (w.done later ge below h)
        | inl lt ↦ elim (cases_eq later (place - 1)) [
          | inl e ↦ subst More (sym e) new
          | inr ne ↦ absurd (b.none later from (omega (arith, lt, ne)) h)
        ]
      ];
    }

-- the place before it agrees
pub walk_here : (Agrees Done : ℕ → Type 0) (count place : ℕ) → IsWalked Agrees Done count place → 0 < place → Agrees (place - 1)
walk_here Agrees Done count place w some = w.here (place - 1) (omega arith)

-- at the end all are done with
pub walk_end : (Agrees Done : ℕ → Type 0) (count place : ℕ) → IsWalked Agrees Done count place → place ≡ 0 → (p : ℕ) → p < count → Agrees p → Done p
walk_end Agrees Done count place w e p lt h = w.done p (omega (arith, e)) lt h
