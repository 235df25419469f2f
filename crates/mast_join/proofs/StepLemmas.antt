-- One entry more is bound.
use Rattle.std.proofs.Common.{◌≡◌, ℕ, zero, suc, ◌+◌, ◌<◌, Bool, true, false, List, [], ◌∷◌, length, get_or, set, inl, inr, refl, sym, ap, subst, ◌∙◌, arith}
use Rattle.std.specs.Prelude.{Option}
use Rattle.std.proofs.lemmas.Bool.{cases_eq, false≢true}
use Rattle.std.proofs.lemmas.List.{get_or-set_same, get_or-set_other, set-set, set-get_or, length-set}
use Rattle.mast_tables.specs.Rows.{Row}
use Rattle.mast_canon.specs.declared.rows.RowId.{RowId}
use Rattle.mast_join.specs.declared.comparisons.Test.{Test}
use Rattle.mast_join.specs.inside.Partial.{MayHave, IsBound, IsPartial, ArePartial, AreCandidates, AreGrown, IsGrownOf, pass_all, open_count}
use Rattle.mast_join.proofs.FewerLemmas.{pass_all_fewer, fewer_alone, fewer_open}

module _ (sources : List (List Row)) (places : List ℕ) (only : Option (List RowId)) (tests : List Test) (bound : List Bool) (entry : ℕ) (not_bound : get_or bound entry true ≡ false) (within : entry < length sources) (long : length bound ≡ length sources) where
  moved : (k : ℕ) (b c : Bool) (x y : ℕ) → b ≡ c → x ≡ y → IsBound b (MayHave sources places only k x) x → IsBound c (MayHave sources places only k y) y
  moved k b c x y p q h = subst (λ (z : ℕ). IsBound c (MayHave sources places only k z) z) q (subst (λ (d : Bool). IsBound d (MayHave sources places only k x) x) p h)

  now_bound : get_or (set bound entry true) entry true ≡ true
  now_bound = get_or-set_same bound entry true true (omega (arith, long, within))

  -- a choice without its row at the entry
  partial_before : (choice : List ℕ) → IsPartial sources places only tests (set bound entry true) choice → IsPartial sources places only tests bound (set choice entry 0)
  partial_before choice p =
      let lt : entry < length choice = omega (arith, p.long, within) in
      record {
        long = length-set choice entry 0 ∙ p.long;
        rows = λ k klt. elim (cases_eq k entry) [
          | inl q ↦ moved k false (get_or bound k true) 0 (get_or (set choice entry 0) k 0)
              (sym not_bound ∙ ap (λ (i : ℕ). get_or bound i true) (sym q))
              (sym (get_or-set_same choice entry 0 0 lt) ∙ ap (λ (i : ℕ). get_or (set choice entry 0) i 0) (sym q)) refl
          | inr n ↦ moved k (get_or (set bound entry true) k true) (get_or bound k true) (get_or choice k 0) (get_or (set choice entry 0) k 0)
              (get_or-set_other bound entry k true true n) (sym (get_or-set_other choice entry k 0 0 n)) (p.rows k klt)
        ];
        passes = pass_all_fewer sources (set choice entry 0) choice tests (fewer_open choice entry lt) p.passes;
      }

  -- a choice with a row at the entry
  partial_after : (base : List ℕ) (row : ℕ) → IsPartial sources places only tests bound base → MayHave sources places only entry row → pass_all sources (set base entry row) tests ≡ true → IsPartial sources places only tests (set bound entry true) (set base entry row)
  partial_after base row p may passes =
      let lt : entry < length base = omega (arith, p.long, within) in
      record {
        long = length-set base entry row ∙ p.long;
        rows = λ k klt. elim (cases_eq k entry) [
          | inl q ↦ moved k true (get_or (set bound entry true) k true) row (get_or (set base entry row) k 0)
              (sym now_bound ∙ ap (λ (i : ℕ). get_or (set bound entry true) i true) (sym q))
              (sym (get_or-set_same base entry row 0 lt) ∙ ap (λ (i : ℕ). get_or (set base entry row) i 0) (sym q))
              (subst (λ (i : ℕ). MayHave sources places only i row) (sym q) may)
          | inr n ↦ moved k (get_or bound k true) (get_or (set bound entry true) k true) (get_or base k 0) (get_or (set base entry row) k 0)
              (sym (get_or-set_other bound entry k true true n)) (sym (get_or-set_other base entry k row 0 n)) (p.rows k klt)
        ];
        passes = passes;
      }

  module _ (choices grown : List (List ℕ)) (rows nothing : List ℕ) (p : ArePartial sources places only tests bound choices) (c : AreCandidates sources places only tests nothing entry rows) (g : AreGrown sources tests entry rows choices grown) (none : (k : ℕ) → get_or nothing k 0 ≡ 0) (there : entry < length nothing) where
    forth : (choice : List ℕ) → IsGrownOf sources tests entry rows choices choice → IsPartial sources places only tests (set bound entry true) choice
    forth choice w =
        subst (λ (k : List ℕ). IsPartial sources places only tests (set bound entry true) k) (sym w.is)
        (partial_after w.base w.row ((p.exact w.base).0 w.base_in) ((c.exact w.row).0 w.row_in).0 (subst (λ (k : List ℕ). pass_all sources k tests ≡ true) w.is w.passes))

    its_row : (choice : List ℕ) → IsPartial sources places only tests (set bound entry true) choice → MayHave sources places only entry (get_or choice entry 0)
    its_row choice q = moved entry (get_or (set bound entry true) entry true) true (get_or choice entry 0) (get_or choice entry 0) now_bound refl (q.rows entry within)

    from_base : (choice : List ℕ) → IsPartial sources places only tests (set bound entry true) choice → IsGrownOf sources tests entry rows choices choice
    from_base choice q = record {
      base = set choice entry 0;
      row = get_or choice entry 0;
      base_in = (p.exact (set choice entry 0)).1 (partial_before choice q);
      row_in = (c.exact (get_or choice entry 0)).1 (its_row choice q, pass_all_fewer sources (set nothing entry (get_or choice entry 0)) choice tests (fewer_alone nothing choice entry none there) q.passes);
      is = sym (set-set choice entry 0 (get_or choice entry 0) ∙ set-get_or choice entry 0);
      passes = q.passes;
    }

    -- the partial choices for one entry more are those that are grown
    pub partial_step : ArePartial sources places only tests (set bound entry true) grown
    partial_step = record { once = g.once; exact = λ choice. (λ i. forth choice ((g.exact choice).0 i), λ q. (g.exact choice).1 (from_base choice q)) }

-- one entry more is bound
pub open_set : (bound : List Bool) (entry : ℕ) → get_or bound entry true ≡ false → open_count (set bound entry true) + 1 ≡ open_count bound
open_set [] entry e = absurd (false≢true (sym e))
open_set (true ∷ bound) zero e = absurd (false≢true (sym e))
open_set (false ∷ bound) zero e = omega arith
open_set (true ∷ bound) (suc entry) e = open_set bound entry e
open_set (false ∷ bound) (suc entry) e = let rest : open_count (set bound entry true) + 1 ≡ open_count bound = open_set bound entry e in omega arith

-- where none is open each is bound
pub all_bound : (bound : List Bool) (entry : ℕ) → open_count bound ≡ 0 → get_or bound entry true ≡ true
all_bound [] entry e = refl
all_bound (true ∷ bound) zero e = refl
all_bound (true ∷ bound) (suc entry) e = all_bound bound entry e
all_bound (false ∷ bound) entry e = absurd (omega arith)
