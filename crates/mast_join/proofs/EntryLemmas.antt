-- One entry more, with what the steps for it need and give.
use Rattle.std.proofs.Common.{◌≡◌, ℕ, zero, suc, ◌+◌, ◌<◌, ◌≤◌, Bool, true, false, List, [], ◌∷◌, length, get_or, set, replicate, refl, sym, ap, subst, ◌∙◌, arith}
use Rattle.std.specs.List.{AllByRecursion}
use Rattle.std.proofs.lemmas.List.{length-replicate, length-set}
use Rattle.std.proofs.lemmas.Bool.{cond-true, cond-false, false≢true}
use Rattle.mast_cq.proofs.ListLemmas.{each_in}
use Rattle.mast_join.specs.Chosen.{ChoiceList}
use Rattle.mast_join.specs.declared.join.Join.{Join}
use Rattle.mast_join.specs.inside.Grows.{ArePartialOf, AreWhole, CanGrow, HasGrown}
use Rattle.mast_join.specs.inside.Joins.{IsJoin, nothing, only, sources}
use Rattle.mast_join.specs.inside.Partial.{AreCandidates, IsReady, open_count, pass_all}
use Rattle.mast_join.proofs.FewerLemmas.{nothing_at}
use Rattle.mast_join.proofs.GrowLemmas.{candidate_rows, partial_ready}
use Rattle.mast_join.proofs.JoinLemmas.{length-sources}
use Rattle.mast_join.proofs.OnceLemmas.{in_get}
use Rattle.mast_join.proofs.StepLemmas.{open_set, partial_step}
use Rattle.mast_join.proofs.WholeLemmas.{first_are}

-- an entry that is not bound is one
pub entry_there : (bound : List Bool) (entry : ℕ) → get_or bound entry true ≡ false → entry < length bound
entry_there [] entry e = absurd (false≢true (sym e))
entry_there (b ∷ bound) zero e = omega arith
entry_there (b ∷ bound) (suc entry) e = let lt : entry < length bound = entry_there bound entry e in omega arith

module _ (j : Join) (join : IsJoin j) (bound : List Bool) (choices : ChoiceList) (p : ArePartialOf j bound choices) (entry : ℕ) (not_bound : get_or bound entry true ≡ false) (long : length bound ≡ length j.places.items) (rows : List ℕ) (c : AreCandidates (sources j) j.places.items (only j) j.tests.items (nothing j) entry rows) where
  pub its_place : entry < length j.places.items
  its_place = let lt : entry < length bound = entry_there bound entry not_bound in omega (arith, long)

  pub its_source : entry < length (sources j)
  its_source = omega (arith, its_place, length-sources j)

  -- the choices can get a row at the entry
  pub can_grow : CanGrow j entry rows choices
  can_grow = record { join = join; there = its_place; are_rows = candidate_rows j entry rows c; ready = partial_ready j bound choices p entry not_bound its_source }

  -- and are partial choices for one entry more then
  pub has_grown : (result : ChoiceList) → HasGrown j entry rows choices result → ArePartialOf j (set bound entry true) result
  has_grown result h = record {
    width = h.width;
    partial = partial_step (sources j) j.places.items (only j) j.tests.items bound entry not_bound its_source (long ∙ sym (length-sources j))
        choices.list result.list rows (nothing j) p.partial c h.grown (nothing_at (length j.places.items)) (omega (arith, its_place, length-replicate (length j.places.items) zero));
  }

-- a choice of those that can grow has a place for each entry
pub choice_long : (j : Join) (entry : ℕ) (rows : List ℕ) (choices : ChoiceList) (number : ℕ) → CanGrow j entry rows choices → number < length choices.list → length (get_or choices.list number []) ≡ length j.places.items
choice_long j entry rows choices number c lt =
    (each_in (IsReady (sources j) entry) (get_or choices.list number []) choices.list c.ready.each (in_get choices.list number [] lt)).partly.long ∙ length-sources j

-- what holds of each choice holds of that with a number
pub choice_at : (P : List ℕ → Type 0) (choices : List (List ℕ)) (number : ℕ) → AllByRecursion P choices → number < length choices → P (get_or choices number [])
choice_at P choices number a lt = each_in P (get_or choices number []) choices a (in_get choices number [] lt)

-- without a row there is one partial choice at most
pub start_yes : (j : Join) (choices : ChoiceList) (first : List ℕ) → choices.width ≡ length j.places.items → choices.list ≡ first ∷ [] → first ≡ nothing j → pass_all (sources j) (nothing j) j.tests.items ≡ true → ArePartialOf j (replicate (length j.places.items) false) choices
start_yes j choices first w l f p = record {
  width = w;
  partial = first_are (sources j) j.places.items (only j) j.tests.items (length j.places.items) (sym (length-sources j)) choices.list
      (l ∙ ap (λ (k : List ℕ). k ∷ []) f ∙ sym (cond-true (pass_all (sources j) (nothing j) j.tests.items) (nothing j ∷ []) [] p));
}

-- or none, where a comparison is false
pub start_no : (j : Join) (choices : ChoiceList) → choices.width ≡ length j.places.items → choices.list ≡ [] → pass_all (sources j) (nothing j) j.tests.items ≡ false → ArePartialOf j (replicate (length j.places.items) false) choices
start_no j choices w l p = record {
  width = w;
  partial = first_are (sources j) j.places.items (only j) j.tests.items (length j.places.items) (sym (length-sources j)) choices.list
      (l ∙ sym (cond-false (pass_all (sources j) (nothing j) j.tests.items) (nothing j ∷ []) [] p));
}

-- so many entries are bound, and the choices are the partial ones over them
pub record IsWay (j : Join) (bound : List Bool) (count : ℕ) (choices : ChoiceList) : Type 0 where
  pub long : length bound ≡ length j.places.items
  pub left : open_count bound + count ≡ length j.places.items
  pub partial : ArePartialOf j bound choices

open_all : (n : ℕ) → open_count (replicate n false) ≡ n
open_all zero = refl
open_all (suc n) = ap suc (open_all n)

-- at the beginning no entry is bound
pub way_first : (j : Join) (bound : List Bool) (n : ℕ) (choices : ChoiceList) → bound ≡ replicate n false → n ≡ length j.places.items → ArePartialOf j (replicate (length j.places.items) false) choices → IsWay j bound 0 choices
way_first j bound n choices e size p =
    let all : bound ≡ replicate (length j.places.items) false = e ∙ ap (λ (k : ℕ). replicate k false) size in
    record {
      long = ap length all ∙ length-replicate (length j.places.items) false;
      left = omega (arith, ap open_count all, open_all (length j.places.items));
      partial = subst (λ (k : List Bool). ArePartialOf j k choices) (sym all) p;
    }

-- one entry more is bound
pub way_next : (j : Join) (bound : List Bool) (count : ℕ) (choices grown : ChoiceList) (entry : ℕ) → IsWay j bound count choices → get_or bound entry true ≡ false → ArePartialOf j (set bound entry true) grown → IsWay j (set bound entry true) (count + 1) grown
way_next j bound count choices grown entry w e p = record {
  long = length-set bound entry true ∙ w.long;
  left = omega (arith, open_set bound entry e, w.left);
  partial = p;
}

-- where no entry is open, each is bound
pub way_none : (j : Join) (bound : List Bool) (count : ℕ) (choices : ChoiceList) → IsWay j bound count choices → open_count bound ≡ 0 → AreWhole j choices
way_none j bound count choices w e = record { bound = bound; none_open = e; partial = w.partial.partial }

-- so it is once as many are bound as there are
pub way_out : (j : Join) (bound : List Bool) (count : ℕ) (choices : ChoiceList) → IsWay j bound count choices → length j.places.items ≤ count → AreWhole j choices
way_out j bound count choices w le = way_none j bound count choices w (omega (arith, w.left, le))
