-- What a select gives is collected by a walk along the rows that agree.
use Rattle.std.proofs.Common.{◌≡◌, ℕ, ◌-◌, ◌<◌, ◌≤◌, List, [], ◌∷◌, ◌++◌, length, get_or, sym, ap, subst, ◌∙◌, arith}
use Rattle.mast_relations.specs.Lookups.{AgreesAt, IsLastOf, rows_in}
use Rattle.mast_relations.specs.Matches.{Rows}
use Rattle.mast_relations.specs.Plans.{picked}
use Rattle.mast_relations.specs.Stores.{HasAll, HasOnlyGained}
use Rattle.mast_relations.proofs.JoinLemmas.{all_kept, gained_none, gained_then}
use Rattle.mast_relations.proofs.LastLemmas.{IsWalked, walk_end, walk_first, walk_here, walk_next}
use Rattle.mast_relations.proofs.ListLemmas.{in_get, stands_at}
use Rattle.mast_conditions.specs.Choices.{Gives}
use Rattle.mast_conditions.specs.Truth.{width_of}
use Rattle.mast_conditions.specs.declared.condition.Entry.{Entry}
use Rattle.mast_conditions.specs.declared.condition.Select.{Select}
use Rattle.mast_conditions.proofs.TruthLemmas.{as_last}

module _ (relations : List Rows) (select : Select) (entry : Entry) (rest : List Entry) (numbers : List ℕ) where
  -- the rows of the entry
  abbrev pub rows : List (List ℕ)
  rows = rows_in relations entry.relation

  abbrev pub Agree : ℕ → Type 0
  Agree place = AgreesAt rows entry.columns numbers entry.places place

  -- what is given over a row
  abbrev pub Over : ℕ → List ℕ → Type 0
  Over place tuple = Gives relations select rest (numbers ++ get_or rows place []) tuple

  -- only what is given was put, and all of it over the rows that were passed
  pub record IsCollected (old found : Rows) (place : ℕ) : Type 0 where
    pub only : HasOnlyGained (Gives relations select (entry ∷ rest) numbers) old found
    pub walked : IsWalked Agree (λ q. HasAll (Over q) found) (length rows) place

  pub collected_first : (old : Rows) (place : ℕ) → IsLastOf Agree (length rows) place → IsCollected old old place
  collected_first old place l = record {
    only = gained_none (Gives relations select (entry ∷ rest) numbers) old;
    walked = walk_first Agree (λ q. HasAll (Over q) old) (length rows) place (as_last Agree (length rows) place l);
  }

  -- what is given over a row is given
  pub over_gives : (place : ℕ) → place < length rows → Agree place → length (get_or rows place []) ≡ width_of relations entry → (tuple : List ℕ) → Over place tuple → Gives relations select (entry ∷ rest) numbers tuple
  over_gives place lt agrees wide tuple x = (get_or rows place [], record { there = in_get rows place [] lt; wide = wide; agrees = agrees }, x)

  pub collected_only : (old mid new : Rows) (place : ℕ) → IsCollected old mid place → 0 < place → length (get_or rows (place - 1) []) ≡ width_of relations entry → HasOnlyGained (Over (place - 1)) mid new
      → HasOnlyGained (Gives relations select (entry ∷ rest) numbers) old new
  collected_only old mid new place c some wide added =
      let low : place - 1 < length rows = below c.walked.within in
      gained_then (Gives relations select (entry ∷ rest) numbers) (Over (place - 1)) old mid new c.only added
      (over_gives (place - 1) low (walk_here Agree (λ q. HasAll (Over q) mid) (length rows) place c.walked some) wide)
    where
      below : place ≤ length rows → place - 1 < length rows
      below le = omega (arith, le, some)

  pub collected_next : (old mid new : Rows) (place next : ℕ) → IsCollected old mid place → 0 < place → length (get_or rows (place - 1) []) ≡ width_of relations entry → HasOnlyGained (Over (place - 1)) mid new → HasAll (Over (place - 1)) new
      → IsLastOf Agree (place - 1) next → IsCollected old new next
  collected_next old mid new place next c some wide added all l = record {
    only = collected_only old mid new place c some wide added;
    walked = walk_next Agree (λ q. HasAll (Over q) mid) (λ q. HasAll (Over q) new) (length rows) place next c.walked some
        (λ q d. all_kept (Over q) (Over (place - 1)) mid new d added) all (as_last Agree (place - 1) next l);
  }

  -- at the end all is there
  pub collected_end : (old found : Rows) (place : ℕ) → IsCollected old found place → place ≡ 0 → HasAll (Gives relations select (entry ∷ rest) numbers) found
  collected_end old found place c e tuple g =
      let at = stands_at g.0 rows g.1.there in
      walk_end Agree (λ q. HasAll (Over q) found) (length rows) place c.walked e at.place at.within
      (ap (λ (r : List ℕ). picked r entry.columns) (at.is []) ∙ g.1.agrees) tuple
      (subst (λ (r : List ℕ). Gives relations select rest (numbers ++ r) tuple) (sym (at.is [])) g.2)
