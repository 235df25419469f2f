-- Choices with a row at one entry alone.
use Rattle.std.proofs.Common.{◌≡◌, ℕ, ◌<◌, ◌≤◌, List, [], length, get_or, set, inl, inr, refl, sym, ap, subst, ◌∙◌, arith}
use Rattle.std.proofs.lemmas.Bool.{cases_eq}
use Rattle.std.specs.List.{filter}
use Rattle.std.proofs.lemmas.List.{set-set, length-set, length-replicate, get_or-set_same, get_or-set_other}
use Rattle.mast_tables.specs.Rows.{Row}
use Rattle.mast_cq.specs.Queries.{In}
use Rattle.mast_join.specs.declared.join.Join.{Join}
use Rattle.mast_join.specs.inside.Joins.{nothing, only, sources}
use Rattle.mast_join.specs.inside.Partial.{AreCandidates, IsPartly, Once}
use Rattle.mast_join.specs.inside.RowLists.{AreAllowed, passes_alone}
use Rattle.mast_join.proofs.FewerLemmas.{nothing_at}
use Rattle.mast_join.proofs.JoinLemmas.{length-sources}
use Rattle.mast_join.proofs.RowListLemmas.{filtered}

-- with a row at the entry the choice is the one without rows, with that row
pub record IsAlone (nothing : List ℕ) (entry : ℕ) (choice : List ℕ) : Type 0 where
  pub long : length choice ≡ length nothing
  pub alone : (row : ℕ) → set choice entry row ≡ set nothing entry row

pub alone_first : (nothing : List ℕ) (entry : ℕ) → IsAlone nothing entry nothing
alone_first nothing entry = record { long = refl; alone = λ row. refl }

-- so it does with another row at the entry
pub alone_more : (nothing : List ℕ) (entry : ℕ) (choice : List ℕ) (row : ℕ) → IsAlone nothing entry choice → IsAlone nothing entry (set choice entry row)
alone_more nothing entry choice row a = record { long = length-set choice entry row ∙ a.long; alone = λ next. set-set choice entry row next ∙ a.alone next }

-- a choice that gets a row at an entry
pub partly_set : (sources : List (List Row)) (choice : List ℕ) (entry row : ℕ) → IsPartly sources choice → entry < length choice → row ≤ length (get_or sources entry []) → IsPartly sources (set choice entry row)
partly_set sources choice entry row p lt le = record {
  long = length-set choice entry row ∙ p.long;
  within = λ k. elim (cases_eq k entry) [
    | inl q ↦ let same : get_or (set choice entry row) k 0 ≡ row = ap (λ (i : ℕ). get_or (set choice entry row) i 0) q ∙ get_or-set_same choice entry row 0 lt in
        let there : length (get_or sources k []) ≡ length (get_or sources entry []) = ap (λ (i : ℕ). length (get_or sources i [])) q in omega (arith, le)
    | inr n ↦ let same : get_or (set choice entry row) k 0 ≡ get_or choice k 0 = get_or-set_other choice entry k row 0 n in
        let within : get_or choice k 0 ≤ length (get_or sources k []) = p.within k in omega arith
  ];
}

-- the rows that an entry may have, and of which no comparison is false by themselves
pub candidates_are : (j : Join) (entry : ℕ) (rows found : List ℕ) → AreAllowed (sources j) j.places.items (only j) entry rows → found ≡ filter (passes_alone j entry) rows → AreCandidates (sources j) j.places.items (only j) j.tests.items (nothing j) entry found
candidates_are j entry rows found a e =
    let f = filtered (passes_alone j entry) rows a.once in
    record {
      once = subst (λ (k : List ℕ). Once k) (sym e) f.0;
      exact = λ row. (
        λ i. let h = (f.1 row).0 (subst (λ (k : List ℕ). In row k) e i) in ((a.exact row).0 h.0, h.1),
        λ h. subst (λ (k : List ℕ). In row k) (sym e) ((f.1 row).1 ((a.exact row).1 h.0, h.1)),
      );
    }

-- the choice without rows is partly one
pub nothing_partly : (j : Join) → IsPartly (sources j) (nothing j)
nothing_partly j = record {
  long = length-replicate (length j.places.items) 0 ∙ sym (length-sources j);
  within = λ k. let z : get_or (nothing j) k 0 ≡ 0 = nothing_at (length j.places.items) k in omega arith;
}

-- so is a choice that has a row at one entry alone
pub alone_partly : (j : Join) (entry row : ℕ) (choice : List ℕ) → IsAlone (nothing j) entry choice → entry < length j.places.items → row ≤ length (get_or (sources j) entry []) → IsPartly (sources j) (set choice entry row)
alone_partly j entry row choice a lt le =
    subst (λ (k : List ℕ). IsPartly (sources j) k) (sym (a.alone row))
    (partly_set (sources j) (nothing j) entry row (nothing_partly j) (omega (arith, lt, length-replicate {A = ℕ} (length j.places.items) 0)) le)
