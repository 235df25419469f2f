-- The walks of one more path.
use Rattle.std.proofs.Common.{◌≡◌, ℕ, ◌+◌, ◌*◌, ◌-◌, ◌≤◌, List, [], ◌∷◌, ◌++◌, length, sym, ap, ◌∙◌, subst, arith}
use Rattle.std.specs.List.{AllByRecursion}
use Rattle.mast_cq.specs.declared.atom.Atom.{Atom}
use Rattle.mast_tbox.specs.declared.constraint.Step.{Step}
use Rattle.mast_tbox.specs.declared.constraint.Step.TheVariants.{Role as SRole, Test, Attr as SAttr}
use Rattle.mast_tbox.specs.ConstraintForms.{HasPathForm, steps_together}
use Rattle.mast_tbox.specs.Restrictions.{along}
use Rattle.mast_violate.specs.Patterns.{end_of, both_walks, all_walks}
use Rattle.mast_violate.proofs.SeenLemmas.{append_twice}

-- no path has more moves than steps
pub few_moves : (path : List Step) → length (along path) ≤ length path
few_moves [] = omega arith
few_moves (SRole r ∷ path) = let h = few_moves path in omega (arith, h)
few_moves (Test a ∷ path) = let h = few_moves path in omega (arith, h)
few_moves (SAttr u ∷ path) = let h = few_moves path in omega (arith, h)

module _ (path : List Step) (rest : List (List Step)) (atoms made all : List Atom) (new next : ℕ)
    (walks : made ≡ atoms ++ both_walks new (length (along path)) path) (is : next ≡ end_of (new + length (along path)) (length (along path))) where
  kept : atoms ++ all_walks new (path ∷ rest) ≡ all → made ++ all_walks next rest ≡ all
  kept h =
      let n = length (along path) in
      ap (λ z. made ++ all_walks z rest) is
      ∙ (ap (λ z. z ++ all_walks (end_of (new + n) n) rest) walks
      ∙ (append_twice atoms (both_walks new n path) (all_walks (end_of (new + n) n) rest) ∙ h))

  small : new + 2 * steps_together (path ∷ rest) ≤ 24 → next + 2 * steps_together rest ≤ 24
  small h = let f = few_moves path in omega (arith, is, h, f)

-- one more path is passed
pub path_added : (paths : List (List Step)) (path : List Step) (rest : List (List Step)) (atoms made all : List Atom) (new next : ℕ)
    → paths ≡ path ∷ rest → atoms ++ all_walks new paths ≡ all → AllByRecursion HasPathForm paths → new + 2 * steps_together paths ≤ 24
    → made ≡ atoms ++ both_walks new (length (along path)) path → next ≡ end_of (new + length (along path)) (length (along path))
    → (made ++ all_walks next rest ≡ all) × (AllByRecursion HasPathForm rest × (next + 2 * steps_together rest ≤ 24))
path_added paths path rest atoms made all new next parted whole formed few walks is = (
  kept path rest atoms made all new next walks is (subst (λ z. atoms ++ all_walks new z ≡ all) parted whole),
  ((subst (AllByRecursion HasPathForm) parted formed).1, small path rest atoms made all new next walks is (subst (λ z. new + 2 * steps_together z ≤ 24) parted few)),
)
