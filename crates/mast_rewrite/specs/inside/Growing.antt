-- How the set of members grows.
use Rattle.std.specs.Prelude.{◌≡◌, ℕ, suc, ◌+◌, ◌<◌, ◌⊎◌, List, [], ◌∷◌, ◌++◌, Bool, nat_eq, ◌||◌, if◌then◌else◌, Contains, Some, slice_get}
use Rattle.indexmap.specs.IndexSet.{IndexSet, IsUnique, index_set_len}
use Rattle.mast_terms.specs.declared.memory.Stop.{Stop}
use Rattle.mast_terms.specs.declared.memory.Stop.TheVariants.{Named, NoMemory}
use Rattle.mast_cq.specs.declared.atom.Atom.{Atom}
use Rattle.mast_cq.specs.declared.query.Cq.{Cq}
use Rattle.mast_cq.specs.declared.query.CqRef.{CqRef}
use Rattle.mast_cq.specs.declared.unifier.Met.{Met}
use Rattle.mast_cq.specs.ListPlaces.{leave_out}
use Rattle.mast_cq.specs.Steps.{stepped}
use Rattle.mast_cq.specs.Unification.{Meeting}
use Rattle.mast_tbox.specs.declared.axiom.Inclusion.{Inclusion}
use Rattle.mast_rewrite.specs.declared.rewriting.TooMany.{TooMany}
use Rattle.mast_rewrite.specs.CountingMeetings.{Counts}
use Rattle.mast_rewrite.specs.Rewritings.{most}
use Rattle.mast_rewrite.specs.inside.MeetingLists.{met_value}

-- the second list begins with the first
abbrev pub Extends : {X : Type 0} → List X → List X → Type 0
Extends {X} xs ys = (more : List X) × (xs ++ more ≡ ys)

-- each query of the new list was there or has the property
abbrev pub Within : (Cq → Type 0) → List Cq → List Cq → Type 0
Within P old new = (m : Cq) → Contains new m → Contains old m ⊎ P m

-- the list was extended by queries with the property, and has all of these
pub record Grown (P : Cq → Type 0) (old new : List Cq) : Type 0 where
  pub extends : Extends old new
  pub within : Within P old new
  pub all : (m : Cq) → P m → Contains new m

-- where the set is refused, it has one member more than there may be, and the refusal counts them
abbrev pub IsOver : {S : Type 0} → (CqRef → CqRef → Bool) → IndexSet CqRef S → Stop TooMany → Type 0
IsOver same set (Named refusal) = (refusal.count ≡ most + 1) × (index_set_len set ≡ most + 1) × IsUnique same set
IsOver same set NoMemory = Unit {0}

-- the query after one of the meetings of the atoms at two places
abbrev pub IsAfter : Cq → ℕ → ℕ → List Met → Cq → Type 0
IsAfter q first second meetings r = (met : Met) × Contains meetings met × (r ≡ stepped q (met_value met) (leave_out first (leave_out second q.atoms)))

-- a step of the closure takes the atoms at two places
pub record StepsAt (tbox : List Inclusion) (q : Cq) (first second : ℕ) (r : Cq) : Type 0 where
  pub g : Atom
  pub h : Atom
  pub first_is : slice_get q.atoms first ≡ Some g
  pub second_is : slice_get q.atoms second ≡ Some h
  pub by : Meeting
  pub counts : Counts tbox q g h by
  pub gives : r ≡ stepped q by (leave_out first (leave_out second q.atoms))

-- a step takes the atom at a place, and one before it
abbrev pub StepsBefore : List Inclusion → Cq → ℕ → ℕ → Cq → Type 0
StepsBefore tbox q second bound r = (first : ℕ) × (first < bound) × StepsAt tbox q first second r

-- a step takes two atoms of the first ones
abbrev pub StepsBelow : List Inclusion → Cq → ℕ → Cq → Type 0
StepsBelow tbox q bound r = (second : ℕ) × (second < bound) × StepsBefore tbox q second second r

-- the elements of a list that begins at a place, but for those at two places
abbrev pub outside : {X : Type 0} → ℕ → ℕ → ℕ → List X → List X
outside i j k [] = []
outside i j k (x ∷ xs) = if nat_eq k i || nat_eq k j then outside i j (suc k) xs else x ∷ outside i j (suc k) xs
