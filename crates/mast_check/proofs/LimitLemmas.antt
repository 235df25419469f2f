-- The first limit of a theory: it is one, and there is none where it meets none.
use Rattle.std.proofs.Common.{◌≡◌, ℕ, ◌≤◌, List, [], ◌∷◌, ◌++◌, length, inl, inr, refl, sym, ap, ◌∙◌, subst, arith}
use Rattle.std.specs.Prelude.{Result, Ok, Err}
use Rattle.std.specs.List.{AllByRecursion}
use Rattle.mast_terms.specs.Answers.{Answers}
use Rattle.mast_terms.specs.declared.memory.Stop.{Stop}
use Rattle.mast_terms.specs.declared.memory.Stop.TheVariants as stop
use Rattle.mast_cq.specs.Queries.{In}
use Rattle.mast_cq.proofs.ListLemmas.{each_in, append_right}
use Rattle.mast_canon.specs.declared.origin.Origin.{Origin}
use Rattle.mast_canon.specs.Theories.{Theory}
use Rattle.mast_violate.specs.declared.violation.TheConstants.{MOST_VIOLATIONS}
use Rattle.mast_violate.specs.declared.violation.Violation.{Violation}
use Rattle.mast_violate.specs.Breaches.{violations_of}
use Rattle.mast_check.specs.declared.breach.CheckLimit.{CheckLimit}
use Rattle.mast_check.specs.declared.breach.CheckLimit.TheVariants as limit
use Rattle.mast_check.specs.Limits.{HasFirstLimit, HasNoLimit, IsFirstTooLarge, IsSmallEnough}
use Rattle.mast_check.specs.inside.Limited.{AreAllSmall, IsListedOrMany, IsOfClosure, IsOfFirst, IsOfMany}

-- the limit of the first closure that is too large, as where it stands in the list
first_told : (theory : Theory) (list : List Violation) (where_from : Origin) (count : ℕ) → IsOfFirst theory list (limit.Closure where_from count) → IsFirstTooLarge theory list where_from count
first_told theory [] o n h = absurd h
first_told theory (v ∷ vs) o n (inl h) = record { before = []; violation = v; after = vs; parted = refl; smaller = tt; larger = h.0; of_origin = h.1.0; counted = h.1.1 }
first_told theory (v ∷ vs) o n (inr h) =
    let w = first_told theory vs o n h.1 in
    record { before = v ∷ w.before; violation = w.violation; after = w.after; parted = ap (λ zs. v ∷ zs) w.parted; smaller = (h.0, w.smaller); larger = w.larger; of_origin = w.of_origin; counted = w.counted }

-- so it is the first limit, where there are not too many violations
pub closure_limit : (theory : Theory) (its : CheckLimit) → length (violations_of theory) ≤ MOST_VIOLATIONS → IsOfFirst theory (violations_of theory) its → HasFirstLimit theory its
closure_limit theory limit.Violations few h = absurd (no_many (violations_of theory) h)
  where
    no_many : (list : List Violation) → IsOfFirst theory list limit.Violations → ⊥
    no_many [] h = h
    no_many (v ∷ vs) (inl h) = h
    no_many (v ∷ vs) (inr h) = no_many vs h.1
closure_limit theory (limit.Closure o n) few h = (few, first_told theory (violations_of theory) o n h)

-- and where there are too many, that is
pub many_limit : (theory : Theory) (its : CheckLimit) → IsOfMany (violations_of theory) its → HasFirstLimit theory its
many_limit theory limit.Violations h = h
many_limit theory (limit.Closure o n) h = absurd h

-- back
first_out : (theory : Theory) (before after : List Violation) (v : Violation) (where_from : Origin) (count : ℕ) → AllByRecursion (IsSmallEnough theory) before
    → IsOfClosure theory v (limit.Closure where_from count) → IsOfFirst theory (before ++ v ∷ after) (limit.Closure where_from count)
first_out theory [] after v o n s h = inl h
first_out theory (w ∷ before) after v o n s h = inr (s.0, first_out theory before after v o n s.1 h)

first_back : (theory : Theory) (list : List Violation) (where_from : Origin) (count : ℕ) → IsFirstTooLarge theory list where_from count → IsOfFirst theory list (limit.Closure where_from count)
first_back theory list o n h =
    subst (λ vs. IsOfFirst theory vs (limit.Closure o n)) (sym h.parted) (first_out theory h.before h.after h.violation o n h.smaller (h.larger, (h.of_origin, h.counted)))

-- no limit and a first limit exclude each other
pub not_both : (theory : Theory) (its : CheckLimit) → HasNoLimit theory → HasFirstLimit theory its → ⊥
not_both theory limit.Violations none h = let few = none.few in omega (arith, few, h)
not_both theory (limit.Closure o n) none h =
    let w = h.1 in
    each_in (IsSmallEnough theory) w.violation (violations_of theory) none.closures (subst (In w.violation) (sym w.parted) (append_right w.violation w.before (w.violation ∷ w.after) (inl refl))) w.larger

same_first : (theory : Theory) (list : List Violation) (o p : Origin) (n m : ℕ) → IsOfFirst theory list (limit.Closure o n) → IsOfFirst theory list (limit.Closure p m) → (o ≡ p) × (n ≡ m)
same_first theory [] o p n m h k = absurd h
same_first theory (v ∷ vs) o p n m (inl h) (inl k) = (sym h.1.0 ∙ k.1.0, h.1.1 ∙ sym k.1.1)
same_first theory (v ∷ vs) o p n m (inl h) (inr k) = absurd (k.0 h.0)
same_first theory (v ∷ vs) o p n m (inr h) (inl k) = absurd (h.0 k.0)
same_first theory (v ∷ vs) o p n m (inr h) (inr k) = same_first theory vs o p n m h.1 k.1

-- there is one first limit
pub one_limit : (theory : Theory) (one other : CheckLimit) → HasFirstLimit theory one → HasFirstLimit theory other → one ≡ other
one_limit theory limit.Violations limit.Violations h k = refl
one_limit theory limit.Violations (limit.Closure p m) h k = absurd (let l = k.0 in omega (arith, h, l))
one_limit theory (limit.Closure o n) limit.Violations h k = absurd (let l = h.0 in omega (arith, k, l))
one_limit theory (limit.Closure o n) (limit.Closure p m) h k =
    let list = violations_of theory in
    let s = same_first theory list o p n m (first_back theory list o n h.1) (first_back theory list p m k.1) in
    ap (λ z. limit.Closure z n) s.0 ∙ ap (limit.Closure p) s.1

-- so what the closures of the violation list tell are the limits of the theory
pub fits_told : (theory : Theory) (list : List Violation) (result : Result (Unit {0}) (Stop CheckLimit)) → list ≡ violations_of theory → length (violations_of theory) ≤ MOST_VIOLATIONS
    → AreAllSmall theory list result → Answers result (λ fits. HasNoLimit theory) (HasFirstLimit theory)
fits_told theory list (Ok fits) e few told = record { few = few; closures = subst (AllByRecursion (IsSmallEnough theory)) e told }
fits_told theory list (Err (stop.Named its)) e few told = closure_limit theory its few (subst (λ vs. IsOfFirst theory vs its) e told)
fits_told theory list (Err stop.NoMemory) e few told = tt

-- and that there are too many is
pub many_told : (theory : Theory) (error : Stop CheckLimit) → IsListedOrMany (violations_of theory) (Err error) → Answers {T = Unit {0}} (Err error) (λ fits. HasNoLimit theory) (HasFirstLimit theory)
many_told theory (stop.Named its) told = many_limit theory its told
many_told theory stop.NoMemory told = tt
