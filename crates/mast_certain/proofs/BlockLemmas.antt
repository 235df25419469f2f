-- Blocks one after another, and the first whose closure is too large.
use Rattle.std.proofs.Common.{◌≡◌, ℕ, zero, suc, ◌+◌, ◌<◌, ◌≤◌, List, [], ◌∷◌, ◌++◌, length, get_or, take, sym, subst, arith}
use Rattle.std.specs.Prelude.{Result, Ok, Err, IsErrAnd}
use Rattle.std.specs.List.{AllByRecursion}
use Rattle.std.proofs.lemmas.List.{take_all, take_more}
use Rattle.std.proofs.lemmas.Option.{slice_get-get_or}
use Rattle.mast_terms.specs.declared.memory.Stop.{Stop}
use Rattle.mast_terms.specs.declared.memory.Stop.TheVariants.{Named, NoMemory}
use Rattle.mast_terms.specs.Answers.{Answers}
use Rattle.mast_cq.specs.declared.query.Cq.{Cq}
use Rattle.mast_canon.specs.declared.spec.Spec.{Spec}
use Rattle.mast_certain.specs.declared.closures.TooManyIn.{TooManyIn}
use Rattle.mast_certain.specs.LargeClosures.{IsFirstTooLarge, IsTooLarge, NoneIsTooLarge}
use Rattle.mast_certain.specs.inside.Found.{IsStopAt, IsTooManyAt}

-- what holds of each of a list, and of one more
pub each_more : {X : Type 0} (P : X → Type 0) (xs : List X) (x : X) → AllByRecursion P xs → P x → AllByRecursion P (xs ++ x ∷ [])
each_more P [] x h p = (p, tt)
each_more P (y ∷ xs) x h p = (h.0, each_more P xs x h.1 p)

-- what holds of each holds of the one at a place
pub each_at : {X : Type 0} (P : X → Type 0) (xs : List X) (number : ℕ) (d : X) → number < length xs → AllByRecursion P xs → P (get_or xs number d)
each_at P [] number d lt h = absurd (omega arith)
each_at P (x ∷ xs) zero d lt h = h.0
each_at P (x ∷ xs) (suc number) d lt h = each_at P xs number d (omega arith) h.1

-- the same of one that was read
pub each_here : {X : Type 0} (P : X → Type 0) (xs : List X) (number : ℕ) (x : X) → number < length xs → x ≡ get_or xs number x → AllByRecursion P xs → P x
each_here P xs number x lt is h = subst P (sym is) (each_at P xs number x lt h)

module _ (spec : Spec) (blocks : List Cq) where
  -- no closure is too large so far, nor the next
  pub none_more : (number : ℕ) (d : Cq) → number < length blocks → NoneIsTooLarge spec (take number blocks) → (IsTooLarge spec (get_or blocks number d) → ⊥) → NoneIsTooLarge spec (take (number + 1) blocks)
  none_more number d lt none not =
      subst (NoneIsTooLarge spec) (sym (take_more blocks number d lt)) (each_more (λ q. IsTooLarge spec q → ⊥) (take number blocks) (get_or blocks number d) none not)

  -- nor of any
  pub none_all : (number : ℕ) → length blocks ≤ number → NoneIsTooLarge spec (take number blocks) → NoneIsTooLarge spec blocks
  none_all number le none = subst (NoneIsTooLarge spec) (take_all number blocks le) none

  -- the next one is
  first_is : (number : ℕ) (d : Cq) (refusal : TooManyIn) → number < length blocks → NoneIsTooLarge spec (take number blocks) → IsTooManyAt spec number (get_or blocks number d) refusal
      → IsFirstTooLarge spec blocks refusal
  first_is number d refusal lt none h = record {
    block = get_or blocks number d;
    stands = rw h.named (slice_get-get_or blocks number d lt);
    large = h.large;
    before = subst (λ (n : ℕ). NoneIsTooLarge spec (take n blocks)) (sym h.named) none;
    counted = h.counted;
  }

  -- so a call that stops there is refused at the first
  pub stopped_first : {T : Type 0} (P : T → Type 0) (number : ℕ) (d : Cq) (stop : Stop TooManyIn) → number < length blocks → NoneIsTooLarge spec (take number blocks)
      → IsStopAt spec number (get_or blocks number d) stop → Answers {T = T} {E = TooManyIn} (Err stop) P (IsFirstTooLarge spec blocks)
  stopped_first P number d (Named refusal) lt none h = first_is number d refusal lt none h
  stopped_first P number d NoMemory lt none h = tt

  -- the same of a block that was read
  pub none_here : (number : ℕ) (block : Cq) → number < length blocks → block ≡ get_or blocks number block → NoneIsTooLarge spec (take number blocks) → (IsTooLarge spec block → ⊥)
      → NoneIsTooLarge spec (take (number + 1) blocks)
  none_here number block lt is none not = none_more number block lt none (λ large. not (subst (IsTooLarge spec) (sym is) large))

  pub stopped_here : {T : Type 0} (P : T → Type 0) (number : ℕ) (block : Cq) (result : Result T (Stop TooManyIn)) (stop : Stop TooManyIn) → number < length blocks → block ≡ get_or blocks number block
      → NoneIsTooLarge spec (take number blocks) → IsStopAt spec number block stop → IsErrAnd result (λ e. e ≡ stop) → Answers result P (IsFirstTooLarge spec blocks)
  stopped_here P number block (Ok value) stop lt is none h same = absurd same
  stopped_here {T} P number block (Err other) stop lt is none h same =
      subst (λ (s : Stop TooManyIn). Answers {T = T} {E = TooManyIn} (Err s) P (IsFirstTooLarge spec blocks)) (sym same)
      (stopped_first P number block stop lt none (subst (λ (q : Cq). IsStopAt spec number q stop) is h))
