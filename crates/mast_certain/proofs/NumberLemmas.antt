-- Things and their numbers.
use Rattle.std.proofs.Common.{◌≡◌, ℕ, suc, List, [], ◌∷◌, length, refl, sym, ap, ◌∙◌}
use Rattle.mast_cq.specs.declared.atom.Arg.{Arg}
use Rattle.mast_cq.specs.Meanings.{Gives}
use Rattle.mast_join.specs.Answers.{AreNumbersOf}
use Rattle.mast_join.proofs.HitLemmas.{numbers_same}

-- numbers are those of one list of things
pub things_same : {X : Type 0} (all : List X) (numbers : List ℕ) (xs ys : List X) → AreNumbersOf all numbers xs → AreNumbersOf all numbers ys → xs ≡ ys
things_same all numbers xs ys h k = numbers_same xs ys (sym h ∙ k)

-- an answer list and its tuple are equally long
pub gives_long : {X : Type 0} (constant s : ℕ → X) (args : List Arg) (tuple : List X) → Gives constant s args tuple → length args ≡ length tuple
gives_long constant s [] [] h = refl
gives_long constant s [] (t ∷ ts) h = absurd h
gives_long constant s (x ∷ xs) [] h = absurd h
gives_long constant s (x ∷ xs) (t ∷ ts) h = ap suc (gives_long constant s xs ts h.1)
