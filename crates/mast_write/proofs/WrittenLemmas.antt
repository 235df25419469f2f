-- The lines of all items.
use Rattle.std.proofs.Common.{◌≡◌, ◌≤◌, ◌++◌, ◌∙◌, List, ℕ, zero, suc, [], ◌∷◌, map, drop, length, refl, sym, ap, arith}
use Rattle.std.proofs.lemmas.List.{append-nil}

-- nothing is left behind all items
pub none_left : {X : Type 0} (items : List X) (i : ℕ) → length items ≤ i → drop i items ≡ []
none_left [] zero h = refl
none_left [] (suc i) h = refl
none_left (x ∷ items) zero h = absurd (omega arith)
none_left (x ∷ items) (suc i) h = none_left items i (omega arith)

-- where no item is left, the lines are those of all
pub lines_whole : {X : Type 0} (line : X → List ℕ) (items : List X) (lines : List (List ℕ)) (i : ℕ) → length items ≤ i
    → lines ++ map line (drop i items) ≡ map line items → lines ≡ map line items
lines_whole {X} line items lines i past so =
    sym (append-nil lines) ∙ sym (ap (λ (left : List X). lines ++ map line left) (none_left items i past)) ∙ so
