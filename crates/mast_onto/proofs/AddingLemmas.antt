-- Statements that pass the limit, before others are added or not.
use Rattle.std.proofs.Common.{◌≡◌, ◌+◌, ◌<◌, ℕ, List, ◌++◌, length, append_assoc, sym, ap, ◌∙◌, arith}
use Rattle.std.proofs.lemmas.List.{length-append}

-- what passes a bound with some elements passes it with more
pub passes_more : {X : Type 0} (most : ℕ) (held xs ys whole : List X) → held ++ (xs ++ ys) ≡ whole → most < length (held ++ xs) → most < length whole
passes_more most held xs ys whole e h =
    let f : whole ≡ (held ++ xs) ++ ys = sym e ∙ sym (append_assoc held xs ys) in
    let g : length whole ≡ length (held ++ xs) + length ys = ap length f ∙ length-append (held ++ xs) ys in
    omega arith
