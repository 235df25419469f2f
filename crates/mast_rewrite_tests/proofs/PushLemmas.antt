-- One inclusion more in a list that is numbered.
use Rattle.std.proofs.Common.{◌≡◌, ℕ, suc, ◌+◌, List, [], ◌∷◌, ◌++◌, length, ap, refl, sym, subst, ◌∙◌, arith, length-append, append-nil}
use Rattle.mast_tbox.specs.declared.axiom.Inclusion.{Inclusion}
use Rattle.mast_tbox.specs.declared.axiom.Lined.{Lined}
use Rattle.mast_tbox.specs.Numbers.{number_of, numbers, IsNumbered}
use Rattle.mast_tbox.proofs.NumberLemmas.{numbered_plain, numbered_next}
use Rattle.mast_rewrite_tests.specs.Lines.{on_one_line}

-- the lines of one inclusion more
pub line_more : (xs : List Inclusion) (i : Inclusion) → on_one_line (xs ++ i ∷ []) ≡ on_one_line xs ++ record { line = 1; item = i } ∷ []
line_more [] i = ap (λ (v : List (Lined Inclusion)). record { line = 1; item = i } ∷ v) (append-nil [])
line_more (x ∷ xs) i = ap (λ (v : List (Lined Inclusion)). record { line = 1; item = x } ∷ v) (line_more xs i)

numbers_more : (ls : List (Lined Inclusion)) (l : Lined Inclusion) → length (numbers (ls ++ l ∷ [])) ≡ length (numbers ls) + length (number_of l.item)
numbers_more [] l = simp length-append (omega arith)
numbers_more (x ∷ ls) l = let h = numbers_more ls l in simp length-append (omega arith)

-- one that has no number
pub plain_more : (xs : List Inclusion) (i : Inclusion) → number_of i ≡ [] → numbers (on_one_line xs) ≡ [] → numbers (on_one_line (xs ++ i ∷ [])) ≡ []
plain_more xs i n e = ap numbers (line_more xs i) ∙ (numbered_plain (on_one_line xs) (record { line = 1; item = i }) n ∙ e)

-- one that has the next number
pub next_more : (xs : List Inclusion) (i : Inclusion) (k : ℕ) → number_of i ≡ k ∷ [] → length (numbers (on_one_line xs)) ≡ k → IsNumbered (on_one_line xs) → IsNumbered (on_one_line (xs ++ i ∷ []))
next_more xs i k n e w = subst IsNumbered (sym (line_more xs i)) (numbered_next (on_one_line xs) (record { line = 1; item = i }) w (n ∙ ap (λ (v : ℕ). v ∷ []) (sym e)))

-- then there is one number more
pub count_more : (xs : List Inclusion) (i : Inclusion) (k : ℕ) → number_of i ≡ k ∷ [] → length (numbers (on_one_line xs)) ≡ k → length (numbers (on_one_line (xs ++ i ∷ []))) ≡ k + 1
count_more xs i k n e =
    let a = ap (λ v. length (numbers v)) (line_more xs i) in
    let b = numbers_more (on_one_line xs) (record { line = 1; item = i }) in
    let c = ap length n in omega arith

-- as many lines as inclusions
pub count_lines : (xs : List Inclusion) → length (on_one_line xs) ≡ length xs
count_lines [] = refl
count_lines (x ∷ xs) = ap suc (count_lines xs)
