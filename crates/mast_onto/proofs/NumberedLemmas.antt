-- The numbers of existential inclusions.
use Rattle.std.proofs.Common.{◌≡◌, refl, ap, ℕ, suc, ◌+◌, ◌≤◌, List, [], ◌∷◌, ◌++◌, length, arith}
use Rattle.mast_tbox.specs.declared.axiom.Inclusion.{Inclusion}
use Rattle.mast_tbox.specs.declared.axiom.Inclusion.TheVariants.{Class, Exists, HasValue, Role, Attr, Range}
use Rattle.mast_tbox.specs.declared.axiom.Lined.{Lined}
use Rattle.mast_tbox.specs.Numbers.{number_of, numbers, counted, IsNumbered}
use Rattle.mast_tbox.specs.declared.axiom.Negative.{Negative}
use Rattle.mast_tbox.specs.declared.expression.Prop.{Prop}
use Rattle.mast_onto.specs.Numbered.{with_number, next_number, numbered, inclusions_in, negatives_in, functional_in, if_inclusion, if_negative, if_functional}
use Rattle.mast_onto.specs.declared.statement.Statement.{Statement}
use Rattle.mast_onto.specs.declared.statement.Statement.TheVariants as statement
use Rattle.mast_onto.specs.declared.statements.TheConstants.{MOST_ITEMS}

number_next : (n : ℕ) (i : Inclusion) (ks : List ℕ) → ks ≡ counted (next_number n i) ks → number_of (with_number n i) ++ ks ≡ counted n (number_of (with_number n i) ++ ks)
number_next n (Class b a) ks e = e
number_next n (Exists b r end k) ks e = ap (λ xs. n ∷ xs) e
number_next n (HasValue b u k) ks e = ap (λ xs. n ∷ xs) e
number_next n (Role r s) ks e = e
number_next n (Attr u v) ks e = e
number_next n (Range u kind) ks e = e

numbered_from : (n : ℕ) (ls : List (Lined Inclusion)) → numbers (numbered n ls) ≡ counted n (numbers (numbered n ls))
numbered_from n [] = refl
numbered_from n (l ∷ ls) = number_next n l.item (numbers (numbered (next_number n l.item) ls)) (numbered_from (next_number n l.item) ls)

-- they are numbered from 0 in order
pub numbered_is : (ls : List (Lined Inclusion)) → IsNumbered (numbered 0 ls)
numbered_is ls = numbered_from 0 ls

-- each statement is in one of the three lists
sorted_count : (ss : List (Lined Statement)) → length (inclusions_in ss) + length (negatives_in ss) + length (functional_in ss) ≡ length ss
sorted_count [] = refl
sorted_count (s ∷ ss) = by s.line s.item (sorted_count ss)
  where
    by : (at : ℕ) (s : Statement) → length (inclusions_in ss) + length (negatives_in ss) + length (functional_in ss) ≡ length ss
        → length (if_inclusion at s (inclusions_in ss)) + length (if_negative at s (negatives_in ss)) + length (if_functional at s (functional_in ss)) ≡ suc (length ss)
    by at (statement.Inclusion i) e = omega arith
    by at (statement.Negative n) e = omega arith
    by at (statement.Functional p) e = omega arith

numbered_count : (n : ℕ) (ls : List (Lined Inclusion)) → length (numbered n ls) ≡ length ls
numbered_count n [] = refl
numbered_count n (l ∷ ls) = let e = numbered_count (next_number n l.item) ls in omega arith

-- the three lists are within the limit where the statements are
pub bounded : (ss : List (Lined Statement)) → length ss ≤ MOST_ITEMS → length (numbered 0 (inclusions_in ss)) + length (negatives_in ss) + length (functional_in ss) ≤ 1000000
bounded ss h = let c = sorted_count ss in let n = numbered_count 0 (inclusions_in ss) in let f : length ss ≤ 1000000 = h in omega arith

-- so are three lists that equal them
pub bounded_lists : (ss : List (Lined Statement)) (is : List (Lined Inclusion)) (ns : List (Lined Negative)) (ps : List (Lined Prop)) → length ss ≤ 1000000
    → is ≡ numbered 0 (inclusions_in ss) → ns ≡ negatives_in ss → ps ≡ functional_in ss → length is + length ns + length ps ≤ 1000000
bounded_lists ss is ns ps h e f g =
    let b = bounded ss h in
    let l : length is ≡ length (numbered 0 (inclusions_in ss)) = ap length e in
    let m : length ns ≡ length (negatives_in ss) = ap length f in
    let n : length ps ≡ length (functional_in ss) = ap length g in
    omega arith
