-- Numbers: the existential inclusions are numbered from 0 in order.
use Rattle.std.specs.Prelude.{◌≡◌, ℕ, suc, List, [], ◌∷◌, ◌++◌}
use Rattle.mast_tbox.specs.declared.axiom.Inclusion.{Inclusion}
use Rattle.mast_tbox.specs.declared.axiom.Inclusion.TheVariants.{Class as IClass, Exists, HasValue, Role as IRole, Attr as IAttr, Range}
use Rattle.mast_tbox.specs.declared.axiom.Lined.{Lined}

-- the number of an inclusion, where it is an existential one
abbrev pub number_of : Inclusion → List ℕ
number_of (IClass b a) = []
number_of (Exists b r end k) = k ∷ []
number_of (HasValue b u k) = k ∷ []
number_of (IRole r s) = []
number_of (IAttr u v) = []
number_of (Range u kind) = []

-- the numbers of the existential inclusions, in order
abbrev pub numbers : List (Lined Inclusion) → List ℕ
numbers [] = []
numbers (l ∷ ls) = number_of l.item ++ numbers ls

-- as many numbers as the list has, from n on, each one more than that before it
abbrev pub counted : ℕ → List ℕ → List ℕ
counted n [] = []
counted n (k ∷ ks) = n ∷ counted (suc n) ks

-- the existential inclusions are numbered from 0 in order
abbrev pub IsNumbered : List (Lined Inclusion) → Type 0
IsNumbered ls = numbers ls ≡ counted 0 (numbers ls)
