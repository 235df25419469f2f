-- Lists whose elements belong to each other, in order.
use Rattle.std.proofs.Common.{◌≡◌, refl, ap, ◌∙◌, suc, List, [], ◌∷◌, ◌++◌, length}
use Rattle.std.specs.List.{AllByRecursion}
use Rattle.mast_tbox.specs.Lists.{AreEach}

-- what follows from belonging
pub each_more : {X Y : Type 0} (R S : X → Y → Type 0) (xs : List X) (ys : List Y)
    → ((x : X) (y : Y) → R x y → S x y) → AreEach R xs ys → AreEach S xs ys
each_more R S [] [] f h = h
each_more R S [] (y ∷ ys) f h = h
each_more R S (x ∷ xs) [] f h = h
each_more R S (x ∷ xs) (y ∷ ys) f h = (f x y h.0, each_more R S xs ys f h.1)

-- they are as many
pub each_length : {X Y : Type 0} (R : X → Y → Type 0) (xs : List X) (ys : List Y) → AreEach R xs ys → length ys ≡ length xs
each_length R [] [] h = refl
each_length R [] (y ∷ ys) h = absurd h
each_length R (x ∷ xs) [] h = absurd h
each_length R (x ∷ xs) (y ∷ ys) h = ap (λ n. suc n) (each_length R xs ys h.1)

-- where each element gives one thing, a list gives one list
pub each_one : {X Y : Type 0} (R : X → Y → Type 0) → ((x : X) (y z : Y) → R x y → R x z → y ≡ z)
    → (xs : List X) (ys zs : List Y) → AreEach R xs ys → AreEach R xs zs → ys ≡ zs
each_one R one [] [] [] h g = refl
each_one R one [] [] (z ∷ zs) h g = absurd g
each_one R one [] (y ∷ ys) zs h g = absurd h
each_one R one (x ∷ xs) [] zs h g = absurd h
each_one R one (x ∷ xs) (y ∷ ys) [] h g = absurd g
each_one R one (x ∷ xs) (y ∷ ys) (z ∷ zs) h g =
    ap (λ a. a ∷ ys) (one x y z h.0 g.0) ∙ ap (λ es. z ∷ es) (each_one R one xs ys zs h.1 g.1)

-- what follows of each element from what it belongs to
pub each_of : {X Y : Type 0} (R : X → Y → Type 0) (P : Y → Type 0) (xs : List X) (ys : List Y)
    → ((x : X) (y : Y) → R x y → P y) → AreEach R xs ys → AllByRecursion P ys
each_of R P [] [] f h = tt
each_of R P [] (y ∷ ys) f h = absurd h
each_of R P (x ∷ xs) [] f h = absurd h
each_of R P (x ∷ xs) (y ∷ ys) f h = (f x y h.0, each_of R P xs ys f h.1)

-- one more of each
pub each_end : {X Y : Type 0} (R : X → Y → Type 0) (xs : List X) (ys : List Y) (x : X) (y : Y) → AreEach R xs ys → R x y → AreEach R (xs ++ x ∷ []) (ys ++ y ∷ [])
each_end R [] [] x y h g = (g, tt)
each_end R [] (b ∷ ys) x y h g = absurd h
each_end R (a ∷ xs) [] x y h g = absurd h
each_end R (a ∷ xs) (b ∷ ys) x y h g = (h.0, each_end R xs ys x y h.1 g)
