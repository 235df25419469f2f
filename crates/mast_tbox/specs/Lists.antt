-- Lists: each element once, what is reached by steps, the items of lines, and lists element by element.
use Rattle.std.specs.Prelude.{List, [], ◌∷◌, map, Bool, if◌then◌else◌}
use Rattle.mast_tbox.specs.declared.axiom.Lined.{Lined}

-- the items of lines
abbrev pub items : {X : Type 0} → List (Lined X) → List X
items ls = map (λ l. l.item) ls

-- the elements of two lists belong to each other, in order
abbrev pub AreEach : {X Y : Type 0} → (X → Y → Type 0) → List X → List Y → Type 0
AreEach R [] [] = Unit {0}
AreEach R [] (y ∷ ys) = ⊥
AreEach R (x ∷ xs) [] = ⊥
AreEach R (x ∷ xs) (y ∷ ys) = R x y × AreEach R xs ys

-- y is reached from x by a list of steps, which may be empty
pub data Reaches {X : Type 0} (Step : X → X → Type 0) : X → X → Type 0 where
  itself : {x : X} → Reaches Step x x
  onward : {x y z : X} → Step x y → Reaches Step y z → Reaches Step x z

module _ {X : Type 0} (same : X → X → Bool) where
  -- the elements that are not the same as one
  abbrev pub others : X → List X → List X
  others x [] = []
  others x (y ∷ ys) = if same x y then others x ys else y ∷ others x ys

  -- the elements in their order, each once, where it stands first
  abbrev pub once : List X → List X
  once [] = []
  once (x ∷ xs) = x ∷ others x (once xs)
