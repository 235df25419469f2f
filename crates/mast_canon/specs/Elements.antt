-- Elements: the terms of which facts that follow speak, named terms and successors.
use Rattle.std.specs.Prelude.{◌≡◌, ℕ}
use Rattle.mast_terms.specs.declared.term.Term.{Term}
use Rattle.mast_cq.specs.Meanings.{Fact, InClass, InRole, InAttr}

-- an element: a named term, or the successor of an element by the existential inclusion of a number. Different ones are different
pub data Element : Type 0 where
  Named : (term : Term) → Element
  Successor : (parent : Element) (number : ℕ) → Element

-- the element is a named term
abbrev pub IsNamed : Element → Type 0
IsNamed e = (t : Term) × (e ≡ Named t)

-- the fact with each of its terms changed
abbrev pub map_fact : {X Y : Type 0} → (X → Y) → Fact X → Fact Y
map_fact f (InClass a t) = InClass a (f t)
map_fact f (InRole p t u) = InRole p (f t) (f u)
map_fact f (InAttr u t v) = InAttr u (f t) (f v)
