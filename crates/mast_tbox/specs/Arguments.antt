-- Arguments: what the steps by inclusions keep of them.
use Rattle.std.specs.Prelude.{◌≡◌, List, ◌↔◌}
use Rattle.mast_cq.specs.declared.atom.Arg.{Arg}
use Rattle.mast_cq.specs.declared.atom.Arg.TheVariants.{Blank}
use Rattle.mast_cq.specs.declared.atom.Atom.{Atom}
use Rattle.mast_cq.specs.Queries.{In}
use Rattle.mast_cq.specs.Sorts.{objects_of, values_of}

-- the two lists have the same arguments, but for `_`
abbrev pub AreSameButBlank : List Arg → List Arg → Type 0
AreSameButBlank xs ys = (x : Arg) → (x ≡ Blank → ⊥) → In x xs ↔ In x ys

-- the two atoms have the same arguments with the same sorts, but for `_`
pub record HaveSameArguments (g h : Atom) : Type 0 where
  pub objects : AreSameButBlank (objects_of g) (objects_of h)
  pub values : AreSameButBlank (values_of g) (values_of h)
