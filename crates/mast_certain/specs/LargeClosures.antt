-- Blocks whose closures are too large.
use Rattle.std.specs.Prelude.{◌≡◌, ◌+◌, List, take, slice_get, Some}
use Rattle.std.specs.List.{AllByRecursion}
use Rattle.mast_cq.specs.declared.query.Cq.{Cq}
use Rattle.mast_canon.specs.declared.spec.Spec.{Spec}
use Rattle.mast_rewrite.specs.Closures.{Closure}
use Rattle.mast_rewrite.specs.Rewritings.{HasMoreThan, most}
use Rattle.mast_certain.specs.declared.closures.TooManyIn.{TooManyIn}

-- the closure of the query by the normal inclusions of the specification has more members than a rewriting may have
abbrev pub IsTooLarge : Spec → Cq → Type 0
IsTooLarge spec q = HasMoreThan most (Closure spec.normal q)

-- none of the blocks has such a closure
abbrev pub NoneIsTooLarge : Spec → List Cq → Type 0
NoneIsTooLarge spec blocks = AllByRecursion (λ q. IsTooLarge spec q → ⊥) blocks

-- the refusal names the first block that has one, and counts one member more than there may be
pub record IsFirstTooLarge (spec : Spec) (blocks : List Cq) (refusal : TooManyIn) : Type 0 where
  pub block : Cq
  pub stands : slice_get blocks refusal.block ≡ Some block
  pub large : IsTooLarge spec block
  pub before : NoneIsTooLarge spec (take refusal.block blocks)
  pub counted : refusal.count ≡ most + 1
