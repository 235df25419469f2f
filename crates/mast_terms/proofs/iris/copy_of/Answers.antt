use Rattle.std.specs.Prelude.{string_bytes, ◌≡◌}
use Rattle.mast_terms.proofs.PlaceLemmas.{map-AllZip, length-AllZip}
use Rattle.mast_terms.proofs.iris.copy_of.Goals as goal

pub returns-clause-copy : goal.returns-clause-copy
returns-clause-copy c = map-AllZip string_bytes c.args.set.now.keys c.in_ok-clone.field-0.keys c.in_ok-clone.ensures.cases

pub returns-clause-len : goal.returns-clause-len
returns-clause-len c = length-AllZip (λ a b. string_bytes b ≡ string_bytes a) c.args.set.now.keys c.in_ok-clone.field-0.keys c.in_ok-clone.ensures.cases
