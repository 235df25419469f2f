use Rattle.std.proofs.Common.{map}
use Rattle.mast_canon.specs.CertainAnswers.{HoldsBy, constant_in}
use Rattle.mast_canon.specs.Elements.{Named}
use Rattle.mast_canon.specs.Theories.{stated}
use Rattle.mast_canon.proofs.HoldsLemmas.{holds_grows, breaks_grow, tuple_grows}
use Rattle.mast_canon.proofs.laws.growth_law.Goals as goal

pub returns-clause-holds : goal.returns-clause-holds
returns-clause-holds g c = λ facts more within. holds_grows (g.S.Truth.holds facts) (g.S.Truth.holds more) within

pub returns-clause-broken : goal.returns-clause-broken
returns-clause-broken g c = λ facts more within theory.
    let F = g.S.Truth.holds facts in
    let G = g.S.Truth.holds more in
    breaks_grow (HoldsBy theory F) (HoldsBy theory G) (holds_grows F G within (stated theory)) theory

pub returns-clause-certain : goal.returns-clause-certain
returns-clause-certain g c = λ facts more within theory q tuple.
    let F = g.S.Truth.holds facts in
    let G = g.S.Truth.holds more in
    tuple_grows (HoldsBy theory F) (HoldsBy theory G) (holds_grows F G within (stated theory)) (constant_in theory) q (map Named tuple)
