use Rattle.std.specs.Prelude.{◌<◌}
use Rattle.mast_cq.specs.Origins.{Passes}
use Rattle.mast_cq.proofs.OriginLemmas.{normal_comes, normal_becomes, normal_draws, normal_known, normal_names, draws_sorts}
use Rattle.mast_cq.specs.NormalForms.{normal_form}
use Rattle.mast_cq.proofs.laws.normal_origin_law.Goals as goal

pub returns-clause-comes : goal.returns-clause-comes
returns-clause-comes c = normal_comes

pub returns-clause-becomes : goal.returns-clause-becomes
returns-clause-becomes c = normal_becomes

pub returns-clause-draws : goal.returns-clause-draws
returns-clause-draws c = normal_draws

pub returns-clause-known : goal.returns-clause-known
returns-clause-known c = normal_known

pub returns-clause-names : goal.returns-clause-names
returns-clause-names c = λ sizes. normal_names (λ kind n. n < sizes kind)

pub returns-clause-named : goal.returns-clause-named
returns-clause-named c = λ test. normal_names (Passes test)

pub returns-clause-sorts : goal.returns-clause-sorts
returns-clause-sorts c = λ q one. draws_sorts (normal_form q).atoms q.atoms (normal_draws q) one
