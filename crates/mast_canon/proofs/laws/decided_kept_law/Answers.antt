use Rattle.mast_canon.specs.Interpretations.{decided}
use Rattle.mast_canon.proofs.DecidedKeptLemmas.{has_kept_world}
use Rattle.mast_canon.proofs.KeptWorldLemmas.{kept_law}
use Rattle.mast_canon.proofs.ListedLemmas.{terms_of, terms_of_listed}
use Rattle.mast_canon.proofs.laws.decided_kept_law.Goals as goal

pub returns-clause-kept : goal.returns-clause-kept
returns-clause-kept g c = λ w theory facts formed model kept.
    let F = g.S.Truth.holds facts in kept_law (decided w) theory F formed.restricted (terms_of formed.listed.list) (terms_of_listed F formed.listed) formed.sorted model kept

pub returns-clause-exists : goal.returns-clause-exists
returns-clause-exists g c = λ theory facts listed. has_kept_world theory (g.S.Truth.holds facts) listed
