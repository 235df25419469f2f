use Rattle.mast_canon.specs.Interpretations.{decided}
use Rattle.mast_canon.specs.SpecFacts.{AllFacts}
use Rattle.mast_canon.specs.Theories.{theory_of}
use Rattle.mast_canon.proofs.DecidedKeptLemmas.{has_kept_world}
use Rattle.mast_canon.proofs.KeptWorldLemmas.{kept_law}
use Rattle.mast_canon.proofs.ListedLemmas.{terms_of, terms_of_listed}
use Rattle.mast_canon.proofs.ModelsLemmas.{models_law}
use Rattle.mast_canon.proofs.SpecLemmas.{spec_restricted, all_listed, all_sorted}
use Rattle.mast_canon.proofs.laws.models_law.Goals as goal

pub returns-clause-models : goal.returns-clause-models
returns-clause-models c =
    let spec = c.args.spec.now in
    let tables = c.args.tables.now.list in
    models_law (theory_of spec) (AllFacts spec tables) (all_listed spec tables) (spec_restricted spec) (all_sorted spec tables)

pub returns-clause-kept : goal.returns-clause-kept
returns-clause-kept c =
    let spec = c.args.spec.now in
    let tables = c.args.tables.now.list in
    let F = AllFacts spec tables in
    let l = all_listed spec tables in
    record {
      exists = has_kept_world (theory_of spec) F l;
      kept = λ w model kept. kept_law (decided w) (theory_of spec) F (spec_restricted spec) (terms_of l.list) (terms_of_listed F l) (all_sorted spec tables) model kept;
    }
