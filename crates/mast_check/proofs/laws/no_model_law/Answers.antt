use Rattle.mast_canon.specs.Facts.{IsOfTables}
use Rattle.mast_canon.specs.SpecFacts.{AllFacts}
use Rattle.mast_canon.specs.Theories.{theory_of}
use Rattle.mast_canon.proofs.ModelsLemmas.{models_law}
use Rattle.mast_canon.proofs.SpecLemmas.{spec_restricted, all_listed, all_sorted, rows_in_range}
use Rattle.mast_check.proofs.FormLemmas.{spec_proper}
use Rattle.mast_check.proofs.ModelLemmas.{is_decided}
use Rattle.mast_check.proofs.laws.no_model_law.Goals as goal

pub returns-clause-decided : goal.returns-clause-decided
returns-clause-decided c =
    let spec = c.args.spec.now in
    let tables = c.args.tables.now.list in
    let v = c.len.ensures.lawful in
    is_decided (AllFacts spec tables) (theory_of spec) (spec_proper spec v) (rows_in_range spec tables (IsOfTables tables) v) (all_listed spec tables)

pub returns-clause-worlds : goal.returns-clause-worlds
returns-clause-worlds c =
    let spec = c.args.spec.now in
    let tables = c.args.tables.now.list in
    let v = c.len.ensures.lawful in
    (models_law (theory_of spec) (AllFacts spec tables) (all_listed spec tables) (spec_restricted spec) (all_sorted spec tables)).where_decided
    (is_decided (AllFacts spec tables) (theory_of spec) (spec_proper spec v) (rows_in_range spec tables (IsOfTables tables) v) (all_listed spec tables))
