use Rattle.mast_canon.proofs.ConflictLemmas.{no_empty_conflict, part_has_model}
use Rattle.mast_canon.proofs.laws.conflict_law.Goals as goal

pub returns-clause-empty : goal.returns-clause-empty
returns-clause-empty c = no_empty_conflict c.args.spec.now c.args.tables.now.list

pub returns-clause-parts : goal.returns-clause-parts
returns-clause-parts c = part_has_model c.args.spec.now c.args.tables.now.list
