use Rattle.mast_canon.proofs.KeptLemmas.{is_kept_of, kept_of_law}
use Rattle.mast_canon.proofs.laws.kept_law.Goals as goal

pub returns-clause-kept : goal.returns-clause-kept
returns-clause-kept c = is_kept_of c.args.kept.now.spec.now c.args.kept.now.tables.now.list

pub returns-clause-world : goal.returns-clause-world
returns-clause-world c = (kept_of_law c.args.kept.now.spec.now c.args.kept.now.tables.now.list c.requires).world

pub returns-clause-answers : goal.returns-clause-answers
returns-clause-answers c = (kept_of_law c.args.kept.now.spec.now c.args.kept.now.tables.now.list c.requires).answers
