-- What a task tells is what the run tells.
use Rattle.std.proofs.Common.{◌≡◌, Some, subst}
use Rattle.mast_cli.specs.Run.{bytes_of}
use Rattle.mast_cli.specs.stage.Restrictions.{files_of}
use Rattle.mast_cli.specs.Words.{task_of}
use Rattle.mast_cli.proofs.RunLemmas.{check_run, facts_run, same_files}
use Rattle.mast_cli.proofs.top.judge.Goals as goal

pub returns-in-Ok-Facts-clause-told : goal.returns-in-Ok-Facts-clause-told
returns-in-Ok-Facts-clause-told g c =
    facts_run (bytes_of c.args.words.now) (g.F.Files.reading c.judge_facts.new.files) (g.F.Files.contents c.args.files.now) c.in-Ok-Facts.mappings c.as_str.result.now c.judge_facts.result
    c.as_str.ensures (subst (λ t. task_of (bytes_of c.args.words.now) ≡ Some t) c.in-Ok-Facts.field-0-is c.in-Ok-Facts.ensures.told) c.judge_facts.ensures.told

pub returns-in-Ok-Check-clause-told : goal.returns-in-Ok-Check-clause-told
returns-in-Ok-Check-clause-told g c =
    check_run (bytes_of c.args.words.now) (g.F.Files.reading c.judge_check.new.files) (g.F.Files.contents c.args.files.now)
    c.in-Ok-Check.ontology c.in-Ok-Check.constraints c.in-Ok-Check.mappings c.in-Ok-Check.workers
    (files_of c.as_str-in-Ok-Check.result.now c.as_str-in-Ok-Check-2.result.now c.as_str-in-Ok-Check-3.result.now) c.judge_check.result
    (same_files _ _ _ _ _ _ c.as_str-in-Ok-Check.ensures c.as_str-in-Ok-Check-2.ensures c.as_str-in-Ok-Check-3.ensures)
    (subst (λ t. task_of (bytes_of c.args.words.now) ≡ Some t) c.in-Ok-Check.field-0-is c.in-Ok-Check.ensures.told) c.judge_check.ensures.told
