use Rattle.mast_cli.proofs.TellingLemmas.{text_told}
use Rattle.mast_cli.proofs.top.run_sound.Goals as goal

pub returns-clause-told : goal.returns-clause-told
returns-clause-told g c = text_told c.args.words.now c.args.files.now c.run.result c.args.sink.now c.run.new.sink c.run.ensures.outcome
