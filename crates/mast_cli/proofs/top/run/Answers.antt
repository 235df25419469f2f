-- What was judged went out, whole or to a front.
use Rattle.std.proofs.Common.{map, string_bytes}
use Rattle.mast_cli.proofs.TellingLemmas.{run_outcome, run_place, run_part}
use Rattle.mast_cli.proofs.top.run.Goals as goal

pub returns-in-Ok-write_all_of-clause-outcome : goal.returns-in-Ok-write_all_of-clause-outcome
returns-in-Ok-write_all_of-clause-outcome g c = run_outcome _ (map string_bytes c.args.words.now) (g.F.Files.reading c.judge.new.files) c.in-Ok.judged _ _ c.deref.result.now c.deref.ensures.value c.in-Ok-write_all_of.ensures.whole c.in-Ok.ensures.told

pub returns-in-Ok-write_all_of-clause-read_fault_place : goal.returns-in-Ok-write_all_of-clause-read_fault_place
returns-in-Ok-write_all_of-clause-read_fault_place g c = run_place _ (map string_bytes c.args.words.now) _ _ (g.F.Files.reading c.judge.new.files) c.in-Ok.judged c.in-Ok.ensures.told c.in-Ok.ensures.cause

pub returns-in-Ok-clause-write_fault_text : goal.returns-in-Ok-clause-write_fault_text
returns-in-Ok-clause-write_fault_text g c = λ _. run_part _ (map string_bytes c.args.words.now) (g.F.Files.faults c.args.files.now) (g.F.Files.faults c.judge.new.files) (g.F.Files.reading c.judge.new.files) c.in-Ok.judged _ _ c.deref.result.now c.in-Err-write_all_of.field-0.gone c.deref.ensures.value c.in-Err-write_all_of.ensures.gone.1 c.in-Ok.ensures.told c.in-Ok.ensures.cause
