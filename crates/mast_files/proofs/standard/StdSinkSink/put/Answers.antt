use Rattle.std.proofs.Common.{rules}
use Rattle.mast_files.proofs.PassedLemmas.{passed-try, passed-zero, passed-error}
use Rattle.mast_files.proofs.standard.StdSinkSink.put.Goals as goal
use Rattle.mast_files.proofs.standard.StdSinkSink.put.Goals.{in_default-via-in-Ok+else-count-gt0, in_default-via-in_default}

pub returns-in-Ok-clause-bytes : goal.returns-in-Ok-clause-bytes
returns-in-Ok-clause-bytes g c = let told = passed-try _ _ _ _ c.in-Ok.ensures.tried in search rules

pub returns-in_default-clause-bytes : goal.returns-in_default-clause-bytes
returns-in_default-clause-bytes g c =
    elim c.in_default.branch [
      | in_default-via-in-Ok+else-count-gt0 w ↦ let told = passed-zero _ _ _ _ w.if-count-gt0.false w.in-Ok.ensures.tried in search rules
      | in_default-via-in_default w ↦ let told = passed-error _ _ _ w.in_default.field-0 w.in_default.ensures.tried in search rules
    ]
