use Rattle.std.proofs.Common.{rules}
use Rattle.mast_files.proofs.PassedLemmas.{passed-given, passed-empty}
use Rattle.mast_files.proofs.directory.DirFilesFiles.read.Goals as goal
use Rattle.mast_files.proofs.directory.DirFilesFiles.read.Goals.{in-Some+in_default-read_again, in_default}

pub returns-in-Ok-clause-counted : goal.returns-in-Ok-clause-counted
returns-in-Ok-clause-counted g c = let told = passed-given _ _ _ _ c.in-Ok.ensures.bound.0 c.in-Ok.ensures.tried in search rules

pub returns-clause-counted : goal.returns-clause-counted
returns-clause-counted g c =
    elim c.match-self.branch [
      | in-Some+in_default-read_again w ↦ let told = passed-empty _ _ _ w.in_default-read_again.ensures.tried in search rules
      | in_default w ↦ search rules
    ]
