-- Each call so far was interrupted.
use Rattle.std.proofs.Common.{◌≡◌, ◌++◌}
use Rattle.mast_files.specs.Calls.{interruptions}
use Rattle.mast_files.proofs.os.Output.write_again.Given as goal

abbrev pub invariant-loop : goal.invariant-loop
invariant-loop g l = l.self.writes.calls ≡ interruptions l.counter l.piece ++ l.fn.self.writes.calls
