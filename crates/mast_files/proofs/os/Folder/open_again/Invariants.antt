-- Each call so far was interrupted.
use Rattle.std.proofs.Common.{◌≡◌, ◌++◌}
use Rattle.mast_files.specs.Calls.{interruptions}
use Rattle.mast_files.proofs.os.Folder.open_again.Given as goal

abbrev pub invariant-loop : goal.invariant-loop
invariant-loop g l = record {
  calls : l.self.opens.calls ≡ interruptions l.counter l.name ++ l.fn.self.opens.calls;
  kept : l.self.reads.calls ≡ l.fn.self.reads.calls;
}
