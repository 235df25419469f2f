-- Each call so far was interrupted, and gave nothing. The buffer keeps its length.
use Rattle.std.proofs.Common.{◌≡◌, ◌++◌, [], length}
use Rattle.std.specs.Io.KnownBytes.{Keeps}
use Rattle.mast_files.specs.Calls.{interruptions}
use Rattle.mast_files.proofs.os.Folder.read_again.Given as goal

abbrev pub invariant-loop : goal.invariant-loop
invariant-loop g l = record {
  length : length l.buf ≡ length l.initial.buf;
  bytes : Keeps (g.F.Read.remaining l.initial.file.inner) (g.F.Read.remaining l.file.inner);
  calls : l.self.reads.calls ≡ interruptions l.counter [] ++ l.fn.self.reads.calls;
  kept : l.self.opens.calls ≡ l.fn.self.opens.calls;
  same : l.file.opens.calls ≡ l.initial.file.opens.calls;
}
