use Rattle.std.proofs.Common.{◌≡◌, drop}
use Rattle.std.specs.Prelude.{None}
use Rattle.mast_sql.specs.declared.scanner.ScanState.TheVariants.{Start}
use Rattle.mast_sql.specs.inside.Scanner.{longest}
use Rattle.mast_sql.proofs.scanner.longest_token.Given as goal

abbrev pub invariant-loop-b : goal.invariant-loop-b
invariant-loop-b l = (longest l.state l.size l.best (drop l.b-index l.bytes) ≡ longest Start 0 None l.bytes) × (l.size ≡ l.b-index)
