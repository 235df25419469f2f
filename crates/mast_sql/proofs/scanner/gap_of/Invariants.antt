use Rattle.std.proofs.Common.{◌≡◌, ◌+◌, ◌≤◌, drop}
use Rattle.mast_sql.specs.declared.scanner.Gap.TheVariants.{Plain}
use Rattle.mast_sql.specs.inside.Scanner.{gap_scan}
use Rattle.mast_sql.proofs.scanner.gap_of.Given as goal

abbrev pub invariant-loop-b : goal.invariant-loop-b
invariant-loop-b l = (gap_scan l.size l.gap (drop l.b-index l.bytes) ≡ gap_scan 0 Plain l.bytes) × (l.size ≤ l.b-index + l.b-index)
