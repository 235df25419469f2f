use Rattle.std.proofs.Common.{◌≡◌, drop}
use Rattle.mast_tree.specs.inside.Scanner.{iri_scan}
use Rattle.mast_tree.proofs.scanner.scan_iri.Given as goal

abbrev pub invariant-loop-b : goal.invariant-loop-b
invariant-loop-b l = (iri_scan l.at (drop l.b-index l.bytes) ≡ iri_scan 0 l.bytes) × (l.at ≡ l.b-index)
