use Rattle.std.proofs.Common.{◌≡◌, drop, false}
use Rattle.mast_tree.specs.inside.Scanner.{blank_scan}
use Rattle.mast_tree.proofs.scanner.scan_blank.Given as goal

abbrev pub invariant-loop-b : goal.invariant-loop-b
invariant-loop-b l = (blank_scan l.at l.comment (drop l.b-index l.bytes) ≡ blank_scan 0 false l.bytes) × (l.at ≡ l.b-index)
