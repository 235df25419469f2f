use Rattle.std.proofs.Common.{◌≡◌, drop, false}
use Rattle.mast_tree.specs.inside.Scanner.{str_scan}
use Rattle.mast_tree.proofs.scanner.scan_str.Given as goal

abbrev pub invariant-loop-b : goal.invariant-loop-b
invariant-loop-b l = (str_scan l.at l.escaped (drop l.b-index l.bytes) ≡ str_scan 0 false l.bytes) × (l.at ≡ l.b-index)
