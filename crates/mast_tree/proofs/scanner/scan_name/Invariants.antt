use Rattle.std.proofs.Common.{◌≡◌, drop}
use Rattle.mast_tree.specs.inside.Scanner.{name_scan}
use Rattle.mast_tree.proofs.scanner.scan_name.Given as goal

abbrev pub invariant-loop-b : goal.invariant-loop-b
invariant-loop-b l = (name_scan l.at (drop l.b-index l.bytes) ≡ name_scan 0 l.bytes) × (l.at ≡ l.b-index)
