use Rattle.std.proofs.Common.{◌≡◌, drop}
use Rattle.mast_tree.specs.inside.Scanner.{lang_scan}
use Rattle.mast_tree.proofs.scanner.scan_lang.Given as goal

abbrev pub invariant-loop-b : goal.invariant-loop-b
invariant-loop-b l = (lang_scan l.at (drop l.b-index l.bytes) ≡ lang_scan 0 l.bytes) × (l.at ≡ l.b-index)
