-- The heads so far and what may yet come are 2,000.
use Rattle.std.proofs.Common.{◌≡◌, ◌+◌, drop}
use Rattle.mast_canon_tests.proofs.HeadLemmas.{heads_of}
use Rattle.mast_canon_tests.proofs.documents.few_heads.Given as goal

abbrev pub invariant-loop-map : goal.invariant-loop-map
invariant-loop-map l = heads_of (drop l.map-index l.maps) + 2000 ≡ heads_of l.maps + l.left
