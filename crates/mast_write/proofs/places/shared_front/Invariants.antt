-- A front of the front so far that all lines left have is one of all lines.
use Rattle.std.proofs.Common.{ℕ, List, drop}
use Rattle.std.specs.List.{AllByRecursion}
use Rattle.mast_write.specs.inside.Buffers.{pieces}
use Rattle.mast_write.specs.inside.Places.{Begins}
use Rattle.mast_write.proofs.places.shared_front.Given as goal

abbrev pub invariant-loop-length : goal.invariant-loop-length
invariant-loop-length l =
    (f : List ℕ) → Begins f l.front → AllByRecursion (Begins f) (pieces (drop l.length-index l.lengths) l.rest) → AllByRecursion (Begins f) (pieces l.lengths l.bytes)
