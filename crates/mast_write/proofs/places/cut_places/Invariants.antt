-- The places so far and the pieces of what is left are the pieces of the whole.
use Rattle.std.proofs.Common.{◌≡◌, ◌++◌, drop}
use Rattle.std.specs.List.{AllByRecursion}
use Rattle.mast_write.specs.inside.Buffers.{pieces}
use Rattle.mast_write.specs.inside.Places.{IsPlace, lines_of}
use Rattle.mast_write.proofs.places.cut_places.Given as goal

abbrev pub invariant-loop-length : goal.invariant-loop-length
invariant-loop-length l = record {
  lines : lines_of l.places.items ++ pieces (drop l.length-index l.lengths) l.rest ≡ pieces l.lengths l.bytes;
  words : AllByRecursion (IsPlace l.skip) l.places.items;
}
