-- The text so far and the lines that are left make the whole text, and so with their number.
use Rattle.std.proofs.Common.{◌≡◌, ◌≤◌, ◌+◌, ◌++◌, drop, length}
use Rattle.mast_write.specs.LineText.{lines_text}
use Rattle.mast_write.specs.inside.Places.{kept_from, lines_of}
use Rattle.mast_write.proofs.places.join_after.Given as goal

abbrev pub invariant-loop-place : goal.invariant-loop-place
invariant-loop-place l = record {
  text : l.text.items ++ lines_text (kept_from l.last (lines_of (drop l.place-index l.places))) ≡ l.fn.text.items ++ lines_text (kept_from l.line (lines_of l.places));
  count : l.count + length (kept_from l.last (lines_of (drop l.place-index l.places))) ≡ length (kept_from l.line (lines_of l.places));
  few : l.count ≤ l.place-index;
}
