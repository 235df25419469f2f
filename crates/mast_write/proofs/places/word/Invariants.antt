-- The word so far and the bytes that are left make the whole word.
use Rattle.std.proofs.Common.{◌≡◌, ◌-◌}
use Rattle.mast_write.specs.declared.places.TheConstants.{WORD_BYTES}
use Rattle.mast_write.specs.inside.Places.{word_of}
use Rattle.mast_write.proofs.places.word.Given as goal

abbrev pub invariant-loop-step : goal.invariant-loop-step
invariant-loop-step l = word_of l.word (WORD_BYTES - l.step) l.rest ≡ word_of 0 WORD_BYTES l.bytes
