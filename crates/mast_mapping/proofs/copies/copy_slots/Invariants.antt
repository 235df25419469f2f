use Rattle.std.proofs.Common.{◌≡◌, ◌++◌, drop}
use Rattle.mast_mapping.proofs.copies.copy_slots.Given as goal

-- what is copied and what is left make the whole
abbrev pub invariant-loop-slot : goal.invariant-loop-slot
invariant-loop-slot l = l.copy ++ drop l.slot-index l.slots ≡ l.slots
