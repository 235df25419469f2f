use Rattle.std.proofs.Common.{take}
use Rattle.std.specs.List.{AllZip}
use Rattle.mast_join.specs.inside.Places.{IsSlotPlace}
use Rattle.mast_join.specs.inside.Values.{KeepsNumbers}
use Rattle.mast_join.proofs.places.slot_places.Given as goal

-- the places of the slots so far
abbrev pub invariant-loop-slot : goal.invariant-loop-slot
invariant-loop-slot l = record {
  places : AllZip (IsSlotPlace l.terms l.decls l.query) (take l.slot-index l.slots) l.places.items;
  kept : KeepsNumbers l.fn.terms l.terms;
}
