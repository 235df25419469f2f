use Rattle.std.proofs.Common.{◌+◌, List, take, sym, subst}
use Rattle.std.specs.List.{AllZip}
use Rattle.mast_join.specs.declared.values.SlotPlace.{SlotPlace}
use Rattle.mast_join.specs.inside.Places.{IsSlotPlace}
use Rattle.mast_join.proofs.HeadLemmas.{slots_more, zip_more}
use Rattle.mast_join.proofs.ValueLemmas.{keeps_twice}
use Rattle.mast_join.proofs.places.slot_places.Goals as goal

pub loop-slot-preserved : goal.loop-slot-preserved
loop-slot-preserved c =
    let l = c.loop-slot in
    let new = c.slot_place.new.terms in
    record {
      places = subst (λ (places : List SlotPlace). AllZip (IsSlotPlace new c.args.decls.now c.args.query.now) (take (l.slot-index + 1) c.args.slots.now) places) (sym {A = List SlotPlace} c.in_ok-push.ensures.items)
          (zip_more (IsSlotPlace new c.args.decls.now c.args.query.now) c.args.slots.now l.places.items l.slot-index c.slot-item.result c.in_ok-slot_place.field-0 c.loop-slot-test.true c.slot-item.is
          (slots_more l.terms new c.args.decls.now c.args.query.now (take l.slot-index c.args.slots.now) l.places.items c.slot_place.ensures.kept l.invariant.places) c.in_ok-slot_place.ensures.place);
      kept = keeps_twice c.args.terms.now l.terms new l.invariant.kept c.slot_place.ensures.kept;
    }
