-- The words stand behind the front that all lines have.
use Rattle.std.proofs.Common.{◌∙◌, List, ℕ, ap, subst}
use Rattle.std.specs.List.{AllByRecursion}
use Rattle.mast_write.specs.inside.Buffers.{pieces}
use Rattle.mast_write.specs.inside.Places.{ArePlaces, Begins}
use Rattle.mast_write.proofs.BufferLemmas.{if_ok_both}
use Rattle.mast_write.proofs.places.all_places.Goals as goal

pub returns : goal.returns
returns c =
    let bytes = c.args.bytes.now in
    let front = c.shared_front-front.result.now in
    if_ok_both c.cut_places.result _ _ (λ places. ArePlaces (pieces c.args.lengths.items c.args.bytes.now) places.items)
    (λ places are words. record {
      front = front;
      begin = subst (λ (ns : List ℕ). AllByRecursion (Begins front) (pieces ns bytes)) c.deref.ensures.value c.shared_front-front.ensures;
      are = are ∙ ap (λ (ns : List ℕ). pieces ns bytes) c.deref-2.ensures.value;
      words = words;
    })
    c.cut_places.ensures.lines c.cut_places.ensures.words
