-- The lines of the sorted places, each once, are the text of the lines.
use Rattle.std.proofs.Common.{◌∙◌, List, ap, length}
use Rattle.mast_write.specs.LineText.{IsCountedText, StandsIn, lines_text}
use Rattle.mast_write.specs.inside.Buffers.{pieces}
use Rattle.mast_write.specs.inside.Places.{Place, kept, lines_of}
use Rattle.mast_write.proofs.BufferLemmas.{if_ok_both}
use Rattle.mast_write.proofs.LineLemmas.{counted_of_places}
use Rattle.mast_write.proofs.places.sorted_text.Goals as goal

pub returns : goal.returns
returns c =
    let lines = pieces c.args.lengths.items c.args.bytes.now in
    let sorted = c.sort_unstable.new.self.items in
    if_ok_both c.join_once.result _ _ (λ r. IsCountedText (StandsIn (pieces c.args.lengths.items c.args.bytes.now)) r.text.items r.count)
    (λ r h n. counted_of_places lines c.in_ok-places.places.items sorted r.text.items r.count c.in_ok-places.ensures c.sort_unstable.ensures.permutation c.sort_unstable.ensures.sorted
    (h ∙ ap (λ (places : List Place). lines_text (kept (lines_of places))) c.deref.ensures.value)
    (n ∙ ap (λ (places : List Place). length (kept (lines_of places))) c.deref.ensures.value))
    c.join_once.ensures.text c.join_once.ensures.count
