-- Bytes that are cut behind the lines leave them as they are.
use Rattle.std.proofs.Common.{◌∙◌, ap}
use Rattle.mast_write.specs.Written.{Written}
use Rattle.mast_write.specs.inside.Buffers.{pieces}
use Rattle.mast_write.proofs.BufferLemmas.{pieces_take}
use Rattle.mast_write.proofs.line_set.Lines.give_up.Goals as goal

pub returns-clause-lines : goal.returns-clause-lines
returns-clause-lines c =
    let ns = c.self.inside.lengths.items in
    ap (pieces ns) c.truncate.ensures.items
    ∙ pieces_take ns c.self.inside.begin c.self.inside.bytes.items c.self.invariant.ends c.self.invariant.within
    ∙ ap (λ (w : Written). w.lines) c.self.view_is
