-- Bytes behind the lines leave them as they are.
use Rattle.std.proofs.Common.{◌≤◌, ◌∙◌, ap, length, arith}
use Rattle.mast_write.specs.Written.{Written}
use Rattle.mast_write.specs.inside.Buffers.{pieces, total}
use Rattle.mast_write.proofs.BufferLemmas.{pieces_append}
use Rattle.mast_write.proofs.line_set.Lines.push.Goals as goal

pub returns-clause-lines : goal.returns-clause-lines
returns-clause-lines c =
    let ns = c.self.inside.lengths.items in
    let old = c.self.inside.bytes.items in
    let within : total c.self.inside.lengths.items ≤ length c.self.inside.bytes.items = omega (arith, c.self.invariant.ends, c.self.invariant.within) in
    ap (pieces ns) c.in_ok-extend_from_slice.ensures.items ∙ pieces_append ns old c.args.bytes.now within ∙ ap (λ (w : Written). w.lines) c.self.view_is
