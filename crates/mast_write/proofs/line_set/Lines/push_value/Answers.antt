-- What is printed behind the lines leaves them as they are.
use Rattle.std.proofs.Common.{◌∙◌, ap}
use Rattle.mast_write.specs.Written.{Written}
use Rattle.mast_write.proofs.BufferLemmas.{pieces_written}
use Rattle.mast_write.proofs.line_set.Lines.push_value.Goals as goal

pub returns-clause-lines : goal.returns-clause-lines
returns-clause-lines c =
    pieces_written c.write_value.result c.self.inside.lengths.items c.self.inside.begin c.self.inside.bytes.items c.write_value.new.out.items _ c.self.invariant.ends c.self.invariant.within c.write_value.ensures.ok c.write_value.ensures.err
    ∙ ap (λ (w : Written). w.lines) c.self.view_is
