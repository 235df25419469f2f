-- What is begun is the last line.
use Rattle.std.proofs.Common.{◌≡◌, ◌≤◌, ◌+◌, ◌-◌, ◌++◌, ◌∷◌, [], ◌∙◌, ap, length, arith}
use Rattle.mast_write.specs.Written.{Written}
use Rattle.mast_write.specs.inside.Buffers.{pieces, total}
use Rattle.std.proofs.Common.{rules}
use Rattle.mast_write.proofs.BufferLemmas.{pieces_end, total_last}
use Rattle.mast_write.proofs.line_set.Lines.end.Goals as goal

pub invariant_of-self-2 : goal.invariant_of-self-2
invariant_of-self-2 c =
    let n = c.len-end.result - c.self.inside.begin in
    let room : c.self.inside.begin ≤ c.len-end.result = search rules in
    let all : total c.push.new.self.items ≡ total c.self.inside.lengths.items + (c.len-end.result - c.self.inside.begin) =
    ap total c.in_ok-push.ensures.items ∙ total_last c.self.inside.lengths.items n in
    record { ends = omega (arith, all, room, c.self.invariant.ends); within = search rules }

pub returns-clause-lines : goal.returns-clause-lines
returns-clause-lines c =
    let n = c.len-end.result - c.self.inside.begin in
    let bytes = c.self.inside.bytes.items in
    let whole : length c.self.inside.bytes.items ≤ c.self.inside.begin + (c.len-end.result - c.self.inside.begin) = search rules in
    ap (λ ns. pieces ns bytes) c.in_ok-push.ensures.items
    ∙ pieces_end c.self.inside.lengths.items c.self.inside.begin n bytes c.self.invariant.ends whole
    ∙ ap (λ (w : Written). w.lines ++ w.begun ∷ []) c.self.view_is
