use Rattle.std.proofs.Common.{length, ap, arith}
use Rattle.mast_sparsql.proofs.LexingLemmas.{tokens_size}
use Rattle.mast_sparsql.proofs.lexing.cut.Goals as goal

pub overflow_cast-result : goal.overflow_cast-result
overflow_cast-result c =
    let e = ap length (c.as_text.ensures.utf8 c.requires.utf8) in
    let l = tokens_size c.as_text.result.now c.in_ok-tokens.tokens c.in_ok-tokens.ensures in
    let s = ap length c.as_slice.ensures in
    let m = c.requires.size in
    omega arith
