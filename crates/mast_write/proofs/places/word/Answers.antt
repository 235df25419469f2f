-- Each byte has room, and behind the last one the word is whole.
use Rattle.std.proofs.Common.{arith}
use Rattle.mast_write.proofs.PlaceLemmas.{byte_fits}
use Rattle.mast_write.proofs.WordLemmas.{are_bytes, word_done}
use Rattle.mast_write.proofs.places.word.Goals as goal

pub overflow_mul-word : goal.overflow_mul-word
overflow_mul-word c =
    let room = byte_fits c.loop-step.step c.loop-step.word c.first_byte-byte.result.0 c.loop-step.rest.now c.first_byte-byte.result.1.now c.args.bytes.now c.loop-step-test.true (are_bytes c.args.bytes.now (λ i. omega (arith, c.type_inv.bytes i))) c.loop-step.invariant c.first_byte-byte.ensures in
    omega (arith, room)

pub overflow_add-word : goal.overflow_add-word
overflow_add-word c =
    let room = byte_fits c.loop-step.step c.loop-step.word c.first_byte-byte.result.0 c.loop-step.rest.now c.first_byte-byte.result.1.now c.args.bytes.now c.loop-step-test.true (are_bytes c.args.bytes.now (λ i. omega (arith, c.type_inv.bytes i))) c.loop-step.invariant c.first_byte-byte.ensures in
    omega (arith, room)

pub returns : goal.returns
returns c = word_done c.loop-step.step c.loop-step.word c.loop-step.rest.now c.args.bytes.now c.loop-step-test.false c.loop-step.invariant
