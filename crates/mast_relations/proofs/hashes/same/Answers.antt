use Rattle.std.proofs.Common.{◌≡◌, ◌-◌, ◌<◌, length, get_or, arith}
use Rattle.std.proofs.lemmas.List.{get_or_read}
use Rattle.mast_relations.specs.inside.Lasts.{HasHash, HasKey}
use Rattle.mast_relations.proofs.HashLemmas.{next_below, same_next}
use Rattle.mast_relations.proofs.LastLemmas.{last_end}
use Rattle.mast_relations.proofs.hashes.same.Goals as goal

pub loop-place-smaller : goal.loop-place-smaller
loop-place-smaller c =
    let chains = c.args.chains.now in
    let k = c.loop-place.place - 1 in
    let lt : k < length c.args.hashes.now = omega (arith, c.loop-place.invariant.within, c.loop-place-test.true) in
    let read : c.index-place.result.now ≡ get_or chains.nexts.items k 0 = get_or_read chains.nexts.items k c.index-place.result.now (omega (arith, lt, c.requires.chains.long)) c.index-place.ensures 0 in
    let below = next_below c.args.hashes.now chains k c.requires.chains lt in
    omega (arith, read, below, c.loop-place-test.true)

pub loop-place-preserved : goal.loop-place-preserved
loop-place-preserved c =
    let chains = c.args.chains.now in
    let k = c.loop-place.place - 1 in
    let lt : k < length c.args.hashes.now = omega (arith, c.loop-place.invariant.within, c.loop-place-test.true) in
    let read : c.index-place.result.now ≡ get_or chains.nexts.items k 0 = get_or_read chains.nexts.items k c.index-place.result.now (omega (arith, lt, c.requires.chains.long)) c.index-place.ensures 0 in
    let below = next_below c.args.hashes.now chains k c.requires.chains lt in
    record {
      within = omega (arith, read, below, lt);
      passed = λ count a. same_next c.args.hashes.now chains c.args.hash count c.loop-place.place c.index-place.result.now c.requires.chains c.loop-place-test.true c.loop-place.invariant.within
          (c.loop-place.invariant.passed count a) c.if-hashes-place.false read;
    }

pub returns-clause-last : goal.returns-clause-last
returns-clause-last c = λ count a.
    let size = length c.args.chains.now.heads.items in
    last_end (HasKey c.args.hashes.now size c.args.hash) (HasHash c.args.hashes.now c.args.hash) count c.loop-place.place (c.loop-place.invariant.passed count a) (omega (arith, c.loop-place-test.false))
