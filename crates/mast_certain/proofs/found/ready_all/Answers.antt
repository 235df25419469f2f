use Rattle.std.proofs.Common.{ap, arith, length}
use Rattle.mast_join.specs.Extensions.{Over}
use Rattle.mast_certain.proofs.FoundLemmas.{asked_at, ready_more}
use Rattle.mast_certain.proofs.UnionLemmas.{over_then}
use Rattle.mast_certain.proofs.found.ready_all.Goals as goal

pub ready-requires : goal.ready-requires
ready-requires c =
    asked_at _ _ c.args.queries.now c.loop-number.number _ (ap (λ (o : Over). length o.sources.vocab.constants) c.loop-number.invariant.over.over) (omega (arith, c.loop-number-test.true)) c.requires

pub loop-number-preserved : goal.loop-number-preserved
loop-number-preserved c = record {
  over = over_then c.args.extensions.now c.loop-number.extensions c.ready.new.self c.loop-number.invariant.over c.in_ok-ready.ensures.over;
  ready = ready_more c.loop-number.extensions c.ready.new.self c.args.queries.now c.loop-number.number _ c.loop-number.readies c.push.new.self c.in_ok-ready.ready (omega (arith, c.loop-number-test.true))
      c.in_ok-ready.ensures.kept c.loop-number.invariant.ready c.in_ok-ready.ensures.ready c.in_ok-ready.ensures.query c.in_ok-push.ensures.ok;
}
