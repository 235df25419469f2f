use Rattle.std.proofs.Common.{refl, arith, ◌+◌}
use Rattle.mast_join.proofs.CutLemmas.{cut_one}
use Rattle.mast_join.proofs.slices.cut.Goals as goal

pub loop-from-preserved : goal.loop-from-preserved
loop-from-preserved c = record {
  within = omega (arith, c.loop-from-test.true, c.min.ensures);
  cut = cut_one c.args.query c.loop-from.from (c.loop-from.from + c.min.result) c.args.slices.now c.loop-from.slices c.push.new.self _ c.loop-from.invariant.cut refl
      (omega (arith, c.loop-from-test.true, c.min.ensures)) (omega (arith, c.min.ensures)) c.in_ok-push.ensures.ok;
}
