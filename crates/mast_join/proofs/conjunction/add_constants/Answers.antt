use Rattle.std.proofs.Common.{arith}
use Rattle.mast_join.proofs.ConjoinLemmas.{adds_more}
use Rattle.mast_join.proofs.KeepingLemmas.{grown_twice}
use Rattle.mast_join.proofs.conjunction.add_constants.Goals as goal

pub returns-in_err-add_constant-clause-more : goal.returns-in_err-add_constant-clause-more
returns-in_err-add_constant-clause-more c = grown_twice c.args.store.now c.loop-number.store c.add_constant.new.store c.loop-number.invariant.1 c.in_err-add_constant.ensures.more

pub loop-number-preserved : goal.loop-number-preserved
loop-number-preserved c =
    let inv = c.loop-number.invariant in
    let told = c.in_ok-add_constant.ensures in (
      told.kept,
      grown_twice c.args.store.now c.loop-number.store c.add_constant.new.store inv.1 told.more,
      adds_more c.args.base.now c.loop-number.store c.add_constant.new.store c.args.first c.loop-number.number _ c.args.answer.now c.args.patterns.now.items c.loop-number.patterns.items c.add_constant.new.patterns.items
          (omega (arith, c.loop-number-test.true)) told.more inv.2 told.added,
    )
