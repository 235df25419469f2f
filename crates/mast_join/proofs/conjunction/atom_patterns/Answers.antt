use Rattle.std.proofs.Common.{arith, ◌∙◌}
use Rattle.mast_join.proofs.ConjoinLemmas.{mades_more}
use Rattle.mast_join.proofs.KeepingLemmas.{grown_twice}
use Rattle.mast_join.proofs.conjunction.atom_patterns.Goals as goal

pub loop-number-preserved : goal.loop-number-preserved
loop-number-preserved c =
    let inv = c.loop-number.invariant in
    let told = c.in_ok-atom_pattern.ensures in (
      told.kept,
      grown_twice c.args.store.now c.loop-number.store c.atom_pattern.new.store inv.1 told.more,
      mades_more c.args.base.now c.loop-number.store c.atom_pattern.new.store c.args.first c.loop-number.number _ c.args.atoms.now c.index-fronts-number.result c.as_slice.result.now c.args.fronts.now c.loop-number.patterns.items
          c.push.new.self.items c.in_ok-atom_pattern.field-0 (omega (arith, c.loop-number-test.true)) c.requires.long told.more inv.2 (c.as_slice.ensures ∙ c.index-fronts-number.is) told.pattern c.in_ok-push.ensures.items,
    )

pub returns-in_err-atom_pattern-clause-more : goal.returns-in_err-atom_pattern-clause-more
returns-in_err-atom_pattern-clause-more c = grown_twice c.args.store.now c.loop-number.store c.atom_pattern.new.store c.loop-number.invariant.1 c.in_err-atom_pattern.ensures.more

pub returns-in_err-push-clause-more : goal.returns-in_err-push-clause-more
returns-in_err-push-clause-more c = grown_twice c.args.store.now c.loop-number.store c.atom_pattern.new.store c.loop-number.invariant.1 c.in_ok-atom_pattern.ensures.more
