-- The certain answers of the blocks so far, and the first block that is refused.
use Rattle.std.proofs.Common.{ap, arith}
use Rattle.mast_join.specs.declared.extensions.Wanted.TheVariants.{Tuples}
use Rattle.mast_join.specs.Extensions.{Over}
use Rattle.mast_certain.specs.Answered.{AreCertain, IsBlock, project_of}
use Rattle.mast_certain.proofs.BlockLemmas.{each_here, none_all, none_here, stopped_here}
use Rattle.mast_certain.proofs.UnionLemmas.{all_in_order, over_stays, over_then, so_far_here}
use Rattle.mast_certain.proofs.tuples.answers_of.Goals as goal

pub add_block-requires-clause-over : goal.add_block-requires-clause-over
add_block-requires-clause-over g c = λ _ _. over_stays c.args.spec.now Tuples c.args.extensions.now c.loop-number.extensions c.loop-number.invariant.over c.requires.over

pub add_block-requires-clause-block : goal.add_block-requires-clause-block
add_block-requires-clause-block g c = λ _ _.
    each_here (IsBlock c.args.spec.now) c.args.blocks.now c.loop-number.number c.index-blocks-number.result (omega (arith, c.loop-number-test.true)) c.index-blocks-number.is c.requires.blocks

pub returns-in_err-add_block-clause-over : goal.returns-in_err-add_block-clause-over
returns-in_err-add_block-clause-over g c = over_then c.args.extensions.now c.loop-number.extensions c.add_block.new.extensions c.loop-number.invariant.over c.in_err-add_block.ensures.over

pub returns-in_err-add_block-clause-answers : goal.returns-in_err-add_block-clause-answers
returns-in_err-add_block-clause-answers g c =
    stopped_here c.args.spec.now c.args.blocks.now (AreCertain (project_of c.args.spec.now c.args.extensions.now.over.rows) c.args.blocks.now) c.loop-number.number c.index-blocks-number.result c.from_residual.result
    c.in_err-add_block.field-0.0 (omega (arith, c.loop-number-test.true)) c.index-blocks-number.is c.loop-number.invariant.none c.in_err-add_block.ensures.stopped c.from_residual.ensures.1

pub loop-number-preserved : goal.loop-number-preserved
loop-number-preserved g c = record {
  over = over_then c.args.extensions.now c.loop-number.extensions c.add_block.new.extensions c.loop-number.invariant.over c.in_ok-add_block.ensures.over;
  tuples = so_far_here c.args.spec.now c.args.extensions.now.over.rows c.args.blocks.now c.loop-number.number c.index-blocks-number.result c.loop-number.extensions.over.rows c.loop-number.tuples.items
      c.add_block.new.tuples.items (omega (arith, c.loop-number-test.true)) c.index-blocks-number.is (ap (λ (o : Over). o.rows) c.loop-number.invariant.over.over) c.loop-number.invariant.tuples
      c.in_ok-add_block.ensures.gained;
  none = none_here c.args.spec.now c.args.blocks.now c.loop-number.number c.index-blocks-number.result (omega (arith, c.loop-number-test.true)) c.index-blocks-number.is c.loop-number.invariant.none
      c.in_ok-add_block.ensures.fits;
}

pub returns-clause-answers : goal.returns-clause-answers
returns-clause-answers g c =
    all_in_order c.args.spec.now c.args.extensions.now.over.rows c.args.blocks.now c.loop-number.number c.loop-number.tuples.items c.in_order.result (omega (arith, c.loop-number-test.false))
    c.loop-number.invariant.tuples c.in_order.ensures

pub returns-clause-fits : goal.returns-clause-fits
returns-clause-fits g c = none_all c.args.spec.now c.args.blocks.now c.loop-number.number (omega (arith, c.loop-number-test.false)) c.loop-number.invariant.none
