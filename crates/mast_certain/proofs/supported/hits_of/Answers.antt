-- The hits of one block more, and the first block that is refused.
use Rattle.std.proofs.Common.{ap, arith, subst, sym}
use Rattle.mast_join.specs.declared.extensions.Wanted.TheVariants.{AllHits}
use Rattle.mast_join.specs.Extensions.{Over}
use Rattle.mast_certain.specs.Answered.{AreHits, IsBlock, project_of}
use Rattle.mast_certain.proofs.BlockLemmas.{each_here, none_all, none_here, stopped_here}
use Rattle.mast_certain.proofs.SupportedLemmas.{hits_all, hits_here}
use Rattle.mast_certain.proofs.UnionLemmas.{over_stays, over_then}
use Rattle.mast_certain.proofs.supported.hits_of.Goals as goal

pub add_block-requires-clause-over : goal.add_block-requires-clause-over
add_block-requires-clause-over g c = λ _ _. over_stays c.args.spec.now AllHits c.args.extensions.now c.loop-number.extensions c.loop-number.invariant.over c.requires.over

pub add_block-requires-clause-block : goal.add_block-requires-clause-block
add_block-requires-clause-block g c = λ _ _.
    each_here (IsBlock c.args.spec.now) c.args.blocks.now c.loop-number.number c.index-blocks-number.result (omega (arith, c.loop-number-test.true)) c.index-blocks-number.is c.requires.blocks

pub returns-in_err-add_block-clause-hits : goal.returns-in_err-add_block-clause-hits
returns-in_err-add_block-clause-hits g c =
    stopped_here c.args.spec.now c.args.blocks.now (AreHits (project_of c.args.spec.now c.args.extensions.now.over.rows) c.args.blocks.now) c.loop-number.number c.index-blocks-number.result c.from_residual.result
    c.in_err-add_block.field-0.0 (omega (arith, c.loop-number-test.true)) c.index-blocks-number.is c.loop-number.invariant.none c.in_err-add_block.ensures.stopped c.from_residual.ensures.1

pub loop-number-preserved : goal.loop-number-preserved
loop-number-preserved g c = record {
  over = over_then c.args.extensions.now c.loop-number.extensions c.add_block.new.extensions c.loop-number.invariant.over c.in_ok-add_block.ensures.over;
  hits = hits_here c.args.spec.now c.args.extensions.now.over.rows c.args.blocks.now c.loop-number.number c.index-blocks-number.result c.loop-number.extensions.over.rows c.loop-number.hits.items
      c.add_block.new.hits.items (omega (arith, c.loop-number-test.true)) c.index-blocks-number.is (ap (λ (o : Over). o.rows) c.loop-number.invariant.over.over) c.loop-number.invariant.hits
      c.in_ok-add_block.ensures.hits;
  none = none_here c.args.spec.now c.args.blocks.now c.loop-number.number c.index-blocks-number.result (omega (arith, c.loop-number-test.true)) c.index-blocks-number.is c.loop-number.invariant.none
      c.in_ok-add_block.ensures.fits;
}

pub returns-clause-hits : goal.returns-clause-hits
returns-clause-hits g c =
    subst (AreHits (project_of c.args.spec.now c.args.extensions.now.over.rows) c.args.blocks.now) (sym c.from_vec.ensures)
    (hits_all c.args.spec.now c.args.extensions.now.over.rows c.args.blocks.now c.loop-number.number c.loop-number.hits.items (omega (arith, c.loop-number-test.false)) c.loop-number.invariant.hits)

pub returns-clause-fits : goal.returns-clause-fits
returns-clause-fits g c = none_all c.args.spec.now c.args.blocks.now c.loop-number.number (omega (arith, c.loop-number-test.false)) c.loop-number.invariant.none
