-- The hits of the block's rows are those of the block.
use Rattle.std.proofs.Common.{refl}
use Rattle.mast_join.specs.declared.extensions.Wanted.TheVariants.{AllHits}
use Rattle.mast_certain.proofs.TupleLemmas.{block_has, rows_of_numbers}
use Rattle.mast_certain.proofs.UnionLemmas.{asked_over}
use Rattle.mast_certain.proofs.supported.add_block.Goals as goal

pub rows_of_block-requires-clause-asked : goal.rows_of_block-requires-clause-asked
rows_of_block-requires-clause-asked g c = λ _ _. asked_over c.args.spec.now AllHits c.args.extensions.now c.args.block.now c.requires.over c.requires.block

pub add_sets-requires : goal.add_sets-requires
add_sets-requires g c =
    rows_of_numbers c.args.spec.now c.args.extensions.now c.rows_of_block.new.extensions c.in_ok-sets.ensures.over c.len.ensures.lawful c.args.block.now c.requires.block
    c.in_ok-sets.sets c.as_slice.result.now c.as_slice.ensures c.in_ok-sets.ensures.rows c.requires.over _ c.as_slice-width.result.now refl c.as_slice-width.ensures

pub returns-clause-hits : goal.returns-clause-hits
returns-clause-hits g c =
    block_has c.args.spec.now c.args.extensions.now c.rows_of_block.new.extensions c.in_ok-sets.ensures.over c.len.ensures.lawful c.args.block.now c.requires.block
    c.in_ok-sets.sets c.as_slice.result.now c.as_slice.ensures c.in_ok-sets.ensures.rows c.requires.over _ c.as_slice-width.result.now refl c.as_slice-width.ensures
    c.args.hits.now.items c.add_sets.new.hits.items c.in_ok-add_sets.ensures
