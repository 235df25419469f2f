-- The tuples of the block's rows are its certain answers.
use Rattle.std.proofs.Common.{refl}
use Rattle.mast_join.specs.declared.extensions.Wanted.TheVariants.{Tuples}
use Rattle.mast_certain.proofs.TupleLemmas.{block_gains, rows_of_terms, rows_wide}
use Rattle.mast_certain.proofs.UnionLemmas.{asked_over}
use Rattle.mast_certain.proofs.tuples.add_block.Goals as goal

pub rows_of_block-requires-clause-asked : goal.rows_of_block-requires-clause-asked
rows_of_block-requires-clause-asked g c = λ _ _. asked_over c.args.spec.now Tuples c.args.extensions.now c.args.block.now c.requires.over c.requires.block

pub union_of-requires : goal.union_of-requires
union_of-requires g c =
    rows_wide c.args.spec.now c.args.extensions.now c.rows_of_block.new.extensions c.in_ok-sets.ensures.over c.len.ensures.lawful c.args.block.now c.requires.block
    c.in_ok-sets.sets c.as_slice-2.result.now c.as_slice-2.ensures c.in_ok-sets.ensures.rows c.requires.over _ c.as_slice.result.now refl c.as_slice.ensures

pub add_tuples-requires : goal.add_tuples-requires
add_tuples-requires g c =
    rows_of_terms c.args.spec.now c.args.extensions.now c.rows_of_block.new.extensions c.in_ok-sets.ensures.over c.len.ensures.lawful c.args.block.now c.requires.block
    c.in_ok-sets.sets c.as_slice-2.result.now c.as_slice-2.ensures c.in_ok-sets.ensures.rows c.requires.over c.in_ok-rows.rows c.in_ok-rows.ensures

pub returns-clause-gained : goal.returns-clause-gained
returns-clause-gained g c =
    block_gains c.args.spec.now c.args.extensions.now c.rows_of_block.new.extensions c.in_ok-sets.ensures.over c.len.ensures.lawful c.args.block.now c.requires.block
    c.in_ok-sets.sets c.as_slice-2.result.now c.as_slice-2.ensures c.in_ok-sets.ensures.rows c.requires.over c.in_ok-rows.rows c.in_ok-rows.ensures
    c.args.tuples.now.items c.add_tuples.new.tuples.items c.in_ok-add_tuples.ensures
