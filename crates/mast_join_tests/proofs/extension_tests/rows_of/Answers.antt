use Rattle.mast_join_tests.proofs.RowLemmas.{slices_numbers}
use Rattle.mast_join_tests.proofs.extension_tests.rows_of.Goals as goal

pub returns : goal.returns
returns c = λ row i.
    slices_numbers c.args.extensions.now c.args.ready.now c.requires _ _ _ _ c.new-rows.result c.answers.new.found c.answers-2.new.found c.new-rows.ensures c.in_ok-answers.ensures.gained c.in_ok-answers-2.ensures.gained row i
