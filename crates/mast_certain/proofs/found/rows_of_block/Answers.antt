use Rattle.std.proofs.Common.{length, sym, subst}
use Rattle.std.specs.List.{AllByRecursion}
use Rattle.mast_join.specs.Answers.{IsAsked, IsReady}
use Rattle.mast_certain.proofs.FoundLemmas.{all_asked, rows_told, there_told}
use Rattle.mast_certain.proofs.found.rows_of_block.Goals as goal

pub ready_all-requires : goal.ready_all-requires
ready_all-requires g c =
    subst (AllByRecursion (IsAsked (length c.args.extensions.now.over.sources.vocab.constants))) (sym c.queries.ensures)
    (all_asked _ c.args.spec.now.normal c.args.block.now c.in_ok-members.members c.in_ok-members.ensures.members c.requires.asked)

pub rows_of-requires-clause-ready : goal.rows_of-requires-clause-ready
rows_of-requires-clause-ready g c = λ _ _. subst (AllByRecursion (IsReady c.ready_all.new.extensions)) (sym c.as_slice-2.ensures) c.in_ok-readies.ensures.ready.each

pub rows_of-requires-clause-there : goal.rows_of-requires-clause-there
rows_of-requires-clause-there g c = λ _ _ k d lt.
    there_told c.in_ok-readies.readies c.as_slice.result.now c.as_slice-2.result.now c.in_ok-slices.slices c.as_slice-3.result.now c.as_slice.ensures c.in_ok-slices.ensures c.as_slice-2.ensures c.as_slice-3.ensures k d lt

pub returns-clause-rows : goal.returns-clause-rows
returns-clause-rows g c =
    rows_told c.ready_all.new.extensions c.args.spec.now.normal c.args.block.now c.in_ok-members.members _ c.in_ok-readies.readies c.as_slice.result.now c.as_slice-2.result.now c.in_ok-slices.slices
    c.as_slice-3.result.now c.in_ok-sets.sets c.queries.ensures c.in_ok-members.ensures.members c.in_ok-readies.ensures.ready c.as_slice.ensures c.in_ok-slices.ensures c.as_slice-2.ensures c.as_slice-3.ensures
    c.in_ok-sets.ensures
