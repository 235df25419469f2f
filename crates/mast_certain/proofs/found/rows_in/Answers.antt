use Rattle.mast_certain.proofs.FoundLemmas.{found_here}
use Rattle.mast_certain.proofs.found.rows_in.Goals as goal

pub returns : goal.returns
returns c =
    found_here c.args.extensions.now c.args.readies.now c.args.slice c.index-readies-slice.result _ c.new-rows.result c.answers.new.found c.requires.there c.index-readies-slice.is c.new-rows.ensures
    c.in_ok-answers.ensures.gained c.in_ok-answers.ensures.all
