use Rattle.std.proofs.Common.{◌∙◌}
use Rattle.mast_tbox.specs.inside.Linking.{noted_for}
use Rattle.mast_tbox.proofs.LinkLemmas.{root_next}
use Rattle.mast_tbox.proofs.name_links.note.Goals as goal

pub loop-name-preserved : goal.loop-name-preserved
loop-name-preserved c = λ n.
    root_next c.args.root n c.args.names.now c.loop-name.name-index _ (noted_for c.loop-name.chiefs n) (noted_for c.note.new.self n) c.loop-name-test.true (c.in_ok-note.ensures n) ∙ c.loop-name.invariant n
