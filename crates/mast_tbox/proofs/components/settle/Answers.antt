use Rattle.std.proofs.Common.{subst}
use Rattle.mast_tbox.specs.inside.Components.{AreNoted, AreClosed}
use Rattle.mast_tbox.proofs.NoteLemmas.{settles_by}
use Rattle.mast_tbox.proofs.components.settle.Goals as goal

pub returns : goal.returns
returns c =
    settles_by c.args.below.now c.args.above.now c.args.free.now c.args.chiefs.now c.args.root c.note.new.free c.note.new.chiefs c.in_ok-under.under c.in_ok-same.same c.in_ok-under.ensures c.in_ok-same.ensures
    (subst (λ w. AreNoted c.args.root w c.args.chiefs.now c.note.new.chiefs) c.as_slice.ensures c.in_ok-note.ensures.noted) (subst (λ w. AreClosed w c.args.free.now c.note.new.free) c.as_slice.ensures c.in_ok-note.ensures.closed)
