use Rattle.std.proofs.Common.{◌++◌, ap, ◌∙◌}
use Rattle.mast_violate.proofs.SeenLemmas.{noted_ranges}
use Rattle.mast_violate.proofs.ranges.Ranges.note.Goals as goal

pub returns : goal.returns
returns c = λ before is.
    let old = c.args.self.now in
    noted_ranges old before c.args.inclusion c.add.new.names c.add-2.new.names c.add-3.new.names is
    (c.in_ok-add.ensures ∙ ap (λ z. old.text ++ z) c.clash_of.ensures)
    (c.in_ok-add-2.ensures ∙ ap (λ z. old.integer ++ z) c.clash_of-2.ensures)
    (c.in_ok-add-3.ensures ∙ ap (λ z. old.date ++ z) c.clash_of-3.ensures)
