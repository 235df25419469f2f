use Rattle.std.proofs.Common.{◌∙◌}
use Rattle.mast_tbox.specs.inside.Chosen.{is_in, noted_chief}
use Rattle.mast_tbox.proofs.NoteLemmas.{noted_next, kept_next}
use Rattle.mast_tbox.proofs.components.note.Goals as goal

pub loop-prop-preserved : goal.loop-prop-preserved
loop-prop-preserved c = record {
  chief = λ p. noted_next c.args.root p c.args.props.now c.loop-prop.prop-index _ (noted_chief c.loop-prop.chiefs p) (noted_chief c.note.new.self p) c.loop-prop-test.true (c.in_ok-note.ensures p) ∙ c.loop-prop.invariant.chief p;
  still = λ p. kept_next p c.args.props.now c.loop-prop.prop-index _ (is_in p c.loop-prop.free) (is_in p c.remove.new.self) c.loop-prop-test.true (c.remove.ensures p) ∙ c.loop-prop.invariant.still p;
}
