use Rattle.std.proofs.Common.{◌≡◌, drop}
use Rattle.mast_tbox.specs.declared.expression.Prop.{Prop}
use Rattle.mast_tbox.specs.inside.Chosen.{is_in, noted_chief}
use Rattle.mast_tbox.specs.inside.Components.{noted, kept}
use Rattle.mast_tbox.proofs.components.note.Given as goal

abbrev pub invariant-loop-prop : goal.invariant-loop-prop
invariant-loop-prop l = record {
  chief : (p : Prop) → noted l.root (drop l.prop-index l.props) p (noted_chief l.chiefs p) ≡ noted l.root l.props p (noted_chief l.fn.chiefs p);
  still : (p : Prop) → kept (drop l.prop-index l.props) p (is_in p l.free) ≡ kept l.props p (is_in p l.fn.free);
}
