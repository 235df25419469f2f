use Rattle.std.proofs.Common.{◌≡◌, ◌⊎◌, Some, Contains, drop}
use Rattle.mast_tbox.specs.declared.expression.Basic.{Basic}
use Rattle.mast_tbox.specs.declared.axiom.Inclusion.{Inclusion}
use Rattle.mast_tbox.specs.NameLinks.{left_name}
use Rattle.mast_tbox.specs.inside.Linking.{noted_for, AreSettled}
use Rattle.mast_tbox.proofs.name_links.name_chiefs.Given as goal

abbrev pub invariant-loop-inclusion : goal.invariant-loop-inclusion
invariant-loop-inclusion l = record {
  settled : AreSettled l.links (noted_for l.chiefs);
  sides : (i : Inclusion) → Contains l.inclusions i → Contains (drop l.inclusion-index l.inclusions) i ⊎ ((r : Basic) × (noted_for l.chiefs (left_name i) ≡ Some r));
}
