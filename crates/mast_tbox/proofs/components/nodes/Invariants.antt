use Rattle.std.proofs.Common.{◌≡◌, [], drop}
use Rattle.indexmap.specs.IndexSet.{insert_all}
use Rattle.mast_tbox.specs.Expressions.{same_prop}
use Rattle.mast_tbox.specs.inside.Components.{all_ends}
use Rattle.mast_tbox.proofs.components.nodes.Given as goal

abbrev pub invariant-loop-inclusion : goal.invariant-loop-inclusion
invariant-loop-inclusion l = insert_all same_prop l.set (all_ends (drop l.inclusion-index l.inclusions)) ≡ insert_all same_prop [] (all_ends l.inclusions)
