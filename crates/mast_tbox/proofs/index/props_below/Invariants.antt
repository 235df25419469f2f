use Rattle.std.proofs.Common.{◌≡◌, [], drop}
use Rattle.indexmap.specs.IndexSet.{insert_all}
use Rattle.mast_tbox.specs.declared.expression.Prop.{Prop}
use Rattle.mast_tbox.specs.Expressions.{same_prop}
use Rattle.mast_tbox.specs.inside.Groups.{found}
use Rattle.mast_tbox.specs.Inclusions.{pairs, firsts}
use Rattle.mast_tbox.specs.inside.StepLists.{prop_pairs}
use Rattle.mast_tbox.proofs.index.props_below.Given as goal

abbrev pub invariant-loop-inclusion : goal.invariant-loop-inclusion
invariant-loop-inclusion l = (b : Prop) → insert_all same_prop (found same_prop l.groups b) (firsts same_prop b (pairs prop_pairs (drop l.inclusion-index l.inclusions))) ≡ insert_all same_prop [] (firsts same_prop b (pairs prop_pairs l.inclusions))
