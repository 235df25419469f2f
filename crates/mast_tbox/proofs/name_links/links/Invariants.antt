use Rattle.std.proofs.Common.{◌≡◌, [], drop}
use Rattle.indexmap.specs.IndexSet.{insert_all}
use Rattle.mast_tbox.specs.declared.expression.Basic.{Basic}
use Rattle.mast_tbox.specs.Expressions.{same_basic}
use Rattle.mast_tbox.specs.inside.Groups.{found}
use Rattle.mast_tbox.specs.Inclusions.{pairs, firsts}
use Rattle.mast_tbox.specs.NameLinks.{links}
use Rattle.mast_tbox.proofs.name_links.links.Given as goal

abbrev pub invariant-loop-inclusion : goal.invariant-loop-inclusion
invariant-loop-inclusion l = (b : Basic) → insert_all same_basic (found same_basic l.groups b) (firsts same_basic b (pairs links (drop l.inclusion-index l.inclusions))) ≡ insert_all same_basic [] (firsts same_basic b (pairs links l.inclusions))
