use Rattle.std.proofs.Common.{map}
use Rattle.mast_unfold.specs.inside.Equations.{both, all_links}
use Rattle.mast_unfold.proofs.LinkLemmas.{links_step, links_end}
use Rattle.mast_unfold.proofs.equations.links.Goals as goal

pub loop-equation-preserved : goal.loop-equation-preserved
loop-equation-preserved c =
    links_step c.args.equations.now c.loop-equation.equation-index c.equation-item.result c.loop-equation.links c.add_links.new.links c.loop-equation-test.true c.equation-item.is c.in_ok-add_links.ensures
    (all_links (map both c.args.equations.now)) c.loop-equation.invariant

pub returns : goal.returns
returns c = links_end c.args.equations.now c.loop-equation.equation-index c.loop-equation.links c.loop-equation-test.false (all_links (map both c.args.equations.now)) c.loop-equation.invariant
