use Rattle.std.proofs.Common.{arith}
use Rattle.mast_cq.specs.contracts.atom.AtomPartialEq.TheImpl as atom
use Rattle.mast_cq.specs.contracts.atom.AtomOrd.TheImpl as order
use Rattle.mast_tbox.proofs.SortedLemmas.{sorted_ordered}
use Rattle.mast_rewrite.proofs.WayLemmas.{has_added, has_end}
use Rattle.mast_rewrite.proofs.counting.atoms_by.Goals as goal

pub loop-met-preserved : goal.loop-met-preserved
loop-met-preserved c =
    has_added atom.eq-value.it (λ x y. (c.atom_laws.ensures.equal x y).0) c.args.g c.args.h c.args.all.now c.args.way c.loop-met.atoms.keys c.add_atom.new.atoms.keys c.loop-met.met-index _ (omega arith)
    c.in_ok-add_atom.ensures c.loop-met.invariant

pub returns-clause-exact : goal.returns-clause-exact
returns-clause-exact c =
    has_end c.args.g c.args.h c.args.all.now c.args.way c.loop-met.atoms.keys c.sort.new.self.keys c.loop-met.met-index (omega arith) c.sort.ensures.reordered.0 c.loop-met.invariant

pub returns-clause-order : goal.returns-clause-order
returns-clause-order c =
    sorted_ordered order.cmp-value.it c.atom_laws.ensures.order atom.eq-value.it (λ g. (c.atom_laws.ensures.equal g g).1 (λ i. g)) c.sort.new.self.keys c.in_ok-sort.ensures.sorted c.sort.ensures.unique
