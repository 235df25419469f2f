use Rattle.std.proofs.Common.{◌≡◌, drop, map}
use Rattle.indexmap.specs.IndexSet.{insert_all}
use Rattle.mast_cq.specs.contracts.atom.AtomPartialEq.TheImpl as atom
use Rattle.mast_tbox.specs.Expressions.{at}
use Rattle.mast_tbox.proofs.down.add_members.Given as goal

abbrev pub invariant-loop-basic : goal.invariant-loop-basic
invariant-loop-basic l = insert_all atom.eq-value.it l.set.keys (map (λ b. at b l.arg) (drop l.basic-index l.basics)) ≡ insert_all atom.eq-value.it l.fn.set.keys (map (λ b. at b l.arg) l.basics)
