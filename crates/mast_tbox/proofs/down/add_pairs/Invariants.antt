use Rattle.std.proofs.Common.{◌≡◌, drop, map}
use Rattle.indexmap.specs.IndexSet.{insert_all}
use Rattle.mast_cq.specs.contracts.atom.AtomPartialEq.TheImpl as atom
use Rattle.mast_tbox.specs.Expressions.{pair}
use Rattle.mast_tbox.proofs.down.add_pairs.Given as goal

abbrev pub invariant-loop-prop : goal.invariant-loop-prop
invariant-loop-prop l = insert_all atom.eq-value.it l.set.keys (map (λ p. pair p l.from l.to) (drop l.prop-index l.props)) ≡ insert_all atom.eq-value.it l.fn.set.keys (map (λ p. pair p l.from l.to) l.props)
