use Rattle.std.proofs.Common.{◌≡◌, drop}
use Rattle.std.specs.List.{filter}
use Rattle.indexmap.specs.IndexSet.{insert_all}
use Rattle.mast_tbox.specs.Expressions.{same_prop}
use Rattle.mast_tbox.specs.inside.Chosen.{is_in}
use Rattle.mast_tbox.proofs.components.add_within.Given as goal

abbrev pub invariant-loop-prop : goal.invariant-loop-prop
invariant-loop-prop l = insert_all same_prop l.set (filter (λ p. is_in p l.within) (drop l.prop-index l.props)) ≡ insert_all same_prop l.fn.set (filter (λ p. is_in p l.within) l.props)
