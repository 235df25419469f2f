use Rattle.std.proofs.Common.{sym, subst}
use Rattle.mast_unfold.specs.Sources.{HeadsAreOver}
use Rattle.mast_join.proofs.UnfoldingLemmas.{spec_over}
use Rattle.mast_join.proofs.unfolding.unfolder_of.Goals as goal

pub new-requires-clause-over : goal.new-requires-clause-over
new-requires-clause-over c =
    subst (λ tables. HeadsAreOver tables c.as_slice-maps.result.now) (sym c.as_slice-tables.ensures)
    (subst (λ maps. HeadsAreOver c.args.spec.now.tables maps) (sym c.as_slice-maps.ensures) (spec_over c.args.spec.now))
