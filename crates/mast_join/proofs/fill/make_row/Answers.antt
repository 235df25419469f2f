use Rattle.std.proofs.Common.{List, ℕ, sym, subst, ◌∙◌}
use Rattle.mast_join.specs.inside.Filling.{FitsNumber}
use Rattle.mast_join.proofs.FillLemmas.{columns_are}
use Rattle.mast_join.proofs.fill.make_row.Goals as goal

pub returns-then-fits-clause-no : goal.returns-then-fits-clause-no
returns-then-fits-clause-no c = λ front r.
    let made = c.in_ok-make_columns.ensures in
    let e = columns_are c.args.width c.args.source c.args.fact c.requires c.make_columns.new.row.items front made.long made.are r in
    (c.fits-then-fits.ensures.no (subst (λ (row : List ℕ). FitsNumber row c.args.source.second c.args.fact.second) (e ∙ sym c.deref-then-fits.ensures.value) r.second), e)

pub returns-else-fits-clause-no : goal.returns-else-fits-clause-no
returns-else-fits-clause-no c = λ front r.
    let made = c.in_ok-make_columns.ensures in
    let e = columns_are c.args.width c.args.source c.args.fact c.requires c.make_columns.new.row.items front made.long made.are r in
    (c.fits.ensures.no (subst (λ (row : List ℕ). FitsNumber row c.args.source.first c.args.fact.first) (e ∙ sym c.deref.ensures.value) r.first), e)
