use Rattle.std.proofs.Common.{◌≡◌, ◌+◌, length, sym, subst}
use Rattle.mast_violate.specs.ViolationLists.{of_inclusion}
use Rattle.mast_violate.proofs.SeenLemmas.{range_count}
use Rattle.mast_violate.proofs.count.Tally.violations.Goals as goal

pub returns-in-Range-clause-is : goal.returns-in-Range-clause-is
returns-in-Range-clause-is c = λ before line is.
    subst (λ z. 1 + c.others.result ≡ length (of_inclusion before line z)) (sym c.in-Range.is) (range_count before line c.others.result c.in-Range.attr c.in-Range.kind (c.others.ensures.is before is))
