-- The lists are numbered, and are no longer than the statements.
use Rattle.std.proofs.Common.{subst, sym}
use Rattle.mast_tbox.specs.Numbers.{IsNumbered}
use Rattle.mast_onto.specs.Numbered.{inclusions_in}
use Rattle.mast_onto.specs.inside.Sorting.{IsSorted}
use Rattle.mast_onto.proofs.NumberedLemmas.{numbered_is, bounded_lists}
use Rattle.mast_onto.proofs.numbering.tbox_of.Goals as goal

pub invariant_of-result : goal.invariant_of-result
invariant_of-result c =
    let ss = c.args.statements.now.list in
    let is : IsSorted ss c.in_ok-draft.draft = subst (λ xs. IsSorted xs c.in_ok-draft.draft) c.as_slice.ensures c.in_ok-draft.ensures in
    record {
      numbered = subst IsNumbered (sym is.0) (numbered_is (inclusions_in ss));
      bounded = bounded_lists ss c.in_ok-draft.draft.inclusions c.in_ok-draft.draft.negatives c.in_ok-draft.draft.functional c.args.statements.now.bounded is.0 is.1 is.2;
    }
