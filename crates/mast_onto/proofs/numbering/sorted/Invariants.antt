use Rattle.std.proofs.Common.{◌≡◌, ◌≤◌, ◌++◌, drop}
use Rattle.mast_onto.specs.Numbered.{inclusions_in, negatives_in, functional_in, numbered}
use Rattle.mast_onto.specs.inside.Sorting.{sorted}
use Rattle.mast_onto.proofs.numbering.sorted.Given as goal

-- what is in each list and what the statements that are left add make the whole; each statement is in one list, and takes one number at most
abbrev pub invariant-loop-line : goal.invariant-loop-line
invariant-loop-line l =
    (l.draft.inclusions ++ numbered l.draft.next (inclusions_in (drop l.line-index l.lines)) ≡ numbered 0 (inclusions_in l.lines))
    × (l.draft.negatives ++ negatives_in (drop l.line-index l.lines) ≡ negatives_in l.lines)
    × (l.draft.functional ++ functional_in (drop l.line-index l.lines) ≡ functional_in l.lines)
    × (l.draft.next ≤ l.line-index)
    × (sorted l.draft ≡ l.line-index)
