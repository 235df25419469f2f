use Rattle.std.proofs.Common.{◌≡◌, ℕ, List, true}
use Rattle.std.specs.List.{list_all}
use Rattle.mast_relations.specs.Matches.{Rows}
use Rattle.mast_conditions.specs.Truth.{truths}
use Rattle.mast_conditions.specs.inside.Links.{AreEqual}
use Rattle.mast_conditions.proofs.linking.+equalities.Given as goal

-- what was found so far holds where all are true
abbrev pub invariant-loop-condition : goal.invariant-loop-condition
invariant-loop-condition l = (relations : List Rows) (numbers : List ℕ) → AreEqual l.fn.found.items numbers
    → list_all (λ part. part numbers) (truths relations l.condition-items) ≡ true → AreEqual l.found.items numbers
