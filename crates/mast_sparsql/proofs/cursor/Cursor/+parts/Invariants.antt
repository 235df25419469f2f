use Rattle.std.proofs.Common.{◌+◌, ◌*◌}
use Rattle.mast_sparsql.specs.inside.Parts.{ReadsBody, ReadsCondition}
use Rattle.mast_sparsql.proofs.cursor.Cursor.+parts.Given as goal

abbrev pub decreases-body : goal.decreases-body
decreases-body l = l.depth * 10 + 9

abbrev pub decreases-term : goal.decreases-term
decreases-term l = l.depth * 10 + 8

abbrev pub decreases-factor : goal.decreases-factor
decreases-factor l = l.depth * 10 + 7

abbrev pub decreases-select : goal.decreases-select
decreases-select l = l.depth * 10 + 6

abbrev pub decreases-filter : goal.decreases-filter
decreases-filter l = l.depth * 10 + 5

abbrev pub decreases-condition : goal.decreases-condition
decreases-condition l = l.depth * 10 + 4

abbrev pub decreases-conjunction : goal.decreases-conjunction
decreases-conjunction l = l.depth * 10 + 3

abbrev pub decreases-negation : goal.decreases-negation
decreases-negation l = l.depth * 10 + 2

abbrev pub decreases-plain : goal.decreases-plain
decreases-plain l = l.depth * 10 + 1

abbrev pub invariant-body-loop : goal.invariant-body-loop
invariant-body-loop l = ReadsBody 2 l.fn.self l.self l.left

abbrev pub invariant-condition-loop : goal.invariant-condition-loop
invariant-condition-loop l = ReadsCondition 2 l.fn.self l.self l.left

abbrev pub invariant-conjunction-loop : goal.invariant-conjunction-loop
invariant-conjunction-loop l = ReadsCondition 1 l.fn.self l.self l.left

abbrev pub invariant-term-loop : goal.invariant-term-loop
invariant-term-loop l = ReadsBody 1 l.fn.self l.self l.left
