use Rattle.std.proofs.Common.{◌<◌, ◌≤◌, [], ℕ, get_or}
use Rattle.mast_relations.specs.Stores.{HasAll, HasOnlyGained}
use Rattle.mast_relations.specs.inside.Joins.{LeftAnswer, SliceAnswer}
use Rattle.mast_relations.proofs.SliceLemmas.{first_rows}
use Rattle.mast_relations.proofs.join.Join.joins_slice.Given as goal

-- the answers over each row that was passed are there
abbrev pub invariant-loop-place : goal.invariant-loop-place
invariant-loop-place g l = record {
  only : HasOnlyGained (SliceAnswer l.self.relations.now l.self.plan.now (g.T.Test.passes l.self.test.now) l.from l.to) l.fn.found l.found;
  all : (q : ℕ) → l.from ≤ q → q < l.place
      → HasAll (LeftAnswer l.self.relations.now l.self.plan.now (g.T.Test.passes l.self.test.now) l.self.plan.now.joined.items (get_or (first_rows l.self.relations.now l.self.plan.now) q [])) l.found;
}
