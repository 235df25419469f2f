use Rattle.std.proofs.Common.{length}
use Rattle.mast_relations.specs.Matches.{IsConjunction}
use Rattle.mast_relations.specs.Plans.{AreBelow, AreSteps, Once}
use Rattle.mast_relations.specs.Stores.{contents}
use Rattle.mast_relations.specs.inside.Planning.{AreGrown, AreTaken}
use Rattle.mast_relations.proofs.planning.steps.Given as goal

-- the steps so far
abbrev pub invariant-loop-alloc : goal.invariant-loop-alloc
invariant-loop-alloc l = record {
  query : IsConjunction (contents l.relations) l.query;
  steps : AreSteps l.relations l.query l.fn.bound.items l.steps.items l.bound.items;
  taken : AreTaken l.fn.left.items l.steps.items l.left.items;
  below : AreBelow (length l.query.patterns) l.left.items;
  once : Once l.fn.bound.items → Once l.bound.items;
  grown : AreGrown l.fn.relations l.relations;
}

abbrev pub decreases-loop-alloc : goal.decreases-loop-alloc
decreases-loop-alloc l = length l.left.items
