use Rattle.std.proofs.Common.{◌≡◌, ◌++◌, map, drop}
use Rattle.mast_tbox.specs.ConstraintForms.{HaveForm}
use Rattle.mast_violate.specs.ViolationLists.{of_constraint}
use Rattle.mast_violate.proofs.list.add_constraints.Given as goal

abbrev pub invariant-loop-line : goal.invariant-loop-line
invariant-loop-line l = record {
  made : l.list ++ map of_constraint (drop l.line-index l.lines) ≡ l.fn.list ++ map of_constraint l.lines;
  formed : HaveForm (drop l.line-index l.lines);
}
