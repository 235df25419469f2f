use Rattle.std.proofs.Common.{◌≡◌, ◌++◌, ◌+◌, ◌*◌, ◌≤◌, drop}
use Rattle.std.specs.List.{AllByRecursion}
use Rattle.mast_tbox.specs.ConstraintForms.{HasPathForm, steps_together}
use Rattle.mast_violate.specs.Patterns.{all_walks}
use Rattle.mast_violate.proofs.paths.add_paths.Given as goal

abbrev pub invariant-loop-path : goal.invariant-loop-path
invariant-loop-path l = record {
  made : l.atoms ++ all_walks l.new (drop l.path-index l.paths) ≡ l.fn.atoms ++ all_walks 2 l.paths;
  formed : AllByRecursion HasPathForm (drop l.path-index l.paths);
  small : l.new + 2 * steps_together (drop l.path-index l.paths) ≤ 24;
}
