use Rattle.std.proofs.Common.{◌≡◌, ◌++◌, drop, length}
use Rattle.mast_join.specs.inside.Joins.{sources}
use Rattle.mast_join.specs.inside.Partial.{IsPartly, kept}
use Rattle.mast_join.proofs.join.Join.put.Given as goal

-- what is there and what is left make the whole
abbrev pub invariant-loop-row : goal.invariant-loop-row
invariant-loop-row l = record {
  partly : IsPartly (sources l.self) l.choice;
  width : l.grown.width ≡ length l.self.places.items;
  rest : l.grown.list ++ kept (sources l.self) l.self.tests.items l.choice l.entry (drop l.row-index l.rows) ≡ l.fn.grown.list ++ kept (sources l.self) l.self.tests.items l.fn.choice l.entry l.rows;
}
