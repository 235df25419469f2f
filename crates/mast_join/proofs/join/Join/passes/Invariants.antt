use Rattle.std.proofs.Common.{◌≡◌, drop}
use Rattle.mast_join.specs.inside.Joins.{sources}
use Rattle.mast_join.specs.inside.Partial.{pass_all}
use Rattle.mast_join.proofs.join.Join.passes.Given as goal

-- what is left decides
abbrev pub invariant-loop-test : goal.invariant-loop-test
invariant-loop-test l = pass_all (sources l.self) l.choice (drop l.test-index l.self.tests.items) ≡ pass_all (sources l.self) l.choice l.self.tests.items
