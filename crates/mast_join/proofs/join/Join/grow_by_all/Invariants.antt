use Rattle.std.proofs.Common.{◌≡◌, length, take}
use Rattle.mast_join.specs.inside.Joins.{sources}
use Rattle.mast_join.specs.inside.Partial.{AreGrown}
use Rattle.mast_join.proofs.join.Join.grow_by_all.Given as goal

-- the choices so far have grown
abbrev pub invariant-loop-number : goal.invariant-loop-number
invariant-loop-number l = record {
  long : length l.choice.items ≡ length l.self.places.items;
  width : l.grown.width ≡ length l.self.places.items;
  grown : AreGrown (sources l.self) l.self.tests.items l.entry l.rows (take l.number l.choices.list) l.grown.list;
}
