use Rattle.std.proofs.Common.{◌≡◌, ◌++◌, drop}
use Rattle.std.specs.List.{filter}
use Rattle.mast_join.specs.inside.Joins.{nothing}
use Rattle.mast_join.specs.inside.RowLists.{passes_alone}
use Rattle.mast_join.proofs.RowLemmas.{IsAlone}
use Rattle.mast_join.proofs.join.Join.passing.Given as goal

-- what is there and what is left make the whole
abbrev pub invariant-loop-row : goal.invariant-loop-row
invariant-loop-row l = record {
  alone : IsAlone (nothing l.self) l.entry l.choice.items;
  rest : l.found.items ++ filter (passes_alone l.self l.entry) (drop l.row-index l.rows) ≡ filter (passes_alone l.self l.entry) l.rows;
}
