-- The hit that a row of numbers stands for.
use Rattle.std.specs.Prelude.{ℕ, List, [], drop, take, map, get_or}
use Rattle.std.specs.List.Sorted.{IsStrictlySortedBy}
use Rattle.mast_canon.specs.Facts.{HaveSameRows}
use Rattle.mast_canon.specs.RowOrder.{row_order}
use Rattle.mast_join.specs.declared.hit.Hit.{Hit}
use Rattle.mast_join.specs.Answers.{Extended, AreNumbersOf}
use Rattle.mast_join.specs.Extensions.{union}

-- the hit has the terms of so many numbers in front, and the rows of the sets of the others: in order, each once
pub record IsHitOfRow (e : Extended) (width : ℕ) (row : List ℕ) (hit : Hit) : Type 0 where
  pub terms : AreNumbersOf e.numbered.terms (take width row) hit.terms
  pub ordered : IsStrictlySortedBy row_order hit.rows
  pub rows : HaveSameRows hit.rows (union (map (λ number. get_or e.sets number []) (drop width row)))
