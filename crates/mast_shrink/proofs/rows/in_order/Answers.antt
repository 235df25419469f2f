-- Sorted rows without those that equal the one before them are the rows in order.
use Rattle.std.proofs.Common.{rules, ◌≡◌, List, IsPermutation, subst}
use Rattle.std.proofs.lemmas.List.Filters.{dedup_is}
use Rattle.mast_canon.specs.contracts.rows.RowIdPartialEq.TheImpl as row_eq
use Rattle.mast_canon.specs.declared.rows.RowId.{RowId}
use Rattle.mast_shrink.proofs.RowLemmas.{ordered_rows, same_rows}
use Rattle.mast_shrink.proofs.rows.in_order.Goals as goal

pub returns-clause-ordered : goal.returns-clause-ordered
returns-clause-ordered c =
    ordered_rows c.sort_unstable.new.self.items c.dedup.new.self.items c.sort_unstable.ensures.sorted
    (dedup_is row_eq.ghosts.eq c.sort_unstable.new.self.items c.dedup.new.self.items c.dedup.ensures.filtered)

pub returns-clause-same : goal.returns-clause-same
returns-clause-same c =
    let same : c.extend_from_slice.new.self.items ≡ c.args.rows.now = search rules in
    same_rows c.args.rows.now c.sort_unstable.new.self.items c.dedup.new.self.items
    (subst (λ (rows : List RowId). IsPermutation rows c.sort_unstable.new.self.items) same c.sort_unstable.ensures.permutation)
    (dedup_is row_eq.ghosts.eq c.sort_unstable.new.self.items c.dedup.new.self.items c.dedup.ensures.filtered)
