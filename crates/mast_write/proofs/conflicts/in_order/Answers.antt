-- Sorted rows without those that equal the one before them are the rows in order.
use Rattle.std.proofs.Common.{rules, ◌≡◌, List, IsPermutation, subst}
use Rattle.std.proofs.lemmas.List.Filters.{dedup_is}
use Rattle.mast_canon.specs.contracts.rows.RowIdPartialEq.TheImpl as row_eq
use Rattle.mast_canon.specs.declared.rows.RowId.{RowId}
use Rattle.mast_write.proofs.ConflictLemmas.{in_order}
use Rattle.mast_write.proofs.conflicts.in_order.Goals as goal

pub returns : goal.returns
returns c =
    let same : c.extend_from_slice.new.self.items ≡ c.args.rows.now = search rules in
    let moved = c.sort_unstable.new.self.items in
    let ordered = c.dedup.new.self.items in
    in_order c.args.rows.now moved ordered
    (subst (λ (rows : List RowId). IsPermutation rows c.sort_unstable.new.self.items) same c.sort_unstable.ensures.permutation)
    c.sort_unstable.ensures.sorted
    (dedup_is row_eq.ghosts.eq moved ordered c.dedup.ensures.filtered)
