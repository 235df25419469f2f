-- Sorted rows without those that equal the one before them are the rows in order.
use Rattle.std.proofs.lemmas.List.Filters.{dedup_is}
use Rattle.mast_canon.specs.contracts.rows.RowIdPartialEq.TheImpl as row_eq
use Rattle.mast_canon.specs.contracts.rows.RowIdEq.TheImpl.Laws as row_equality
use Rattle.mast_canon.specs.contracts.rows.RowIdOrd.TheImpl.Laws as row_ord_laws
use Rattle.mast_canon.proofs.RowLemmas.{row_compares, row_same}
use Rattle.mast_join.proofs.OrderedLemmas.{ordered_once, ordered_same}
use Rattle.mast_join.proofs.hit.in_order.Goals as goal

pub returns-clause-ordered : goal.returns-clause-ordered
returns-clause-ordered c =
    ordered_once row_compares row_ord_laws.total-law row_ord_laws.matches_eq-law row_equality.laws-law row_same
    c.args.rows.items c.sort_unstable.new.self.items c.dedup.new.self.items c.sort_unstable.ensures.permutation c.sort_unstable.ensures.sorted
    (dedup_is row_eq.ghosts.eq c.sort_unstable.new.self.items c.dedup.new.self.items c.dedup.ensures.filtered)

pub returns-clause-same : goal.returns-clause-same
returns-clause-same c =
    ordered_same row_compares row_ord_laws.total-law row_ord_laws.matches_eq-law row_equality.laws-law row_same
    c.args.rows.items c.sort_unstable.new.self.items c.dedup.new.self.items c.sort_unstable.ensures.permutation c.sort_unstable.ensures.sorted
    (dedup_is row_eq.ghosts.eq c.sort_unstable.new.self.items c.dedup.new.self.items c.dedup.ensures.filtered)
