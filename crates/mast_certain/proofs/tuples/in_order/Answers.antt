-- Sorted tuples without those that equal the one before them are the tuples in order.
use Rattle.std.proofs.Common.{subst, sym}
use Rattle.std.specs.Cmp.Lexicographic.{pointwise}
use Rattle.std.proofs.lemmas.List.Filters.{dedup_is}
use Rattle.mast_terms.specs.contracts.term.TermPartialEq.TheImpl as term_eq
use Rattle.mast_certain.specs.inside.Ordered.{IsInOrder}
use Rattle.mast_certain.proofs.OrderedLemmas.{tuples_in_order}
use Rattle.mast_certain.proofs.tuples.in_order.Goals as goal

pub returns : goal.returns
returns c =
    let moved = c.sort_unstable.new.self.items in
    let ordered = c.dedup.new.self.items in
    subst (IsInOrder c.args.tuples.items) (sym c.from_vec.ensures)
    (tuples_in_order c.args.tuples.items moved ordered c.sort_unstable.ensures.permutation c.sort_unstable.ensures.sorted
    (dedup_is (pointwise term_eq.ghosts.eq) moved ordered c.dedup.ensures.filtered))
