-- Tuples that are sorted, and then without those that equal the one before them, are the tuples in order, each once.
use Rattle.std.proofs.Common.{◌≡◌, List, true, IsPermutation, IsSorted}
use Rattle.std.specs.Cmp.Lexicographic.{lists_equiv, lists_ties, lists_total, pointwise, slice_cmp}
use Rattle.std.specs.List.{dedup}
use Rattle.mast_terms.specs.contracts.term.TermPartialEq.TheImpl as term_eq
use Rattle.mast_terms.specs.contracts.term.TermEq.TheImpl.Laws as term_equality
use Rattle.mast_terms.specs.contracts.term.TermOrd.TheImpl as term_ord
use Rattle.mast_terms.specs.contracts.term.TermOrd.TheImpl.Laws as term_laws
use Rattle.mast_terms.specs.declared.term.Term.{Term}
use Rattle.mast_terms.proofs.OrderLemmas.{tuple_compares, tuple_equality_test}
use Rattle.mast_join.proofs.OrderedLemmas.{ordered_once, ordered_same}
use Rattle.mast_certain.specs.inside.Ordered.{IsInOrder}

-- so sorted tuples without those that equal the one before them are the tuples in order
pub tuples_in_order : (tuples moved ordered : List (List Term)) → IsPermutation tuples moved → IsSorted (slice_cmp term_ord.ghosts.cmp) moved → ordered ≡ dedup (pointwise term_eq.ghosts.eq) moved → IsInOrder tuples ordered
tuples_in_order tuples moved ordered moves sorted is =
    let total = lists_total term_laws.total-law in
    let ties = lists_ties term_ord.ghosts.cmp term_laws.matches_eq-law in
    let equivalence = lists_equiv term_equality.laws-law in
    let equal : (x y : List Term) → pointwise term_eq.ghosts.eq x y ≡ true → x ≡ y = λ x y. (tuple_equality_test x y).0 in
    record {
      ascending = ordered_once tuple_compares total ties equivalence equal tuples moved ordered moves sorted is;
      are = ordered_same tuple_compares total ties equivalence equal tuples moved ordered moves sorted is;
    }
