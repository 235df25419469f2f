-- Tuples and rows in order.
use Rattle.std.specs.Prelude.{◌↔◌, List}
use Rattle.std.specs.List.Sorted.{IsStrictlySortedBy}
use Rattle.mast_terms.specs.Orders.{tuple_order}
use Rattle.mast_terms.specs.declared.term.Term.{Term}
use Rattle.mast_cq.specs.Queries.{In}

-- the same tuples, sorted, each once
pub record IsInOrder (tuples ordered : List (List Term)) : Type 0 where
  pub ascending : IsStrictlySortedBy tuple_order ordered
  pub are : (tuple : List Term) → In tuple ordered ↔ In tuple tuples
