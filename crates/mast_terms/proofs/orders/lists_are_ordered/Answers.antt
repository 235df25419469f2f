use Rattle.mast_terms.proofs.HashLemmas.{slice_tells}
use Rattle.mast_terms.proofs.OrderLemmas.{list_equality_test, list_orders}
use Rattle.mast_terms.proofs.orders.lists_are_ordered.Goals as goal

pub returns-clause-equality : goal.returns-clause-equality
returns-clause-equality g c = list_equality_test g.T.PartialEq.eq g.met.T.Eq.laws

pub returns-clause-order : goal.returns-clause-order
returns-clause-order g c = list_orders g.T.PartialEq.eq g.met.T.Eq.laws g.T.Ord.cmp g.met.T.Ord.total g.met.T.Ord.matches_eq

pub returns-clause-hash : goal.returns-clause-hash
returns-clause-hash g c = slice_tells g.T.Hash.hash_input
