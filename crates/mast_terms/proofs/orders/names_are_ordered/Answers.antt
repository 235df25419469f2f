use Rattle.mast_terms.proofs.KeyLemmas.{name_tells, name_kind_tells, kind_tells}
use Rattle.mast_terms.proofs.OrderLemmas.{name_equality_test, name_compares, name_orders, name_kind_equality_test, name_kind_compares, name_kind_orders, kind_equality_test, kind_compares, kind_orders}
use Rattle.mast_terms.proofs.orders.names_are_ordered.Goals as goal

pub returns-clause-equality : goal.returns-clause-equality
returns-clause-equality c = name_equality_test

pub returns-clause-compares : goal.returns-clause-compares
returns-clause-compares c = name_compares

pub returns-clause-order : goal.returns-clause-order
returns-clause-order c = name_orders

pub returns-clause-name_kind_equality : goal.returns-clause-name_kind_equality
returns-clause-name_kind_equality c = name_kind_equality_test

pub returns-clause-name_kind_compares : goal.returns-clause-name_kind_compares
returns-clause-name_kind_compares c = name_kind_compares

pub returns-clause-name_kind_order : goal.returns-clause-name_kind_order
returns-clause-name_kind_order c = name_kind_orders

pub returns-clause-kind_equality : goal.returns-clause-kind_equality
returns-clause-kind_equality c = kind_equality_test

pub returns-clause-kind_compares : goal.returns-clause-kind_compares
returns-clause-kind_compares c = kind_compares

pub returns-clause-kind_order : goal.returns-clause-kind_order
returns-clause-kind_order c = kind_orders

pub returns-clause-hash : goal.returns-clause-hash
returns-clause-hash c = name_tells

pub returns-clause-name_kind_hash : goal.returns-clause-name_kind_hash
returns-clause-name_kind_hash c = name_kind_tells

pub returns-clause-kind_hash : goal.returns-clause-kind_hash
returns-clause-kind_hash c = kind_tells
