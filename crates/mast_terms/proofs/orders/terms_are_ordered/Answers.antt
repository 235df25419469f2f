use Rattle.mast_terms.proofs.HashLemmas.{str_tells}
use Rattle.mast_terms.proofs.KeyLemmas.{date_tells, value_tells, args_tells, object_tells, term_tells, tuple_tells}
use Rattle.mast_terms.proofs.OrderLemmas.{term_equality_test, term_compares, term_orders, object_equality_test, object_compares, object_orders, args_equality_test, args_compares, args_orders, value_equality_test, value_compares, value_orders, text_equality_test, text_orders, date_equality_test, date_compares, date_orders, tuple_equality_test, tuple_compares, tuple_orders}
use Rattle.mast_terms.proofs.orders.terms_are_ordered.Goals as goal

pub returns-clause-equality : goal.returns-clause-equality
returns-clause-equality c = term_equality_test

pub returns-clause-compares : goal.returns-clause-compares
returns-clause-compares c = term_compares

pub returns-clause-order : goal.returns-clause-order
returns-clause-order c = term_orders

pub returns-clause-object_equality : goal.returns-clause-object_equality
returns-clause-object_equality c = object_equality_test

pub returns-clause-object_compares : goal.returns-clause-object_compares
returns-clause-object_compares c = object_compares

pub returns-clause-object_order : goal.returns-clause-object_order
returns-clause-object_order c = object_orders

pub returns-clause-args_equality : goal.returns-clause-args_equality
returns-clause-args_equality c = args_equality_test

pub returns-clause-args_compares : goal.returns-clause-args_compares
returns-clause-args_compares c = args_compares

pub returns-clause-args_order : goal.returns-clause-args_order
returns-clause-args_order c = args_orders

pub returns-clause-value_equality : goal.returns-clause-value_equality
returns-clause-value_equality c = value_equality_test

pub returns-clause-value_compares : goal.returns-clause-value_compares
returns-clause-value_compares c = value_compares

pub returns-clause-value_order : goal.returns-clause-value_order
returns-clause-value_order c = value_orders

pub returns-clause-text_equality : goal.returns-clause-text_equality
returns-clause-text_equality c = text_equality_test

pub returns-clause-text_order : goal.returns-clause-text_order
returns-clause-text_order c = text_orders

pub returns-clause-date_equality : goal.returns-clause-date_equality
returns-clause-date_equality c = date_equality_test

pub returns-clause-date_compares : goal.returns-clause-date_compares
returns-clause-date_compares c = date_compares

pub returns-clause-date_order : goal.returns-clause-date_order
returns-clause-date_order c = date_orders

pub returns-clause-tuple_equality : goal.returns-clause-tuple_equality
returns-clause-tuple_equality c = tuple_equality_test

pub returns-clause-tuple_compares : goal.returns-clause-tuple_compares
returns-clause-tuple_compares c = tuple_compares

pub returns-clause-tuple_order : goal.returns-clause-tuple_order
returns-clause-tuple_order c = tuple_orders

pub returns-clause-hash : goal.returns-clause-hash
returns-clause-hash c = term_tells

pub returns-clause-object_hash : goal.returns-clause-object_hash
returns-clause-object_hash c = object_tells

pub returns-clause-args_hash : goal.returns-clause-args_hash
returns-clause-args_hash c = args_tells

pub returns-clause-value_hash : goal.returns-clause-value_hash
returns-clause-value_hash c = value_tells

pub returns-clause-text_hash : goal.returns-clause-text_hash
returns-clause-text_hash c = str_tells

pub returns-clause-date_hash : goal.returns-clause-date_hash
returns-clause-date_hash c = date_tells

pub returns-clause-tuple_hash : goal.returns-clause-tuple_hash
returns-clause-tuple_hash c = tuple_tells
