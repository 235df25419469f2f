use Rattle.mast_canon.proofs.RowLemmas.{row_equality_test, row_compares, row_orders, row_tells}
use Rattle.mast_canon.proofs.rows.row_laws.Goals as goal

pub returns-clause-equality : goal.returns-clause-equality
returns-clause-equality c = row_equality_test

pub returns-clause-compares : goal.returns-clause-compares
returns-clause-compares c = row_compares

pub returns-clause-order : goal.returns-clause-order
returns-clause-order c = row_orders

pub returns-clause-hash : goal.returns-clause-hash
returns-clause-hash c = row_tells
