-- The equality, the order and the hash of rows.
use Rattle.std.proofs.Common.{◌≡◌, true, refl, arith}
use Rattle.std.proofs.lemmas.Bool.Decides.{nat_tests}
use Rattle.std.specs.Hash as fed
use Rattle.mast_terms.specs.Hashes.{TellsApart}
use Rattle.mast_terms.specs.Orders.{TestsEquality, ComparesBy, OrdersAll}
use Rattle.mast_terms.proofs.HashLemmas.{told_then, u32_tells}
use Rattle.mast_terms.proofs.OrderLemmas.{equality, orders}
use Rattle.mast_canon.specs.declared.rows.RowId.{RowId}
use Rattle.mast_canon.specs.contracts.rows.RowIdPartialEq.TheImpl as row_eq
use Rattle.mast_canon.specs.contracts.rows.RowIdEq.TheImpl.Laws as row_equality
use Rattle.mast_canon.specs.contracts.rows.RowIdOrd.TheImpl as row_ord
use Rattle.mast_canon.specs.contracts.rows.RowIdOrd.TheImpl.Laws as row_ord_laws
use Rattle.mast_canon.specs.contracts.rows.RowIdHash.TheImpl as row_hash
use Rattle.mast_canon.specs.RowOrder.{row_order, FitsRow}

-- a row is its two numbers
pub row_is : (a b : RowId) → a.table ≡ b.table → a.number ≡ b.number → a ≡ b
row_is a b t n = λ i. record { table = t i; number = n i }

-- rows that `==` finds equal are one
pub row_same : (a b : RowId) → row_eq.ghosts.eq a b ≡ true → a ≡ b
row_same a b h = row_is a b (grind (arith, nat_tests)) (grind (arith, nat_tests))

-- rows
pub row_equality_test : TestsEquality row_eq.ghosts.eq
row_equality_test = equality row_eq.ghosts.eq row_equality.laws-law row_same

-- rows compare by their order
pub row_compares : ComparesBy row_order row_ord.ghosts.cmp
row_compares a b = refl

-- the order of rows is total
pub row_orders : OrdersAll row_order
row_orders = orders row_eq.ghosts.eq row_equality.laws-law row_same row_ord.ghosts.cmp row_order row_ord_laws.total-law row_ord_laws.matches_eq-law row_compares

-- what a hasher is fed tells rows apart
pub row_tells : TellsApart FitsRow row_hash.ghosts.hash_input
row_tells a b p q more others e =
    let r = told_then fed.u32 fed.u32 a.table b.table a.number b.number (u32_tells a.table b.table p.0 q.0) (u32_tells a.number b.number p.1 q.1) more others e in
    (row_is a b r.0 r.1, r.2)
