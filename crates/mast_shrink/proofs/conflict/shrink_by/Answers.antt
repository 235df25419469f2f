-- All rows of the breach are tried, and what is left is a conflict.
use Rattle.std.proofs.Common.{refl, sym, subst}
use Rattle.std.specs.List.{AllByRecursion}
use Rattle.mast_canon.specs.Facts.{HaveSameRows, IsOfTables}
use Rattle.mast_shrink.proofs.RemovalLemmas.{begun, is_conflict, left_within, ordered_of}
use Rattle.mast_shrink.proofs.conflict.shrink_by.Goals as goal

pub without_each-requires-clause-rows : goal.without_each-requires-clause-rows
without_each-requires-clause-rows g c κs within =
    subst (AllByRecursion (IsOfTables c.args.tables.now.list)) (sym c.deref-2.ensures.value)
    (ordered_of c.args.checking.now c.args.tables.now.list c.as_slice.result.now c.in_ok-rows.rows.items c.in_ok-rows.ensures.same
    (subst (AllByRecursion (IsOfTables c.args.tables.now.list)) (sym c.as_slice.ensures) c.requires.rows))

pub without_each-requires-clause-broken : goal.without_each-requires-clause-broken
without_each-requires-clause-broken g c κs within =
    begun c.args.checking.now c.args.tables.now.list c.args.checking.now c.args.breach.hit.rows c.as_slice.result.now c.in_ok-rows.rows.items c.deref.result.now
    c.in_ok-in_order.field-0.items c.from_vec.result c.deref-2.result.now c.args.breach.origin refl c.as_slice.ensures c.deref.ensures.value c.deref-2.ensures.value c.from_vec.ensures
    c.in_ok-rows.ensures.same c.in_ok-in_order.ensures.same c.in_ok-in_order.ensures.ordered c.requires.broken

pub returns-clause-conflict : goal.returns-clause-conflict
returns-clause-conflict g c =
    is_conflict c.args.checking.now c.args.tables.now.list c.deref-2.result.now c.in_ok-origin.field-0 c.in_ok-origin.ensures.broken c.in_ok-origin.ensures.needed

pub returns-clause-origin : goal.returns-clause-origin
returns-clause-origin g c = c.in_ok-origin.ensures.broken.by

pub returns-clause-within : goal.returns-clause-within
returns-clause-within g c =
    left_within c.args.checking.now c.args.tables.now.list c.args.breach.hit.rows c.deref-2.result.now c.in_ok-origin.field-0
    (subst (λ rs. HaveSameRows rs c.args.breach.hit.rows) (sym c.deref-2.ensures.value) (subst (HaveSameRows c.in_ok-rows.rows.items) c.as_slice.ensures c.in_ok-rows.ensures.same))
    c.in_ok-origin.ensures.broken
