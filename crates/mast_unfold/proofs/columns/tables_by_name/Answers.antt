use Rattle.std.proofs.Common.{◌≡◌, ◌-◌, ◌+◌, ◌<◌, length, drop, ap, subst, ◌∙◌, arith}
use Rattle.mast_mapping.specs.Columns.{column_of_table, table_named}
use Rattle.mast_unfold.specs.inside.Lookups.{AreColumns, column_by, renamed}
use Rattle.mast_unfold.proofs.LookupLemmas.{tables_step}
use Rattle.mast_unfold.proofs.columns.tables_by_name.Goals as goal

pub loop-left-preserved : goal.loop-left-preserved
loop-left-preserved c =
    let decls = c.args.decls.now in
    let i = c.loop-left.left - 1 in
    let w = c.loop-left.invariant in
    let lt : i < length decls = omega (arith, w.within, c.loop-left-test.true) in
    let next : c.loop-left.left ≡ i + 1 = omega (arith, c.loop-left-test.true) in
    let d = c.index-decls-left.result in
    let columns = c.in_ok-columns.columns in
    record {
      within = omega arith;
      are = tables_step decls i d columns c.loop-left.by_name c.put.new.self lt c.index-decls-left.is
          (subst (λ cs. AreColumns cs columns) c.as_slice.ensures c.in_ok-columns.ensures)
          (λ table name entry. subst (λ k. column_by c.loop-left.by_name table name entry ≡ column_of_table name entry (table_named table (drop k decls))) next (w.are table name entry))
          (λ name. c.in_ok-put.ensures name ∙ ap (λ key. renamed c.loop-left.by_name key columns name) c.as_str.ensures);
    }
