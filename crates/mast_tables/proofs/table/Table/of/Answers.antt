use Rattle.std.proofs.Common.{arith}
use Rattle.mast_tables.proofs.WholeLemmas.{filled_more, filled_room, filled_all, filled_size, filled_view}
use Rattle.mast_tables.proofs.table.Table.of.Goals as goal

pub push_row-requires-clause-room : goal.push_row-requires-clause-room
push_row-requires-clause-room c =
    rw c.as_slice-in-loop-row.ensures (filled_room c.args.decl.now.columns c.args.rows.now c.loop-row.row-index c.row-item.result c.loop-row.cells c.requires c.loop-row-test.true c.row-item.is c.loop-row.invariant)

pub loop-row-preserved : goal.loop-row-preserved
loop-row-preserved c =
    filled_more c.args.decl.now.columns c.args.rows.now c.loop-row.row-index c.row-item.result _ _ c.loop-row-test.true c.row-item.is c.loop-row.invariant (rw c.as_slice-in-loop-row.ensures at c.in_ok-push_row.ensures)

pub invariant_of-result : goal.invariant_of-result
invariant_of-result c =
    record {
      cells = c.loop-row.invariant.cells;
      size = filled_size c.args.decl.now.columns c.args.rows.now c.loop-row.cells c.requires (filled_all c.args.decl.now.columns c.args.rows.now c.loop-row.row-index c.loop-row.cells (omega arith) c.loop-row.invariant);
    }

pub returns : goal.returns
returns c =
    filled_view c.args.decl.now.columns c.args.rows.now c.loop-row.cells c.requires (filled_all c.args.decl.now.columns c.args.rows.now c.loop-row.row-index c.loop-row.cells (omega arith) c.loop-row.invariant)
