use Rattle.std.proofs.Common.{arith}
use Rattle.std.proofs.lemmas.List.{length-map}
use Rattle.mast_tables.specs.inside.Cells.{decoded}
use Rattle.mast_tables.specs.inside.Reading.{value_of}
use Rattle.mast_tables.proofs.CellsLemmas.{coded_cells, coded_added, have_room}
use Rattle.mast_tables.proofs.cells.Cells.push.Goals as goal

pub code-requires : goal.code-requires
code-requires c = have_room _ _ c.requires.cells c.requires.room

pub returns-clause-pushed : goal.returns-clause-pushed
returns-clause-pushed c =
    let e = c.in_ok-code.ensures in
    rw (c.in_ok-push.ensures.list, e.same) (coded_cells _ _ _ (value_of c.args.content) _ c.requires.cells e.coded)

pub returns-clause-cells : goal.returns-clause-cells
returns-clause-cells c =
    let e = c.in_ok-code.ensures in
    rw (c.in_ok-push.ensures.list, e.same) (coded_added _ _ _ (value_of c.args.content) _ c.requires.cells e.coded e.apart (omega (arith, c.requires.room, length-map c.args.self.now.codes.list (decoded c.args.self.now.values.keys))))
