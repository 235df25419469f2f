use Rattle.mast_join.specs.inside.Filling.{rows_at}
use Rattle.mast_join.proofs.FillStepLemmas.{gained_given}
use Rattle.mast_join.proofs.fill.put_fact.Goals as goal

pub returns-then-branch-clause-only : goal.returns-then-branch-clause-only
returns-then-branch-clause-only c =
    gained_given c.args.wanted c.args.width c.args.source c.args.fact c.make_row.new.row.items (rows_at c.args.relations.now c.args.number) (rows_at c.put.new.relations c.args.number)
    (c.in_ok-make_row.ensures.yes c.if-branch.true) c.put.ensures.only
