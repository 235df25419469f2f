use Rattle.mast_tables.proofs.cells.put_last.Goals as goal

pub returns : goal.returns
returns c = rw c.requires at (rw c.in_ok-copy.ensures.equal at c.in_ok-insert.ensures.keys)
