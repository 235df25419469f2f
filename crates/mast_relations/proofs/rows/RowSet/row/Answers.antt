use Rattle.std.proofs.Common.{◌*◌, take, drop, ap, ◌∙◌}
use Rattle.mast_relations.proofs.RowSetLemmas.{view_part}
use Rattle.mast_relations.proofs.rows.RowSet.row.Goals as goal

pub returns-clause-row : goal.returns-clause-row
returns-clause-row c =
    let r = c.self.inside in
    c.split_at-2.ensures.front ∙ ap (take r.width) (c.split_at.ensures.back ∙ ap (drop (c.args.number * r.width)) c.as_slice.ensures.value)
    ∙ view_part r.width r.hashes r.numbers.items c.args.self.now c.self.invariant c.self.view_is c.args.number c.requires
