use Rattle.std.proofs.Common.{refl}
use Rattle.mast_relations.proofs.RowSetLemmas.{not_there, put_is, put_rows}
use Rattle.mast_relations.proofs.rows.RowSet.put.Goals as goal

pub invariant_of-self-in-Ok : goal.invariant_of-self-in-Ok
invariant_of-self-in-Ok c =
    let r = c.self.inside in
    put_is r.width r.hashes r.numbers.items c.args.self.now c.self.invariant c.self.view_is c.args.row.now c.extend_from_slice.new.self.items c.push.new.self c.args.hash
    c.requires.wide c.requires.new c.requires.hash c.in_ok-extend_from_slice.ensures.items c.in-Ok.ensures.ok

pub returns-in-Ok : goal.returns-in-Ok
returns-in-Ok c =
    let r = c.self.inside in (
      not_there c.args.self.now c.args.row.now 0 c.requires.new refl,
      put_rows r.width r.hashes r.numbers.items c.args.self.now c.self.invariant c.self.view_is c.args.row.now c.extend_from_slice.new.self.items c.push.new.self c.args.hash
          c.requires.wide c.in_ok-extend_from_slice.ensures.items c.in-Ok.ensures.ok,
    )
