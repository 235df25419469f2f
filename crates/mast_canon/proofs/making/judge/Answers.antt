use Rattle.std.specs.Prelude.{Some, None}
use Rattle.mast_canon.proofs.MakingLemmas.{same_breach}
use Rattle.mast_canon.proofs.making.judge.Goals as goal

pub returns-in-Some : goal.returns-in-Some
returns-in-Some c =
    let t = c.args.ontology.now.tbox in
    same_breach t.inclusions t.functional c.as_slice.result.now c.args.constraints.now.list c.in_ok-breach.field-0 (Some c.in-Some.breach) c.as_slice.ensures c.in-Some.is c.in_ok-breach.ensures

pub returns-in-None : goal.returns-in-None
returns-in-None c =
    let t = c.args.ontology.now.tbox in
    same_breach t.inclusions t.functional c.as_slice.result.now c.args.constraints.now.list c.in_ok-breach.field-0 None c.as_slice.ensures c.in-None.is c.in_ok-breach.ensures
