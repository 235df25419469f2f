use Rattle.std.proofs.Common.{ap}
use Rattle.mast_relations.specs.Matches.{In as Among}
use Rattle.mast_join.specs.Answers.{HasInSlice}
use Rattle.mast_check.specs.inside.Pieces.{TellsAll, terms_of}
use Rattle.mast_check.proofs.AllLemmas.{all_same, ok_then}
use Rattle.mast_check.proofs.ReadyLemmas.{gained_in, gained_numbers}
use Rattle.mast_check.proofs.all.all_in.Goals as goal

pub passing-requires : goal.passing-requires
passing-requires c =
    gained_numbers c.args.extensions.now c.args.ready.now c.args.slice c.new-rows.result c.answers.new.found c.requires.wanted c.requires.ready (ap (λ rows. rows.list) c.new-rows.ensures) c.answers.ensures.gained

pub returns : goal.returns
returns c =
    let e = c.args.extensions.now in
    let r = c.args.ready.now in
    let s = c.args.slice in
    let v = c.args.violation.now in
    let rows = c.answers.new.found in
    ok_then (TellsAll e (terms_of r) v (λ row. Among row rows.list)) (TellsAll e (terms_of r) v (HasInSlice e r s.from s.to))
    (all_same e (terms_of r) v (λ row. Among row rows.list) (HasInSlice e r s.from s.to) (gained_in e r s c.new-rows.result rows (ap (λ rs. rs.list) c.new-rows.ensures) c.answers.ensures.gained) c.in_ok-answers.ensures.all)
    c.passing.result c.passing.ensures
