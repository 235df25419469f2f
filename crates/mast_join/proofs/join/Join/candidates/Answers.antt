use Rattle.std.proofs.Common.{ap, ◌∙◌}
use Rattle.std.specs.List.{filter}
use Rattle.std.proofs.lemmas.Result.{IfOk-weaker}
use Rattle.mast_join.specs.inside.Joins.{only, sources}
use Rattle.mast_join.specs.inside.RowLists.{passes_alone}
use Rattle.mast_join.proofs.RowLemmas.{candidates_are}
use Rattle.mast_join.proofs.RowListLemmas.{allowed_within}
use Rattle.mast_join.proofs.join.Join.candidates.Goals as goal

pub passing-requires-clause-rows : goal.passing-requires-clause-rows
passing-requires-clause-rows c =
    let j = c.args.self.now in
    rw c.deref.ensures.value (allowed_within (sources j) j.places.items (only j) c.args.entry c.in_ok-rows.rows.items c.in_ok-rows.ensures)

pub returns : goal.returns
returns c =
    let j = c.args.self.now in
    IfOk-weaker c.passing.result _ _ (λ found e.
    candidates_are j c.args.entry c.in_ok-rows.rows.items found.items c.in_ok-rows.ensures (e ∙ ap (filter (passes_alone j c.args.entry)) c.deref.ensures.value)) c.passing.ensures
