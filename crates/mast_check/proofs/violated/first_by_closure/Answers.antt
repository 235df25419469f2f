use Rattle.std.proofs.Common.{map, ◌∙◌}
use Rattle.mast_cq.specs.Queries.{viewed}
use Rattle.mast_check.proofs.ClosureLemmas.{closure_told, members_over, ready_place, slice_place}
use Rattle.mast_check.proofs.violated.first_by_closure.Goals as goal

pub made_ready-requires : goal.made_ready-requires
made_ready-requires g c =
    members_over c.args.spec.now c.len.ensures.lawful c.args.violation.now c.requires.stands c.args.extensions.now.over c.requires.over (viewed c.view.result) c.view.ensures c.in-Ok.rewriting c.in-Ok.ensures.members
    (map viewed c.queries.result.now) c.queries.ensures

pub firsts-requires-clause-ready : goal.firsts-requires-clause-ready
firsts-requires-clause-ready g c κs within =
    ready_place c.made_ready.new.extensions (map viewed c.queries.result.now) c.in_ok-queries.queries.items c.deref-2.result.now c.deref-2.ensures.value c.in_ok-queries.ensures.ready

pub firsts-requires-clause-there : goal.firsts-requires-clause-there
firsts-requires-clause-there g c κs within =
    slice_place c.in_ok-queries.queries.items c.deref.result.now c.deref-2.result.now c.in_ok-slices.slices c.as_slice.result.now c.deref.ensures.value c.deref-2.ensures.value c.as_slice.ensures c.in_ok-slices.ensures

pub returns-clause-found : goal.returns-clause-found
returns-clause-found g c =
    closure_told c.args.spec.now c.len.ensures.lawful c.args.violation.now c.requires.stands c.args.extensions.now.over c.requires.over (viewed c.view.result) c.view.ensures c.in-Ok.rewriting c.in-Ok.ensures.members
    (map viewed c.queries.result.now) c.queries.ensures c.made_ready.new.extensions c.made_ready.ensures.same.over c.count.ensures.once c.in_ok-queries.queries.items c.deref.result.now c.deref-2.result.now
    c.deref.ensures.value c.deref-2.ensures.value c.in_ok-queries.ensures.ready c.in_ok-slices.slices c.as_slice.result.now c.as_slice.ensures c.in_ok-slices.ensures
    (c.made_ready.ensures.same.wanted ∙ c.requires.wanted) c.in_ok-found.found c.first_some.result c.in_ok-found.ensures c.first_some.ensures
