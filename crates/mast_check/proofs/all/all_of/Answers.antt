use Rattle.std.proofs.Common.{[], ◌∷◌, ◌≡◌, map, sym, subst, ◌∙◌}
use Rattle.mast_cq.specs.Queries.{viewed}
use Rattle.mast_check.specs.inside.Pieces.{TellsBreaches, flat}
use Rattle.mast_check.proofs.AllLemmas.{ok_then}
use Rattle.mast_check.proofs.ClosureLemmas.{closures_told, members_over, ready_place, slice_place}
use Rattle.mast_check.proofs.all.all_of.Goals as goal

pub made_ready-requires : goal.made_ready-requires
made_ready-requires g c =
    members_over c.args.spec.now c.len.ensures.lawful c.args.violation.now c.requires.stands c.args.extensions.now.over c.requires.over (viewed c.view.result) c.view.ensures c.in-Ok.rewriting c.in-Ok.ensures.members
    (map viewed c.queries.result.now) c.queries.ensures

pub alls-requires-clause-ready : goal.alls-requires-clause-ready
alls-requires-clause-ready g c κs within =
    ready_place c.made_ready.new.extensions (map viewed c.queries.result.now) c.in_ok-queries.queries.items c.deref-2.result.now c.deref-2.ensures.value c.in_ok-queries.ensures.ready

pub alls-requires-clause-there : goal.alls-requires-clause-there
alls-requires-clause-there g c κs within =
    slice_place c.in_ok-queries.queries.items c.deref.result.now c.deref-2.result.now c.in_ok-slices.slices c.as_slice.result.now c.deref.ensures.value c.deref-2.ensures.value c.as_slice.ensures c.in_ok-slices.ensures

pub returns-clause-found : goal.returns-clause-found
returns-clause-found g c =
    let told = closures_told c.args.spec.now c.len.ensures.lawful c.args.violation.now c.requires.stands c.args.extensions.now.over c.requires.over (viewed c.view.result) c.view.ensures c.in-Ok.rewriting c.in-Ok.ensures.members
    (map viewed c.queries.result.now) c.queries.ensures c.made_ready.new.extensions c.made_ready.ensures.same.over c.count.ensures.once c.in_ok-queries.queries.items c.deref.result.now c.deref-2.result.now
    c.deref.ensures.value c.deref-2.ensures.value c.in_ok-queries.ensures.ready c.in_ok-slices.slices c.as_slice.result.now c.as_slice.ensures c.in_ok-slices.ensures
    c.requires.whole (c.made_ready.ensures.same.wanted ∙ c.requires.wanted) c.in_ok-found.found c.in_ok-found.ensures in
    ok_then (λ list. list ≡ flat c.in_ok-found.found) (TellsBreaches c.args.spec.now c.args.extensions.now.over (c.args.violation.now ∷ []))
    (λ list is. subst (TellsBreaches c.args.spec.now c.args.extensions.now.over (c.args.violation.now ∷ [])) (sym is) told) c.flattened.result c.flattened.ensures
