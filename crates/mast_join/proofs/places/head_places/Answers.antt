use Rattle.std.proofs.Common.{refl, sym, subst}
use Rattle.std.specs.Prelude.{Some}
use Rattle.mast_mapping.specs.declared.map.Head.{Head}
use Rattle.mast_join.specs.inside.Places.{AreHeadPlaces}
use Rattle.mast_join.proofs.HeadLemmas.{object_more}
use Rattle.mast_join.proofs.places.head_places.Goals as goal

pub returns-in_ok-second-in-Role-clause-places : goal.returns-in_ok-second-in-Role-clause-places
returns-in_ok-second-in-Role-clause-places c =
    let first = c.in_ok-first-in-Role.first in
    let second = c.in_ok-second-in-Role.second in
    let new = c.object_part-in-Role-2.new.terms in
    subst (λ (h : Head). AreHeadPlaces new c.args.decls.now c.args.query.now h (record { first = first; second = Some second })) (sym c.in-Role.is) (
      object_more c.object_part-in-Role.new.terms new c.args.decls.now c.args.query.now c.in-Role.from first c.object_part-in-Role-2.ensures.kept c.in_ok-first-in-Role.ensures.part,
      (second, refl, c.in_ok-second-in-Role.ensures.part),
    )

pub returns-in_ok-second-in-Attr-clause-places : goal.returns-in_ok-second-in-Attr-clause-places
returns-in_ok-second-in-Attr-clause-places c =
    let first = c.in_ok-first-in-Attr.first in
    let second = c.in_ok-second-in-Attr.second in
    let new = c.value_part.new.terms in
    subst (λ (h : Head). AreHeadPlaces new c.args.decls.now c.args.query.now h (record { first = first; second = Some second })) (sym c.in-Attr.is) (
      object_more c.object_part-in-Attr.new.terms new c.args.decls.now c.args.query.now c.in-Attr.from first c.value_part.ensures.kept c.in_ok-first-in-Attr.ensures.part,
      (second, refl, c.in_ok-second-in-Attr.ensures.part),
    )
