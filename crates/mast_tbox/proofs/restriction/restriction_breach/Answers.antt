use Rattle.std.proofs.Common.{Some, sym, subst, ◌∙◌}
use Rattle.mast_tree.specs.declared.document.DocName.TheVariants.{Ontology}
use Rattle.mast_tbox.specs.declared.restriction.RestrictionKind.TheVariants.{FunctSpecialised}
use Rattle.mast_tbox.specs.Restrictions.{IsRestrictionBreach}
use Rattle.mast_tbox.specs.inside.Chosen.{chief_of}
use Rattle.mast_tbox.proofs.JudgeLemmas.{found_breach, judged_breach}
use Rattle.mast_tbox.proofs.restriction.restriction_breach.Goals as goal

pub returns-in-Some : goal.returns-in-Some
returns-in-Some c =
    let o = Some (record { doc = Ontology; line = c.in-Some.line; kind = FunctSpecialised }) in
    subst (λ w. IsRestrictionBreach w c.args.tbox.now.functional c.args.constraints.now o) c.as_slice-lines.ensures
    (subst (λ w. IsRestrictionBreach c.as_slice-lines.result.now w c.args.constraints.now o) c.as_slice.ensures
    (found_breach c.as_slice-lines.result.now c.as_slice.result.now c.args.constraints.now (chief_of c.in_ok-chiefs.chiefs) c.in_ok-chiefs.ensures c.in_ok-functional.functional c.in_ok-functional.ensures c.in-Some.line
    (sym c.first_axiom.ensures ∙ c.in-Some.is)))

pub returns : goal.returns
returns c =
    let o = c.first_constraint.result in
    subst (λ w. IsRestrictionBreach w c.args.tbox.now.functional c.args.constraints.now o) c.as_slice-lines.ensures
    (subst (λ w. IsRestrictionBreach c.as_slice-lines.result.now w c.args.constraints.now o) c.as_slice.ensures
    (judged_breach c.as_slice-lines.result.now c.as_slice.result.now c.args.constraints.now (chief_of c.in_ok-chiefs.chiefs) c.in_ok-chiefs.ensures c.in_ok-functional.functional c.in_ok-functional.ensures
    (sym c.first_axiom.ensures ∙ c.in-None.is) c.in_ok-special-in-None.special c.in_ok-special-in-None.ensures o c.first_constraint.ensures))
