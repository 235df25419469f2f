use Rattle.std.proofs.Common.{ap, sym, ◌∙◌, [], map}
use Rattle.std.proofs.lemmas.List.{map-append}
use Rattle.indexmap.specs.IndexSet.{insert_all}
use Rattle.mast_tbox.specs.Expressions.{same_prop}
use Rattle.mast_tbox.specs.Lists.{items}
use Rattle.mast_tbox.specs.inside.Chosen.{chief_of}
use Rattle.mast_tbox.specs.inside.Judging.{functionals, marking}
use Rattle.mast_tbox.proofs.IndexLemmas.{all_join}
use Rattle.mast_tbox.proofs.restriction.functional.Goals as goal

pub returns : goal.returns
returns c =
    let f = chief_of c.args.chiefs.now in
    c.in_ok-add_by_constraints.ensures
    ∙ (ap (λ w. marking f w (functionals c.args.constraints.now)) c.in_ok-set.ensures
    ∙ (sym (all_join same_prop (map f (items c.args.lines.now)) (map f (functionals c.args.constraints.now)) []) ∙ ap (insert_all same_prop []) (sym (map-append f (items c.args.lines.now) (functionals c.args.constraints.now)))))
