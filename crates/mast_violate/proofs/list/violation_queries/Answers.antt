use Rattle.std.proofs.Common.{◌≡◌, true, sym, ap, ◌∙◌, subst}
use Rattle.mast_tbox.specs.ConstraintForms.{HaveForm}
use Rattle.mast_violate.specs.Breaches.{AreBreaches, violations_of}
use Rattle.mast_violate.specs.ViolationLists.{violations}
use Rattle.mast_violate.proofs.BreachLemmas.{breaches_of}
use Rattle.mast_violate.proofs.list.violation_queries.Goals as goal

pub returns-clause-breaches : goal.returns-clause-breaches
returns-clause-breaches c = λ theory facts inclusions negatives functional constraints.
    breaches_of theory (λ f. facts f ≡ true) c.args.tbox.now.inclusions c.args.tbox.now.negatives c.args.tbox.now.functional c.args.constraints.now c.in_ok-list.list
    inclusions negatives functional constraints c.requires c.in_ok-list.ensures
