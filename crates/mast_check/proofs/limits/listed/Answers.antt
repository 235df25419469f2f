use Rattle.std.proofs.Common.{subst, sym}
use Rattle.mast_tbox.specs.ConstraintForms.{HaveForm}
use Rattle.mast_check.proofs.FormLemmas.{spec_proper}
use Rattle.mast_check.proofs.limits.listed.Goals as goal

pub violation_queries-requires : goal.violation_queries-requires
violation_queries-requires c = subst HaveForm (sym c.as_slice.ensures) (spec_proper c.args.spec.now c.len.ensures.lawful).formed
