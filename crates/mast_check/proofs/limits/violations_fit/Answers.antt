use Rattle.std.proofs.Common.{◌∙◌}
use Rattle.mast_canon.specs.Theories.{theory_of}
use Rattle.mast_check.proofs.LimitLemmas.{fits_told}
use Rattle.mast_check.proofs.limits.violations_fit.Goals as goal

pub returns : goal.returns
returns c = fits_told (theory_of c.args.spec.now) c.as_slice.result.now c.closures_fit.result (c.as_slice.ensures ∙ c.in_ok-list.ensures.0) c.in_ok-list.ensures.1 c.closures_fit.ensures
