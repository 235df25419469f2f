use Rattle.std.proofs.Common.{arith}
use Rattle.std.proofs.lemmas.Grind.{common_steps}
use Rattle.mast_terms.proofs.NumberTextLemmas.{signed_decimal_is}
use Rattle.mast_terms.proofs.printed.push_int.Goals as goal

pub returns : goal.returns
returns c = let e = signed_decimal_is c.args.number (omega (arith, c.ranges.number)) in let f = c.format.ensures.text in grind (arith, common_steps, e, f)
