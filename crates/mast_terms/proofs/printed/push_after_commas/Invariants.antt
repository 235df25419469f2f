use Rattle.std.proofs.Common.{◌≡◌, ◌++◌, drop}
use Rattle.mast_terms.specs.Printed.{after_commas}
use Rattle.mast_terms.specs.inside.Growth.{Grows}
use Rattle.mast_terms.proofs.printed.push_after_commas.Given as goal

abbrev pub invariant-loop-value : goal.invariant-loop-value
invariant-loop-value l = record {
  text : l.out.items ++ after_commas (drop l.value-index l.args) ≡ l.fn.out.items ++ after_commas l.args;
  grows : Grows l.fn.out.items l.out.items;
}
