use Rattle.std.proofs.Common.{◌≡◌, ◌+◌, ◌++◌, ◌∷◌, drop, ap, sym, ◌∙◌}
use Rattle.mast_terms.specs.Vocabularies.{same_value}
use Rattle.mast_terms.specs.contracts.value.ValueEq.TheImpl.Laws as laws
use Rattle.mast_terms.proofs.PlaceLemmas.{absent_before, drop-next}
use Rattle.mast_terms.proofs.constants.copy_of.Goals as goal

pub put_last-requires : goal.put_last-requires
put_last-requires c =
    let rest : drop c.loop-value.value-index c.args.set.now.keys ≡ c.value-item.result ∷ drop (c.loop-value.value-index + 1) c.args.set.now.keys = drop-next c.as_slice-value-items.result.now c.args.set.now.keys c.loop-value.value-index c.value-item.result c.as_slice-value-items.ensures.keys c.loop-value-test.true c.value-item.is in
    absent_before {eq = same_value} laws.laws-law c.args.set.now.keys c.loop-value.copy.keys (drop (c.loop-value.value-index + 1) c.args.set.now.keys) c.value-item.result c.as_slice-value-items.ensures.unique (ap (λ l. c.loop-value.copy.keys ++ l) (sym rest) ∙ c.loop-value.invariant)
