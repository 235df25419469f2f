use Rattle.std.proofs.Common.{◌≡◌, ◌+◌, ◌++◌, ◌∷◌, drop, ap, sym, ◌∙◌}
use Rattle.mast_terms.specs.contracts.value.ValueEq.TheImpl.Laws as laws
use Rattle.mast_terms.proofs.PlaceLemmas.{absent_before, drop-next}
use Rattle.mast_tables.specs.Values.{same}
use Rattle.mast_tables.proofs.cells.copied_values.Goals as goal

pub put_last-requires : goal.put_last-requires
put_last-requires c =
    let keys = c.args.values.now.keys in
    let rest : drop c.loop-value.value-index c.args.values.now.keys ≡ c.value-item.result ∷ drop (c.loop-value.value-index + 1) c.args.values.now.keys = drop-next c.as_slice-value-items.result.now c.args.values.now.keys c.loop-value.value-index c.value-item.result c.as_slice-value-items.ensures.keys c.loop-value-test.true c.value-item.is in
    absent_before {eq = same} laws.laws-law keys c.loop-value.copy.keys (drop (c.loop-value.value-index + 1) keys) c.value-item.result c.as_slice-value-items.ensures.unique (ap (λ l. c.loop-value.copy.keys ++ l) (sym rest) ∙ c.loop-value.invariant)
