use Rattle.std.proofs.Common.{arith, ◌≤◌, length}
use Rattle.mast_mapping.proofs.QueryLemmas.{few_tokens}
use Rattle.mast_mapping.proofs.sources.lexed.Goals as goal

pub returns-in-Ok-clause-few : goal.returns-in-Ok-clause-few
returns-in-Ok-clause-few c =
    let n : length c.in-Ok.tokens ≤ length c.args.text.now = few_tokens c.args.text.now c.in-Ok.tokens c.in-Ok.ensures in
    omega (arith, n, c.requires, c.ranges.end)
