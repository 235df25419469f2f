use Rattle.std.proofs.Common.{◌≡◌}
use Rattle.mast_sql.proofs.ReaderLemmas.{Keeps}
use Rattle.mast_sql.proofs.reader.read_source_query.Given as goal

abbrev pub invariant-loop-token : goal.invariant-loop-token
invariant-loop-token l = Keeps l.bytes l.tokens l.state l.query l.token-index × (l.at ≡ l.token-index)
