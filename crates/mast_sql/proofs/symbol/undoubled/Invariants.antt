use Rattle.std.proofs.Common.{◌≡◌, ◌++◌, drop, false}
use Rattle.mast_sql.specs.inside.Quotes.{undoubled}
use Rattle.mast_sql.proofs.symbol.undoubled.Given as goal

abbrev pub invariant-loop-b : goal.invariant-loop-b
invariant-loop-b l = l.text.items ++ undoubled l.quote (drop l.b-index l.bytes) ≡ undoubled false l.bytes
