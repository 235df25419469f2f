use Rattle.std.proofs.Common.{◌≡◌, ◌++◌, drop}
use Rattle.mast_source.specs.Escapes.{unescaped, unescaped_after}
use Rattle.mast_source.proofs.escapes.unescaped.Given as goal

abbrev pub invariant-loop-b : goal.invariant-loop-b
invariant-loop-b l = l.text.items ++ unescaped_after l.escaped (drop l.b-index l.bytes) ≡ unescaped l.bytes
