use Rattle.std.proofs.Common.{◌≡◌, drop}
use Rattle.mast_source.specs.Escapes.{has_escape}
use Rattle.mast_source.proofs.escapes.has_escape.Given as goal

abbrev pub invariant-loop-b : goal.invariant-loop-b
invariant-loop-b l = has_escape (drop l.b-index l.bytes) ≡ has_escape l.bytes
