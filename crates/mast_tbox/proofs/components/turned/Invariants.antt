use Rattle.std.proofs.Common.{◌≡◌, ◌++◌, drop, map}
use Rattle.mast_tbox.specs.inside.Components.{turned}
use Rattle.mast_tbox.proofs.components.turned.Given as goal

abbrev pub invariant-loop-line : goal.invariant-loop-line
invariant-loop-line l = l.all.items ++ map (λ k. turned k.item) (drop l.line-index l.lines) ≡ map (λ k. turned k.item) l.lines
