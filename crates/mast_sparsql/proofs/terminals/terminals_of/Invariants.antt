use Rattle.std.proofs.Common.{◌≡◌, ◌++◌, drop}
use Rattle.mast_sparsql.specs.Terminals.{terminals, terminals_behind}
use Rattle.mast_sparsql.proofs.terminals.terminals_of.Given as goal

abbrev pub invariant-loop-token : goal.invariant-loop-token
invariant-loop-token l =
    l.terminals ++ terminals_behind l.text l.behind l.lines (drop l.token-index l.tokens) ≡ terminals l.text l.tokens
