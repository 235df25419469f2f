use Rattle.mast_grammar.specs.declared.terminal.Terminal.TheVariants as terminal
use Rattle.mast_sparsql.specs.Trees as tree
use Rattle.mast_sparsql.specs.inside.Cursors.{ReadsEach}
use Rattle.mast_sparsql.proofs.cursor.Cursor.blocks.Given as goal

abbrev pub invariant-loop : goal.invariant-loop
invariant-loop l = ReadsEach l.fn.self l.self terminal.Union tree.braced tree.block_stands l.blocks
