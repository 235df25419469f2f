use Rattle.mast_grammar.specs.declared.terminal.Terminal.TheVariants as terminal
use Rattle.mast_sparsql.specs.Trees as tree
use Rattle.mast_sparsql.specs.inside.Cursors.{ReadsList}
use Rattle.mast_sparsql.proofs.cursor.Cursor.objects.Given as goal

abbrev pub invariant-loop : goal.invariant-loop
invariant-loop l = ReadsList l.fn.self l.self terminal.Comma tree.object_written l.objects
