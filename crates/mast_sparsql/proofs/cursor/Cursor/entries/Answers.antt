use Rattle.mast_grammar.specs.declared.terminal.Terminal.TheVariants as terminal
use Rattle.mast_sparsql.specs.Trees as tree
use Rattle.mast_sparsql.proofs.CursorLemmas.{each_next}
use Rattle.mast_sparsql.proofs.cursor.Cursor.entries.Goals as goal

pub loop-preserved : goal.loop-preserved
loop-preserved c =
    each_next c.args.self.now c.loop.self c.word.new.self c.entry-in-loop.new.self terminal.Comma tree.entry_written tree.entry_stands c.loop.entries c.push-in-loop.new.self c.in_ok-next.next
    c.loop.invariant c.in_ok-word.ensures c.in_ok-next.ensures.reads c.in_ok-next.ensures.stands c.in_ok-push-2.ensures.ok
