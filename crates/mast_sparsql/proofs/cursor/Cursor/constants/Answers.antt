use Rattle.mast_grammar.specs.declared.terminal.Terminal.TheVariants as terminal
use Rattle.mast_sparsql.specs.Trees as tree
use Rattle.mast_sparsql.proofs.CursorLemmas.{list_next}
use Rattle.mast_sparsql.proofs.cursor.Cursor.constants.Goals as goal

pub loop-preserved : goal.loop-preserved
loop-preserved c =
    list_next c.args.self.now c.loop.self c.word.new.self c.constant-in-loop.new.self terminal.Comma tree.constant_written c.loop.values c.push-in-loop.new.self c.in_ok-next.next
    c.loop.invariant c.in_ok-word.ensures c.in_ok-next.ensures c.in_ok-push-2.ensures.ok
