use Rattle.mast_grammar.specs.inside.Machine.{enter}
use Rattle.mast_grammar.proofs.StackLemmas.{repeats_off}
use Rattle.mast_grammar.proofs.stack.Stack.repeat.Goals as goal

pub returns : goal.returns
returns c =
    repeats_off c.args.rule (enter c.args.rule c.args.terminal) c.args.self.now c.push.new.self c.enter.new.self c.pop.new.self c.in_ok-enter.field-0 c.pop.result c.in_ok-push.ensures c.in_ok-enter.ensures c.if-branch.false c.pop.ensures
