-- A node is a constant.
use Rattle.std.proofs.Common.{refl, sym, subst}
use Rattle.mast_constr.specs.inside.Rules.{page_in, ReadsSaidConstant}
use Rattle.mast_constr.proofs.AtomLemmas.{leaf_read, node_read}
use Rattle.mast_constr.proofs.reader.Reader.value.Goals as goal

pub returns-in-Node-clause-read : goal.returns-in-Node-clause-read
returns-in-Node-clause-read c = λ dates are.
    let page = page_in c.args.self.now in
    node_read dates page c.args.variables.now c.args.item.now c.in-Node.word.now c.in-Node.line c.in-Node.items.now c.args.vocab.now c.constant_said.new.vocab c.constant_said.result (sym c.in-Node.ensures)
    (subst (λ at. ReadsSaidConstant page c.args.item.now at c.args.vocab.now c.constant_said.new.vocab c.constant_said.result) c.inner_line.ensures c.constant_said.ensures dates are)

pub returns-in-Name-clause-read : goal.returns-in-Name-clause-read
returns-in-Name-clause-read c = λ dates are.
    leaf_read dates (page_in c.args.self.now) c.args.variables.now c.argument.new.variables c.args.item.now _ c.args.vocab.now c.argument.result (sym c.in-Name.ensures) refl (c.argument.ensures.read c.args.vocab.now)

pub returns-in-Iri-clause-read : goal.returns-in-Iri-clause-read
returns-in-Iri-clause-read c = λ dates are.
    leaf_read dates (page_in c.args.self.now) c.args.variables.now c.argument-in-Iri.new.variables c.args.item.now _ c.args.vocab.now c.argument-in-Iri.result (sym c.in-Iri.ensures) refl (c.argument-in-Iri.ensures.read c.args.vocab.now)

pub returns-in-Text-clause-read : goal.returns-in-Text-clause-read
returns-in-Text-clause-read c = λ dates are.
    leaf_read dates (page_in c.args.self.now) c.args.variables.now c.argument-in-Text.new.variables c.args.item.now _ c.args.vocab.now c.argument-in-Text.result (sym c.in-Text.ensures) refl (c.argument-in-Text.ensures.read c.args.vocab.now)

pub returns-in-Tagged-clause-read : goal.returns-in-Tagged-clause-read
returns-in-Tagged-clause-read c = λ dates are.
    leaf_read dates (page_in c.args.self.now) c.args.variables.now c.argument-in-Tagged.new.variables c.args.item.now _ c.args.vocab.now c.argument-in-Tagged.result (sym c.in-Tagged.ensures) refl (c.argument-in-Tagged.ensures.read c.args.vocab.now)

pub returns-in-Binding-clause-read : goal.returns-in-Binding-clause-read
returns-in-Binding-clause-read c = λ dates are.
    leaf_read dates (page_in c.args.self.now) c.args.variables.now c.argument-in-Binding.new.variables c.args.item.now _ c.args.vocab.now c.argument-in-Binding.result (sym c.in-Binding.ensures) refl (c.argument-in-Binding.ensures.read c.args.vocab.now)
