use Rattle.std.proofs.Common.{refl}
use Rattle.mast_tree.specs.Said.{iri, text, tagged, binding, node, said}
use Rattle.mast_mapping.specs.inside.Readers.{scope, doc_of}
use Rattle.mast_mapping.proofs.PartLemmas.{constant_given}
use Rattle.mast_mapping.proofs.heads.HeadReader.slot.Goals as goal

pub returns-in-Iri : goal.returns-in-Iri
returns-in-Iri c = λ dates are.
    constant_given (scope dates c.args.self.now) (said (doc_of c.args.self.now.place) c.args.item.now) (iri c.in-Iri.word.now c.in-Iri.line) c.constant.result c.in-Iri.ensures refl (c.constant.ensures dates are)

pub returns-in-Text : goal.returns-in-Text
returns-in-Text c = λ dates are.
    constant_given (scope dates c.args.self.now) (said (doc_of c.args.self.now.place) c.args.item.now) (text _ c.in-Text.line) c.constant-in-Text.result c.in-Text.ensures refl (c.constant-in-Text.ensures dates are)

pub returns-in-Tagged : goal.returns-in-Tagged
returns-in-Tagged c = λ dates are.
    constant_given (scope dates c.args.self.now) (said (doc_of c.args.self.now.place) c.args.item.now) (tagged c.in-Tagged.line) c.constant-in-Tagged.result c.in-Tagged.ensures refl (c.constant-in-Tagged.ensures dates are)

pub returns-in-Binding : goal.returns-in-Binding
returns-in-Binding c = λ dates are.
    constant_given (scope dates c.args.self.now) (said (doc_of c.args.self.now.place) c.args.item.now) (binding c.in-Binding.line) c.constant-in-Binding.result c.in-Binding.ensures refl (c.constant-in-Binding.ensures dates are)

pub returns-in-Node : goal.returns-in-Node
returns-in-Node c = λ dates are.
    constant_given (scope dates c.args.self.now) (said (doc_of c.args.self.now.place) c.args.item.now) (node c.in-Node.word.now c.in-Node.line c.in-Node.items.now) c.constant-in-Node.result c.in-Node.ensures refl (c.constant-in-Node.ensures dates are)
