use Rattle.std.proofs.Common.{sym, ap, ◌∙◌}
use Rattle.std.specs.Prelude.{Some}
use Rattle.mast_terms.specs.declared.name.NameKind.TheVariants as kind
use Rattle.mast_tree.specs.Layers.{shown}
use Rattle.mast_mapping.specs.inside.Readers.{scope, doc_of}
use Rattle.mast_mapping.proofs.PartLemmas.{head_read}
use Rattle.mast_mapping.proofs.heads.HeadReader.head.Goals as goal

pub returns-in-Some-Class : goal.returns-in-Some-Class
returns-in-Some-Class c = λ dates are.
    head_read (scope dates c.args.self.now) c.args.item.now c.args.vocab.now c.class.new.vocab c.class.result c.in-Node.word.now c.in-Node.line c.in-Node.items.now (Some kind.Class)
    (sym c.layer.ensures ∙ ap (λ x. shown (doc_of c.args.self.now.place) x) c.in-Node.is) (sym c.head_kind.ensures ∙ (c.in-Some-Class.is ∙ ap (λ k. Some k) c.in-Some-Class.field-0-is)) (c.class.ensures dates are)

pub returns-in-Some-Role : goal.returns-in-Some-Role
returns-in-Some-Role c = λ dates are.
    head_read (scope dates c.args.self.now) c.args.item.now c.args.vocab.now c.role.new.vocab c.role.result c.in-Node.word.now c.in-Node.line c.in-Node.items.now (Some kind.Role)
    (sym c.layer.ensures ∙ ap (λ x. shown (doc_of c.args.self.now.place) x) c.in-Node.is) (sym c.head_kind.ensures ∙ (c.in-Some-Role.is ∙ ap (λ k. Some k) c.in-Some-Role.field-0-is)) (c.role.ensures dates are)

pub returns-in-Some-Attr : goal.returns-in-Some-Attr
returns-in-Some-Attr c = λ dates are.
    head_read (scope dates c.args.self.now) c.args.item.now c.args.vocab.now c.attribute.new.vocab c.attribute.result c.in-Node.word.now c.in-Node.line c.in-Node.items.now (Some kind.Attr)
    (sym c.layer.ensures ∙ ap (λ x. shown (doc_of c.args.self.now.place) x) c.in-Node.is) (sym c.head_kind.ensures ∙ (c.in-Some-Attr.is ∙ ap (λ k. Some k) c.in-Some-Attr.field-0-is)) (c.attribute.ensures dates are)
