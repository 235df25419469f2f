use Rattle.std.proofs.Common.{subst, sym}
use Rattle.mast_terms.specs.declared.name.NameKind.TheVariants as kind
use Rattle.std.specs.Prelude.{Some, Ok}
use Rattle.mast_mapping.specs.declared.map.Head.TheVariants as head
use Rattle.mast_mapping.specs.inside.ReadHeads.{ReadsItems}
use Rattle.mast_mapping.specs.inside.Readers.{scope}
use Rattle.mast_mapping.proofs.PartLemmas.{attribute_right, attribute_name_wrong, attribute_from_wrong, attribute_value_wrong}
use Rattle.mast_mapping.proofs.SliceLemmas.{three_are}
use Rattle.mast_mapping.proofs.StopLemmas.{stopped}
use Rattle.mast_mapping.proofs.heads.HeadReader.attribute.Goals as goal

pub returns-in_err-name-in-len3 : goal.returns-in_err-name-in-len3
returns-in_err-name-in-len3 c = λ dates are.
    subst (λ x. ReadsItems (scope dates c.args.self.now) (Some kind.Attr) c.args.line x c.args.vocab.now c.name.new.vocab c.from_residual.result) (sym (three_are c.args.items.now c.iri-item.result c.from-item.result c.value-item.result c.in-len3.len_at_least c.in-len3.len_below c.iri-item.is c.from-item.is c.value-item.is))
    (stopped _ _ _ _ c.from_residual.result c.in_err-name-in-len3.field-0.0 c.from_residual.ensures.1
    (λ b e. attribute_name_wrong (scope dates c.args.self.now) c.args.line c.args.vocab.now c.name.new.vocab c.iri-item.result c.from-item.result c.value-item.result b e) c.in_err-name-in-len3.ensures)

pub returns-in_err-from-in-len3 : goal.returns-in_err-from-in-len3
returns-in_err-from-in-len3 c = λ dates are.
    subst (λ x. ReadsItems (scope dates c.args.self.now) (Some kind.Attr) c.args.line x c.args.vocab.now c.name.new.vocab c.from_residual-in_err-from-in-len3.result) (sym (three_are c.args.items.now c.iri-item.result c.from-item.result c.value-item.result c.in-len3.len_at_least c.in-len3.len_below c.iri-item.is c.from-item.is c.value-item.is))
    (stopped _ _ _ _ c.from_residual-in_err-from-in-len3.result c.in_err-from-in-len3.field-0.0 c.from_residual-in_err-from-in-len3.ensures.1
    (λ b e. attribute_from_wrong (scope dates c.args.self.now) c.args.line c.args.vocab.now c.name.new.vocab c.iri-item.result c.from-item.result c.value-item.result b c.in_ok-name-in-len3.ensures.0 e) (c.in_err-from-in-len3.ensures dates are))

pub returns-in_err-value-in-len3 : goal.returns-in_err-value-in-len3
returns-in_err-value-in-len3 c = λ dates are.
    subst (λ x. ReadsItems (scope dates c.args.self.now) (Some kind.Attr) c.args.line x c.args.vocab.now c.name.new.vocab c.from_residual-in_err-value-in-len3.result) (sym (three_are c.args.items.now c.iri-item.result c.from-item.result c.value-item.result c.in-len3.len_at_least c.in-len3.len_below c.iri-item.is c.from-item.is c.value-item.is))
    (stopped _ _ _ _ c.from_residual-in_err-value-in-len3.result c.in_err-value-in-len3.field-0.0 c.from_residual-in_err-value-in-len3.ensures.1
    (λ b e. attribute_value_wrong (scope dates c.args.self.now) c.args.line c.args.vocab.now c.name.new.vocab c.iri-item.result c.from-item.result c.value-item.result c.in_ok-from-in-len3.from b c.in_ok-name-in-len3.ensures.0 (c.in_ok-from-in-len3.ensures dates are) e) (c.in_err-value-in-len3.ensures dates are))

pub returns-in_ok-value-in-len3 : goal.returns-in_ok-value-in-len3
returns-in_ok-value-in-len3 c = λ dates are.
    subst (λ x. ReadsItems (scope dates c.args.self.now) (Some kind.Attr) c.args.line x c.args.vocab.now c.name.new.vocab (Ok (head.Attr c.in_ok-name-in-len3.name c.in_ok-from-in-len3.from c.in_ok-value-in-len3.value))) (sym (three_are c.args.items.now c.iri-item.result c.from-item.result c.value-item.result c.in-len3.len_at_least c.in-len3.len_below c.iri-item.is c.from-item.is c.value-item.is))
    (attribute_right (scope dates c.args.self.now) c.args.line c.args.vocab.now c.name.new.vocab c.iri-item.result c.from-item.result c.value-item.result c.in_ok-name-in-len3.name c.in_ok-from-in-len3.from c.in_ok-value-in-len3.value c.in_ok-name-in-len3.ensures.0 c.in_ok-name-in-len3.ensures.1
    (c.in_ok-from-in-len3.ensures dates are) (c.in_ok-value-in-len3.ensures dates are))
