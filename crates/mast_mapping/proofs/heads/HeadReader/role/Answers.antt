use Rattle.std.proofs.Common.{subst, sym}
use Rattle.mast_terms.specs.declared.name.NameKind.TheVariants as kind
use Rattle.std.specs.Prelude.{Some, Ok}
use Rattle.mast_mapping.specs.declared.map.Head.TheVariants as head
use Rattle.mast_mapping.specs.inside.ReadHeads.{ReadsItems}
use Rattle.mast_mapping.specs.inside.Readers.{scope}
use Rattle.mast_mapping.proofs.PartLemmas.{role_right, role_name_wrong, role_from_wrong, role_to_wrong}
use Rattle.mast_mapping.proofs.SliceLemmas.{three_are}
use Rattle.mast_mapping.proofs.StopLemmas.{stopped}
use Rattle.mast_mapping.proofs.heads.HeadReader.role.Goals as goal

pub returns-in_err-name-in-len3 : goal.returns-in_err-name-in-len3
returns-in_err-name-in-len3 c = λ dates are.
    subst (λ x. ReadsItems (scope dates c.args.self.now) (Some kind.Role) c.args.line x c.args.vocab.now c.name.new.vocab c.from_residual.result) (sym (three_are c.args.items.now c.iri-item.result c.from-item.result c.to-item.result c.in-len3.len_at_least c.in-len3.len_below c.iri-item.is c.from-item.is c.to-item.is))
    (stopped _ _ _ _ c.from_residual.result c.in_err-name-in-len3.field-0.0 c.from_residual.ensures.1
    (λ b e. role_name_wrong (scope dates c.args.self.now) c.args.line c.args.vocab.now c.name.new.vocab c.iri-item.result c.from-item.result c.to-item.result b e) c.in_err-name-in-len3.ensures)

pub returns-in_err-from-in-len3 : goal.returns-in_err-from-in-len3
returns-in_err-from-in-len3 c = λ dates are.
    subst (λ x. ReadsItems (scope dates c.args.self.now) (Some kind.Role) c.args.line x c.args.vocab.now c.name.new.vocab c.from_residual-in_err-from-in-len3.result) (sym (three_are c.args.items.now c.iri-item.result c.from-item.result c.to-item.result c.in-len3.len_at_least c.in-len3.len_below c.iri-item.is c.from-item.is c.to-item.is))
    (stopped _ _ _ _ c.from_residual-in_err-from-in-len3.result c.in_err-from-in-len3.field-0.0 c.from_residual-in_err-from-in-len3.ensures.1
    (λ b e. role_from_wrong (scope dates c.args.self.now) c.args.line c.args.vocab.now c.name.new.vocab c.iri-item.result c.from-item.result c.to-item.result b c.in_ok-name-in-len3.ensures.0 e) (c.in_err-from-in-len3.ensures dates are))

pub returns-in_err-to-in-len3 : goal.returns-in_err-to-in-len3
returns-in_err-to-in-len3 c = λ dates are.
    subst (λ x. ReadsItems (scope dates c.args.self.now) (Some kind.Role) c.args.line x c.args.vocab.now c.name.new.vocab c.from_residual-in_err-to-in-len3.result) (sym (three_are c.args.items.now c.iri-item.result c.from-item.result c.to-item.result c.in-len3.len_at_least c.in-len3.len_below c.iri-item.is c.from-item.is c.to-item.is))
    (stopped _ _ _ _ c.from_residual-in_err-to-in-len3.result c.in_err-to-in-len3.field-0.0 c.from_residual-in_err-to-in-len3.ensures.1
    (λ b e. role_to_wrong (scope dates c.args.self.now) c.args.line c.args.vocab.now c.name.new.vocab c.iri-item.result c.from-item.result c.to-item.result c.in_ok-from-in-len3.from b c.in_ok-name-in-len3.ensures.0 (c.in_ok-from-in-len3.ensures dates are) e) (c.in_err-to-in-len3.ensures dates are))

pub returns-in_ok-to-in-len3 : goal.returns-in_ok-to-in-len3
returns-in_ok-to-in-len3 c = λ dates are.
    subst (λ x. ReadsItems (scope dates c.args.self.now) (Some kind.Role) c.args.line x c.args.vocab.now c.name.new.vocab (Ok (head.Role c.in_ok-name-in-len3.name c.in_ok-from-in-len3.from c.in_ok-to-in-len3.to))) (sym (three_are c.args.items.now c.iri-item.result c.from-item.result c.to-item.result c.in-len3.len_at_least c.in-len3.len_below c.iri-item.is c.from-item.is c.to-item.is))
    (role_right (scope dates c.args.self.now) c.args.line c.args.vocab.now c.name.new.vocab c.iri-item.result c.from-item.result c.to-item.result c.in_ok-name-in-len3.name c.in_ok-from-in-len3.from c.in_ok-to-in-len3.to c.in_ok-name-in-len3.ensures.0 c.in_ok-name-in-len3.ensures.1
    (c.in_ok-from-in-len3.ensures dates are) (c.in_ok-to-in-len3.ensures dates are))
