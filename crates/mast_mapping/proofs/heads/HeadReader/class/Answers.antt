use Rattle.std.proofs.Common.{subst, sym}
use Rattle.mast_terms.specs.declared.name.NameKind.TheVariants as kind
use Rattle.std.specs.Prelude.{Some}
use Rattle.mast_mapping.specs.inside.ReadHeads.{ReadsItems}
use Rattle.mast_mapping.specs.inside.Readers.{scope}
use Rattle.mast_mapping.proofs.PartLemmas.{class_name_wrong, class_subject_wrong}
use Rattle.mast_mapping.proofs.SliceLemmas.{two_are}
use Rattle.mast_mapping.proofs.StopLemmas.{stopped}
use Rattle.mast_mapping.proofs.heads.HeadReader.class.Goals as goal

pub returns-in_err-name-in-len2 : goal.returns-in_err-name-in-len2
returns-in_err-name-in-len2 c = λ dates are.
    subst (λ x. ReadsItems (scope dates c.args.self.now) (Some kind.Class) c.args.line x c.args.vocab.now c.name.new.vocab c.from_residual.result) (sym (two_are c.args.items.now c.iri-item.result c.subject-item.result c.in-len2.len_at_least c.in-len2.len_below c.iri-item.is c.subject-item.is))
    (stopped _ _ _ _ c.from_residual.result c.in_err-name-in-len2.field-0.0 c.from_residual.ensures.1
    (λ b e. class_name_wrong (scope dates c.args.self.now) c.args.line c.args.vocab.now c.name.new.vocab c.iri-item.result c.subject-item.result b e) c.in_err-name-in-len2.ensures)

pub returns-in_err-subject-in-len2 : goal.returns-in_err-subject-in-len2
returns-in_err-subject-in-len2 c = λ dates are.
    subst (λ x. ReadsItems (scope dates c.args.self.now) (Some kind.Class) c.args.line x c.args.vocab.now c.name.new.vocab c.from_residual-in_err-subject-in-len2.result) (sym (two_are c.args.items.now c.iri-item.result c.subject-item.result c.in-len2.len_at_least c.in-len2.len_below c.iri-item.is c.subject-item.is))
    (stopped _ _ _ _ c.from_residual-in_err-subject-in-len2.result c.in_err-subject-in-len2.field-0.0 c.from_residual-in_err-subject-in-len2.ensures.1
    (λ b e. class_subject_wrong (scope dates c.args.self.now) c.args.line c.args.vocab.now c.name.new.vocab c.iri-item.result c.subject-item.result b c.in_ok-name-in-len2.ensures.0 e) (c.in_err-subject-in-len2.ensures dates are))
