use Rattle.std.proofs.Common.{ap}
use Rattle.mast_mapping.specs.Heads.{constant_slot}
use Rattle.mast_mapping.proofs.StopLemmas.{stopped}
use Rattle.mast_mapping.proofs.heads.HeadReader.constant.Goals as goal

pub returns-in_err-value : goal.returns-in_err-value
returns-in_err-value c = λ dates are.
    stopped _ _ _ _ c.from_residual.result c.in_err-value.field-0.0 c.from_residual.ensures.1 (λ b e. ap constant_slot e) (c.in_err-value.ensures dates are)
