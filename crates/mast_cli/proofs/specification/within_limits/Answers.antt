-- The event is that of the first limit.
use Rattle.std.proofs.Common.{◌≡◌}
use Rattle.mast_canon.specs.declared.spec.Spec.{Spec}
use Rattle.mast_check.specs.declared.breach.CheckLimit.{CheckLimit}
use Rattle.mast_check.specs.Limits.{IsFirstLimit, MeetsNoLimit}
use Rattle.mast_write.specs.declared.refusals.Refusal.{Refusal}
use Rattle.mast_cli.specs.stage.Closures.{limit_event}
use Rattle.mast_cli.proofs.TellingLemmas.{ends_bytes, refusal_of}
use Rattle.mast_cli.proofs.specification.within_limits.Goals as goal

pub returns-in-Err-Named : goal.returns-in-Err-Named
returns-in-Err-Named c =
    let spec = c.args.spec in
    let stopped = c.in-Err-Named in
    let first = refusal_of (λ (fits : Unit {0}). MeetsNoLimit spec) (IsFirstLimit spec) stopped.field-0 stopped.limit stopped.field-0-is stopped.ensures in
    ends_bytes (λ (same : Spec). (same ≡ spec) × MeetsNoLimit spec) (λ (event : Refusal). (above : CheckLimit) × IsFirstLimit spec above × (event ≡ limit_event above))
    c.refusal_of.result c.ended_at.result (stopped.limit, first, c.refusal_of.ensures) c.ended_at.ensures
