-- The stage of the limits of queries: how many violation queries there are, and how large the closure of each is.
use Rattle.std.specs.Prelude.{◌≡◌, Option}
use Rattle.mast_check.specs.declared.breach.CheckLimit.{CheckLimit}
use Rattle.mast_check.specs.declared.breach.CheckLimit.TheVariants as limit
use Rattle.mast_check.specs.Limits.{HasFirstLimit, HasNoLimit}
use Rattle.mast_files.specs.Outside.{Contents}
use Rattle.mast_write.specs.declared.refusals.Refusal.{Refusal}
use Rattle.mast_write.specs.declared.refusals.Refusal.TheVariants as refusal
use Rattle.mast_cli.specs.FirstEvent.{Trail, Weighed}
use Rattle.mast_cli.specs.stage.Restrictions.{Documents, Files, SpecificationStages, theory_in}

-- the event of a limit: that there are too many violation queries, or the line of the one whose closure is too large
abbrev pub limit_event : CheckLimit → Refusal
limit_event limit.Violations = refusal.Violations
limit_event (limit.Closure origin count) = refusal.ViolationClosure origin.doc origin.line

-- the violation queries are above a limit, and this is the first one
unfoldable pub ViolationsEvent : Documents → Refusal → Type 0
ViolationsEvent documents event =
    (above : CheckLimit) × HasFirstLimit (theory_in documents) above × (event ≡ limit_event above)

-- they are above none
unfoldable pub AreWithinLimits : Documents → Type 0
AreWithinLimits documents = HasNoLimit (theory_in documents)

-- the stages of a specification, and then the limits of its violation queries
abbrev pub LimitedStages : Contents → Files → Trail → Option Documents → Type 0
LimitedStages contents files = Weighed (SpecificationStages contents files) ViolationsEvent AreWithinLimits
