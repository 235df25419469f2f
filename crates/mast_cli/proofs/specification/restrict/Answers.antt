-- The breach is that of the documents.
use Rattle.std.proofs.Common.{Some, None, refl}
use Rattle.mast_tbox.specs.Restrictions.{IsRestrictionBreach}
use Rattle.mast_canon.specs.declared.spec.Spec.{Spec}
use Rattle.mast_write.specs.declared.refusals.Refusal.TheVariants as refusal
use Rattle.mast_cli.specs.inside.Specifying.{documents_of}
use Rattle.mast_cli.specs.stage.Restrictions.{IsRestricted, RestrictionEvent}
use Rattle.mast_cli.proofs.TellingLemmas.{ends_bytes, refusal_of}
use Rattle.mast_cli.proofs.specification.restrict.Goals as goal

pub returns-in-Err-Named : goal.returns-in-Err-Named
unfolding RestrictionEvent IsRestricted
returns-in-Err-Named c =
    let read = c.args.read in
    let documents = documents_of read in
    let stopped = c.in-Err-Named in
    let Breach = IsRestrictionBreach read.ontology.tbox.inclusions read.ontology.tbox.functional read.constraints.list in
    let breach = refusal_of (λ (made : Spec). Breach None) (λ b. Breach (Some b)) stopped.field-0 stopped.breach stopped.field-0-is stopped.ensures.exact in
    ends_bytes (λ (spec : Spec). _) (RestrictionEvent documents) (refusal.Restriction stopped.breach) c.ended_at.result (stopped.breach, breach, refl) c.ended_at.ensures
