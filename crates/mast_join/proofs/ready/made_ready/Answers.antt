use Rattle.std.proofs.Common.{length}
use Rattle.mast_cq.specs.Queries.{viewed}
use Rattle.mast_join.specs.inside.Keeping.{extended}
use Rattle.mast_join.proofs.ConjunctionLemmas.{is_conjunction}
use Rattle.mast_join.proofs.ReadyLemmas.{planned_ready, replanned_kept}
use Rattle.mast_join.proofs.ready.made_ready.Goals as goal

pub plan-requires : goal.plan-requires
plan-requires c =
    is_conjunction (extended c.args.base.now c.conjunction.new.store) (viewed c.args.query) c.in_ok-made.made c.in_ok-made.ensures.conjunction (length c.args.base.now.spec.now.vocab.constants) c.requires.asked

pub returns-in_err-plan-clause-kept : goal.returns-in_err-plan-clause-kept
returns-in_err-plan-clause-kept c = replanned_kept c.args.base.now c.conjunction.new.store c.plan.new.self c.in_err-plan.ensures.contents c.in_ok-made.ensures.kept

pub returns-clause-ready : goal.returns-clause-ready
returns-clause-ready c =
    planned_ready c.args.base.now c.conjunction.new.store c.plan.new.self c.in_ok-plan.ensures.contents c.in_ok-plan.ensures.plans c.args.query c.in_ok-made.made c.in_ok-plan.plan
    (length c.args.base.now.spec.now.vocab.constants) c.in_ok-made.ensures.conjunction c.requires.asked c.len.ensures.once.terms c.in_ok-plan.ensures.query c.in_ok-plan.ensures.plan

pub returns-clause-kept : goal.returns-clause-kept
returns-clause-kept c = replanned_kept c.args.base.now c.conjunction.new.store c.plan.new.self c.in_ok-plan.ensures.contents c.in_ok-made.ensures.kept
