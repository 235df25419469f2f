use Rattle.std.proofs.Common.{◌≡◌, ◌↔◌, map, length, Contains, sym, ap, subst, ◌∙◌, arith}
use Rattle.std.proofs.lemmas.List.{length-map}
use Rattle.std.proofs.lemmas.Result.{err_from_is_err_and}
use Rattle.mast_cq.specs.NormalForms.{normal_form}
use Rattle.mast_cq.specs.Queries.{viewed}
use Rattle.mast_tbox.specs.Lists.{Reaches}
use Rattle.mast_tbox.proofs.WorkLemmas.{past_end, before_end}
use Rattle.mast_cq.specs.contracts.query.CqRefPartialEq.TheImpl as view
use Rattle.mast_rewrite.specs.Closures.{ClosureStep, Closure}
use Rattle.mast_rewrite.specs.Rewritings.{most}
use Rattle.mast_rewrite.specs.inside.Growing.{Grown, Within}
use Rattle.mast_rewrite.proofs.GrowLemmas.{walked_first, walked_next, walked_all, reached_first, reached_next}
use Rattle.mast_rewrite.proofs.EndLemmas.{refused}
use Rattle.mast_rewrite.proofs.ManyLemmas.{no_more}
use Rattle.mast_rewrite.proofs.RewritingLemmas.{give_certain, give_all}
use Rattle.mast_rewrite.proofs.ViewLemmas.{map_get}
use Rattle.mast_rewrite.proofs.rewriting.perfect_ref.Goals as goal

pub loop-done-init : goal.loop-done-init
loop-done-init c = record {
  walked = walked_first (ClosureStep c.args.normal.now) (normal_form (viewed c.args.query)) (map viewed c.new-set.result.keys) (map viewed c.add.new.set.keys) (length-map c.new-set.result.keys viewed ∙ c.new-set.ensures.len)
      (subst (λ v. Grown (λ m. m ≡ v) (map viewed c.new-set.result.keys) (map viewed c.add.new.set.keys)) (c.view.ensures ∙ c.in_ok-start.ensures) c.in_ok-add.ensures.grown);
  small = c.in_ok-add.ensures.small;
  memo = c.new-memo.ensures c.args.normal.now;
}

pub loop-done-preserved : goal.loop-done-preserved
loop-done-preserved c =
    let at = map_get viewed c.loop-done.set.keys c.loop-done.done c.in-Some.member.now c.in-Some.ensures.key in record {
      walked = walked_next (ClosureStep c.args.normal.now) (normal_form (viewed c.args.query)) (map viewed c.loop-done.set.keys) (map viewed c.grow.new.set.keys) c.loop-done.done (viewed c.in-Some.member.now)
          c.loop-done.invariant.walked at (before_end (map viewed c.loop-done.set.keys) c.loop-done.done (viewed c.in-Some.member.now) at) c.in_ok-grow.ensures.grown;
      small = c.in_ok-grow.ensures.small;
      memo = c.in_ok-grow.ensures.memo;
    }

pub returns-in-None-clause-members : goal.returns-in-None-clause-members
returns-in-None-clause-members c = λ m. subst (λ v. Contains v m ↔ Reaches (ClosureStep c.args.normal.now) (normal_form (viewed c.args.query)) m) (sym c.finished.ensures.queries)
    (walked_all (ClosureStep c.args.normal.now) (normal_form (viewed c.args.query)) (map viewed c.loop-done.set.keys) c.loop-done.done c.loop-done.invariant.walked
    (let n = length-map c.loop-done.set.keys viewed in let p = past_end c.loop-done.set.keys c.loop-done.done (sym c.in-None.ensures.key) in omega arith) m)

pub returns-clause-members : goal.returns-clause-members
returns-clause-members c = λ m. subst (λ v. Contains v m ↔ Reaches (ClosureStep c.args.normal.now) (normal_form (viewed c.args.query)) m) (sym c.finished-2.ensures.queries)
    (walked_all (ClosureStep c.args.normal.now) (normal_form (viewed c.args.query)) (map viewed c.loop-done.set.keys) c.loop-done.done c.loop-done.invariant.walked
    (let n = length-map c.loop-done.set.keys viewed in omega (arith, c.len-count.ensures.len)) m)

pub returns-in_err-add-clause-too_many : goal.returns-in_err-add-clause-too_many
returns-in_err-add-clause-too_many c =
    let p = err_from_is_err_and c.from_residual-in_err-add.result c.from_residual-in_err-add.ensures.1 in rw (p.1, p.2) (refused view.eq-value.it c.view_laws.ensures.equal c.args.normal.now (viewed c.args.query) c.add.new.set _ c.in_err-add.ensures.over
    (reached_first (ClosureStep c.args.normal.now) (normal_form (viewed c.args.query)) (map viewed c.new-set.result.keys) (map viewed c.add.new.set.keys) (length-map c.new-set.result.keys viewed ∙ c.new-set.ensures.len)
    (subst (λ v. Within (λ m. m ≡ v) (map viewed c.new-set.result.keys) (map viewed c.add.new.set.keys)) (c.view.ensures ∙ c.in_ok-start.ensures) c.add.ensures.within)))

pub returns-in_err-grow-clause-too_many : goal.returns-in_err-grow-clause-too_many
returns-in_err-grow-clause-too_many c =
    let p = err_from_is_err_and c.from_residual-in_err-grow.result c.from_residual-in_err-grow.ensures.1 in rw (p.1, p.2) (refused view.eq-value.it c.view_laws.ensures.equal c.args.normal.now (viewed c.args.query) c.grow.new.set _ c.in_err-grow.ensures.over
    (reached_next (ClosureStep c.args.normal.now) (normal_form (viewed c.args.query)) (map viewed c.loop-done.set.keys) (map viewed c.grow.new.set.keys) c.loop-done.done (viewed c.in-Some.member.now)
    c.loop-done.invariant.walked.reached (map_get viewed c.loop-done.set.keys c.loop-done.done c.in-Some.member.now c.in-Some.ensures.key) c.grow.ensures.within))

pub returns-in-None-clause-no_more : goal.returns-in-None-clause-no_more
returns-in-None-clause-no_more c = no_more (Closure c.args.normal.now (viewed c.args.query)) c.finished.result most (λ m. (returns-in-None-clause-members c m).1)
    (let n = length-map c.loop-done.set.keys viewed in let e = ap length c.finished.ensures.queries in let l = c.loop-done.invariant.small in omega arith)

pub returns-clause-no_more : goal.returns-clause-no_more
returns-clause-no_more c = no_more (Closure c.args.normal.now (viewed c.args.query)) c.finished-2.result most (λ m. (returns-clause-members c m).1)
    (let n = length-map c.loop-done.set.keys viewed in let e = ap length c.finished-2.ensures.queries in let l = c.loop-done.invariant.small in omega arith)

pub returns-in-None-clause-sound : goal.returns-in-None-clause-sound
returns-in-None-clause-sound c = give_certain c.args.normal.now (viewed c.args.query) c.finished.result (λ m. (returns-in-None-clause-members c m).0)

pub returns-clause-sound : goal.returns-clause-sound
returns-clause-sound c = give_certain c.args.normal.now (viewed c.args.query) c.finished-2.result (λ m. (returns-clause-members c m).0)

pub returns-in-None-clause-complete : goal.returns-in-None-clause-complete
returns-in-None-clause-complete c = give_all c.args.normal.now (viewed c.args.query) c.finished.result (λ m. (returns-in-None-clause-members c m).1)

pub returns-clause-complete : goal.returns-clause-complete
returns-clause-complete c = give_all c.args.normal.now (viewed c.args.query) c.finished-2.result (λ m. (returns-clause-members c m).1)
