-- The arguments of a closure's step come from the query: those of its merge do, and those of the normal form come from the merge.
use Rattle.std.proofs.Common.{◌≡◌, ℕ, ◌<◌, ◌++◌, length, sym, ap, subst, arith}
use Rattle.std.specs.List.{AllByRecursion}
use Rattle.mast_terms.specs.declared.name.NameKind.{NameKind}
use Rattle.mast_cq.specs.declared.query.Cq.{Cq}
use Rattle.mast_cq.specs.NormalForms.{normal_form}
use Rattle.mast_cq.specs.Origins.{AreFrom, DrawsFrom, IsStep, KnownQuery, Named}
use Rattle.mast_cq.specs.Sorts.{objects_of, values_of, arguments_of, of_all, EachHasOneSort}
use Rattle.mast_cq.proofs.MergeOriginLemmas.{are_trans, merge_fewer, merge_arguments, merge_answer, merge_known, merge_names, merge_draws}
use Rattle.mast_cq.proofs.OriginLemmas.{normal_arguments, normal_draws, normal_known, normal_names, draws_sorts}
use Rattle.mast_cq.proofs.SettleLemmas.{normal_form_length}

module _ (q r : Cq) (step : IsStep q r) where
  -- a step has fewer atoms
  pub step_fewer : length r.atoms < length q.atoms
  step_fewer =
      let a = merge_fewer q step.before step.merge in
      let b = normal_form_length step.before in
      let c : length r.atoms ≡ length (normal_form step.before).atoms = ap (λ k. length k.atoms) step.gives in
      omega arith

  -- the arguments of its atoms come from those of the query's atoms
  pub step_arguments : AreFrom (of_all arguments_of r.atoms) (of_all arguments_of q.atoms)
  step_arguments = subst (λ c. AreFrom (of_all arguments_of c.atoms) (of_all arguments_of q.atoms)) (sym step.gives)
      (are_trans (of_all arguments_of (normal_form step.before).atoms) (of_all arguments_of step.before.atoms) (of_all arguments_of q.atoms)
      (normal_arguments step.before) (merge_arguments q step.before step.merge))

  -- and those of its answer list from these and the answer list
  pub step_answer : AreFrom r.answer (q.answer ++ of_all arguments_of q.atoms)
  step_answer = subst (λ c. AreFrom c.answer (q.answer ++ of_all arguments_of q.atoms)) (sym step.gives) (merge_answer q step.before step.merge)

  module _ (one : EachHasOneSort q.atoms) where
    -- where each argument has one sort they come from places of the same sort
    pub step_draws : DrawsFrom r.atoms q.atoms
    step_draws =
        let a = normal_draws step.before in
        let b = merge_draws q step.before step.merge one in
        subst (λ c. DrawsFrom c.atoms q.atoms) (sym step.gives) (record {
          objects = are_trans (of_all objects_of (normal_form step.before).atoms) (of_all objects_of step.before.atoms) (of_all objects_of q.atoms) a.objects b.objects;
          values = are_trans (of_all values_of (normal_form step.before).atoms) (of_all values_of step.before.atoms) (of_all values_of q.atoms) a.values b.values;
        })

    -- and each still has one
    pub step_sorts : EachHasOneSort r.atoms
    step_sorts = draws_sorts r.atoms q.atoms step_draws one

  -- a step keeps known constants known
  pub step_known : (bound : ℕ) → KnownQuery bound q → KnownQuery bound r
  step_known bound k = subst (KnownQuery bound) (sym step.gives) (normal_known bound step.before (merge_known bound q step.before step.merge k))

  -- what holds of the names of the query and of left holds of those of a step
  pub step_names : (P : NameKind → ℕ → Type 0) → Named P step.merge.left → AllByRecursion (Named P) q.atoms → AllByRecursion (Named P) r.atoms
  step_names P left all = subst (λ c. AllByRecursion (Named P) c.atoms) (sym step.gives) (normal_names P step.before (merge_names P q step.before step.merge left all))
