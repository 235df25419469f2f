-- What each member of the closure of a query is and has of it.
use Rattle.std.proofs.Common.{◌≡◌, ℕ, List, true, length, refl, sym, ap, ◌∙◌, subst, arith}
use Rattle.std.specs.List.{AllByRecursion}
use Rattle.mast_terms.specs.declared.name.NameKind.{NameKind}
use Rattle.mast_cq.specs.declared.query.Cq.{Cq}
use Rattle.mast_cq.specs.NormalForms.{normal_form, IsNormal}
use Rattle.mast_cq.specs.Origins.{Named, Passes}
use Rattle.mast_cq.specs.Steps.{merged}
use Rattle.mast_cq.specs.Unification.{replace_arg}
use Rattle.mast_cq.proofs.ListLemmas.{each_in, map_length}
use Rattle.mast_cq.proofs.OriginLemmas.{normal_draws, normal_known, normal_names, draws_sorts}
use Rattle.mast_cq.proofs.SettleLemmas.{normal_form_normal, normal_form_length}
use Rattle.mast_cq.proofs.StepOriginLemmas.{step_known}
use Rattle.mast_tbox.specs.declared.axiom.Inclusion.{Inclusion}
use Rattle.mast_tbox.specs.Lists.{itself}
use Rattle.mast_tbox.specs.Names.{AreNamed}
use Rattle.mast_tbox.proofs.RangeLemmas.{down_named}
use Rattle.mast_tbox.proofs.WorkLemmas.{reaches_least, reaches_more}
use Rattle.mast_rewrite.specs.ClosureLaws.{IsClosedUnderSteps, IsLeastClosure, IsNoLarger, KeepsKnown, KeepsSorts, KeepsPassing}
use Rattle.mast_rewrite.specs.Closures.{Closure}
use Rattle.mast_rewrite.proofs.MemberLemmas.{step_atoms, is_step, closure_step_fewer, closure_step_sorts, closure_step_names}

module _ (tbox : List Inclusion) (q : Cq) where
  -- what the normal form has, and steps keep, all members have
  pub members_have : (P : Cq → Type 0) → P (normal_form q) → IsClosedUnderSteps tbox P → (m : Cq) → Closure tbox q m → P m
  members_have P first keeps m c = reaches_least P keeps (normal_form q) m first c

  -- the normal form is a member, and a step from a member leads to one
  pub closure_begins : Closure tbox q (normal_form q)
  closure_begins = itself

  pub closure_closed : IsClosedUnderSteps tbox (Closure tbox q)
  closure_closed m n c step = reaches_more (normal_form q) m n c step

  pub closure_least : IsLeastClosure tbox q
  closure_least set begins closed m c = members_have (λ k. set k ≡ true) begins closed m c

  -- each member is in normal form
  pub member_normal : (m : Cq) → Closure tbox q m → IsNormal m
  member_normal = members_have IsNormal (normal_form_normal q) (λ m n p step. subst IsNormal (sym step.gives) (normal_form_normal (merged m step.by step.others)))

  -- has no more atoms, and as long an answer list
  pub member_smaller : (m : Cq) → Closure tbox q m → IsNoLarger q m
  member_smaller = members_have (IsNoLarger q) (record { atoms = normal_form_length q; answer = refl }) (λ m n p step. record {
    atoms = (let l = closure_step_fewer tbox m n step in let k = p.atoms in omega arith);
    answer = ap (λ k. length k.answer) step.gives ∙ (map_length (replace_arg step.by.replacement) m.answer ∙ p.answer);
  })

  -- keeps known constants known
  pub member_known : (m : Cq) → Closure tbox q m → KeepsKnown q m
  member_known = members_have (KeepsKnown q) (λ bound k. normal_known bound q k) (λ m n p step bound k. step_known m n (is_step tbox m n step) bound (p bound k))

  -- that each argument has one sort
  pub member_sorts : (m : Cq) → Closure tbox q m → KeepsSorts q m
  member_sorts = members_have (KeepsSorts q) (λ one. draws_sorts (normal_form q).atoms q.atoms (normal_draws q) one) (λ m n p step one. closure_step_sorts tbox m n step (p one))

  -- and what holds of the names of the inclusions and of the query
  pub member_named : (P : NameKind → ℕ → Type 0) → AreNamed P tbox → AllByRecursion (Named P) q.atoms → (m : Cq) → Closure tbox q m → AllByRecursion (Named P) m.atoms
  member_named P all names = members_have (λ m. AllByRecursion (Named P) m.atoms) (normal_names P q names) (λ m n p step.
      closure_step_names tbox m n step P
      (down_named P tbox all step.g step.counts.is_meeting.left (each_in (Named P) step.g m.atoms p (step_atoms tbox m n step).one) step.counts.is_meeting.left_below) p)

  pub member_passing : (m : Cq) → Closure tbox q m → KeepsPassing tbox q m
  member_passing m c test all names = member_named (Passes test) all names m c
