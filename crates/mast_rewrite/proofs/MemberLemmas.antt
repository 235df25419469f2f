-- What a step of the closure is and keeps, and which atoms of a query it takes.
use Rattle.std.proofs.Common.{ℕ, ◌<◌, List, length, inl, inr, refl}
use Rattle.std.specs.List.{AllByRecursion}
use Rattle.mast_terms.specs.declared.name.NameKind.{NameKind}
use Rattle.mast_cq.specs.declared.query.Cq.{Cq}
use Rattle.mast_cq.specs.Origins.{IsStep, Named}
use Rattle.mast_cq.specs.Queries.{In, Takes, first, later, TakesTwo, here, beyond}
use Rattle.mast_cq.specs.Sorts.{EachHasOneSort}
use Rattle.mast_cq.specs.Steps.{merged}
use Rattle.mast_cq.proofs.StepOriginLemmas.{step_fewer, step_sorts, step_names}
use Rattle.mast_cq.proofs.TakesLemmas.{at_places}
use Rattle.mast_tbox.specs.declared.axiom.Inclusion.{Inclusion}
use Rattle.mast_tbox.proofs.ArgumentLemmas.{down_draws}
use Rattle.mast_rewrite.specs.Closures.{ClosureStep}

-- what is taken out of a list is one of it
pub takes_in : {X : Type 0} {xs : List X} {x : X} {rest : List X} → Takes xs x rest → In x xs
takes_in first = inl refl
takes_in (later t) = inr (takes_in t)

-- the element can be taken out of the list
pub record Taken {X : Type 0} (xs : List X) (y : X) : Type 0 where
  pub rest : List X
  pub takes : Takes xs y rest

-- what can be taken out of the rest can be taken out of the list
pub rest_taken : {X : Type 0} {xs : List X} {x y : X} {others rest : List X} → Takes xs x others → Takes others y rest → Taken xs y
rest_taken (first {x = x}) u = record { rest = _; takes = later u }
rest_taken (later {xs = xs} t) first = record { rest = xs; takes = first }
rest_taken (later t) (later u) = let w = rest_taken t u in record { rest = _; takes = later w.takes }

-- two elements of a list
pub record BothIn {X : Type 0} (xs : List X) (x y : X) : Type 0 where
  pub one : In x xs
  pub other : In y xs

-- two that are taken out of a list are elements of it
pub two_in : {X : Type 0} {xs : List X} {x y : X} {rest : List X} → TakesTwo xs x y rest → BothIn xs x y
two_in (here t) = record { one = inl refl; other = inr (takes_in t) }
two_in (beyond t) = let w = two_in t in record { one = inr w.one; other = inr w.other }

module _ (tbox : List Inclusion) (q r : Cq) (step : ClosureStep tbox q r) where
  -- the two atoms of a step are atoms of the query
  pub step_atoms : BothIn q.atoms step.g step.h
  step_atoms = two_in (at_places q.atoms step.g step.h step.others step.two)

  -- it is a step of which the arguments come from the query
  pub is_step : IsStep q r
  is_step =
      let m = step.counts.is_meeting in
      record {
        before = merged q step.by step.others;
        merge = record {
          g = step.g;
          h = step.h;
          left = m.left;
          right = m.right;
          others = step.others;
          by = step.by;
          two = step.two;
          left_draws = down_draws tbox step.g m.left m.left_below;
          right_draws = down_draws tbox step.h m.right m.right_below;
          meets = m.meets;
          gives = refl;
        };
        gives = step.gives;
      }

  -- so it has fewer atoms
  pub closure_step_fewer : length r.atoms < length q.atoms
  closure_step_fewer = step_fewer q r is_step

  -- and keeps that each argument has one sort
  pub closure_step_sorts : EachHasOneSort q.atoms → EachHasOneSort r.atoms
  closure_step_sorts one = step_sorts q r is_step one

  -- and what holds of the names of the query and of a member of Down of its first atom
  pub closure_step_names : (P : NameKind → ℕ → Type 0) → Named P step.counts.is_meeting.left → AllByRecursion (Named P) q.atoms → AllByRecursion (Named P) r.atoms
  unfolding is_step
  closure_step_names P left all = step_names q r is_step P left all
