use Rattle.std.proofs.Common.{◌≡◌, ℕ, length, subst, arith}
use Rattle.mast_relations.proofs.PlanningLemmas.{IsSplitTo, split_put_key, split_put_new, split_whole}
use Rattle.mast_relations.proofs.planning.split_columns.Goals as goal
use Rattle.mast_relations.proofs.planning.split_columns.Goals.{in-Some+in_ok-push-in-Some+in_ok-push-in-Some-2, in-None+in_ok-push-in-None}

pub loop-column-preserved : goal.loop-column-preserved
loop-column-preserved c =
    let l = c.loop-column in
    elim c.match-place_of.branch [
      | in-Some+in_ok-push-in-Some+in_ok-push-in-Some-2 w ↦ rw w.split-is
          (split_put_key c.args.variables.now c.args.bound.now l.column l.split.columns.items l.split.places.items l.split.fresh.items w.push.new.self.items w.push-in-Some.new.self.items w.in-Some.place l.invariant
          w.in-Some.ensures.0 w.in-Some.ensures.1 w.in_ok-push-in-Some.ensures.items w.in_ok-push-in-Some-2.ensures.items)
      | in-None+in_ok-push-in-None w ↦ rw w.split-is
          (split_put_new c.args.variables.now c.args.bound.now l.column l.split.columns.items l.split.places.items l.split.fresh.items w.push-in-None.new.self.items l.invariant
          w.in-None.ensures w.in_ok-push-in-None.ensures.items)
    ]

pub returns : goal.returns
returns c =
    let l = c.loop-column in
    let all : l.column ≡ length c.args.variables.now = omega (arith, c.loop-column-test.false, l.auto.column-end) in
    split_whole c.args.variables.now c.args.bound.now l.split (subst (λ (n : ℕ). IsSplitTo c.args.variables.now c.args.bound.now n l.split.columns.items l.split.places.items l.split.fresh.items) all l.invariant)
