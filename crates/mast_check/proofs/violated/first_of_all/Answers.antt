use Rattle.std.proofs.Common.{drop, sym, subst, ◌+◌, ◌∙◌}
use Rattle.mast_cq.specs.Queries.{In}
use Rattle.mast_canon.specs.Theories.{theory_of}
use Rattle.mast_violate.specs.Breaches.{violations_of}
use Rattle.mast_check.specs.inside.Pieces.{AreOfSpec, TellsBreach}
use Rattle.mast_check.specs.inside.Possible.{IsPossible}
use Rattle.mast_check.proofs.ClosureLemmas.{item_cut, stands_at}
use Rattle.mast_check.proofs.FirstLemmas.{rest_here, rest_later}
use Rattle.mast_check.proofs.violated.first_of_all.Goals as goal

pub first_of-requires-clause-over : goal.first_of-requires-clause-over
first_of-requires-clause-over g c κs within = subst (AreOfSpec c.args.spec.now) (sym c.loop-violation.invariant.same.over) c.requires.over

pub first_of-requires-clause-wanted : goal.first_of-requires-clause-wanted
first_of-requires-clause-wanted g c κs within = c.loop-violation.invariant.same.wanted ∙ c.requires.wanted

pub first_of-requires-clause-stands : goal.first_of-requires-clause-stands
first_of-requires-clause-stands g c κs within =
    let list = violations_of (theory_of c.args.spec.now) in
    let v = c.violation-item.result in
    subst (λ w. In w list) (sym c.violation-item.is) (stands_at list c.args.violations.now c.loop-violation.violation-index v c.requires.lists c.loop-violation-test.true)

pub first_of-requires-clause-possible : goal.first_of-requires-clause-possible
first_of-requires-clause-possible g c κs within = subst (λ o. IsPossible o c.loop-violation.possible) (sym c.loop-violation.invariant.same.over) c.loop-violation.invariant.possible

pub returns-then-is_some : goal.returns-then-is_some
returns-then-is_some g c =
    let list = c.args.violations.now in
    let i = c.loop-violation.violation-index in
    let v = c.violation-item.result in
    let told = subst (λ o. TellsBreach c.args.spec.now o v c.in_ok-found.found) c.loop-violation.invariant.same.over c.in_ok-found.ensures.found in
    rest_here c.args.spec.now c.args.extensions.now.over list (drop (i + 1) list) (drop i list) v c.in_ok-found.found (item_cut list i v c.violation-item.is c.loop-violation-test.true) (sym c.is_some.ensures ∙ c.if-is_some.true) told
    c.loop-violation.invariant.told

pub loop-violation-preserved : goal.loop-violation-preserved
loop-violation-preserved g c =
    let list = c.args.violations.now in
    let i = c.loop-violation.violation-index in
    let v = c.violation-item.result in
    let told = subst (λ o. TellsBreach c.args.spec.now o v c.in_ok-found.found) c.loop-violation.invariant.same.over c.in_ok-found.ensures.found in
    record {
      same = record { over = c.first_of.ensures.same.over ∙ c.loop-violation.invariant.same.over; wanted = c.first_of.ensures.same.wanted ∙ c.loop-violation.invariant.same.wanted };
      possible = subst (λ o. IsPossible o c.first_of.new.possible) c.loop-violation.invariant.same.over c.in_ok-found.ensures.possible;
      told = rest_later c.args.spec.now c.args.extensions.now.over list (drop (i + 1) list) (drop i list) v c.in_ok-found.found (item_cut list i v c.violation-item.is c.loop-violation-test.true)
          (sym c.is_some.ensures ∙ c.if-is_some.false) told c.loop-violation.invariant.told;
    }
