use Rattle.std.proofs.Common.{List, [], ◌∷◌, ◌++◌, ◌+◌, ◌≤◌, length, drop, ap, sym, subst, ◌∙◌, arith}
use Rattle.mast_cq.specs.Queries.{In}
use Rattle.mast_canon.specs.Theories.{theory_of}
use Rattle.mast_violate.specs.Breaches.{violations_of}
use Rattle.mast_check.specs.declared.breach.Breach.{Breach}
use Rattle.mast_check.specs.inside.Pieces.{TellsBreaches}
use Rattle.mast_check.proofs.AllLemmas.{behind_last, behind_more}
use Rattle.mast_check.proofs.ClosureLemmas.{drop_end, item_cut, stands_at}
use Rattle.mast_check.proofs.all.all_of_all.Goals as goal

pub all_of-requires-clause-stands : goal.all_of-requires-clause-stands
all_of-requires-clause-stands g c κs within =
    let list = violations_of (theory_of c.args.spec.now) in
    let v = c.violation-item.result in
    subst (λ w. In w list) (sym c.violation-item.is) (stands_at list c.args.violations.now c.loop-violation.violation-index v c.requires.lists c.loop-violation-test.true)

pub loop-violation-preserved : goal.loop-violation-preserved
loop-violation-preserved g c =
    let list = c.args.violations.now in
    let i = c.loop-violation.violation-index in
    let v = c.violation-item.result in
    let told = subst (λ o. TellsBreaches c.args.spec.now o (v ∷ []) c.in_ok-found.found) c.loop-violation.invariant.same.over c.in_ok-found.ensures.found in
    let grown = c.in_ok-append.ensures.items ∙ ap (λ (bs : List Breach). c.loop-violation.all.items ++ bs) c.into_vec-items.ensures in
    record {
      same = record { over = c.all_of.ensures.same.over ∙ c.loop-violation.invariant.same.over; wanted = c.all_of.ensures.same.wanted ∙ c.loop-violation.invariant.same.wanted };
      told = behind_more c.args.spec.now c.args.extensions.now.over list (drop i list) (drop (i + 1) list) v c.loop-violation.all.items c.in_ok-found.found c.append.new.self.items
          (item_cut list i v c.violation-item.is c.loop-violation-test.true) told grown c.loop-violation.invariant.told;
    }

pub returns : goal.returns
returns g c =
    let list = c.args.violations.now in
    let i = c.loop-violation.violation-index in
    let l : length list ≤ i = omega arith in
    subst (TellsBreaches c.args.spec.now c.args.extensions.now.over list) (sym c.from_vec.ensures)
    (behind_last c.args.spec.now c.args.extensions.now.over list (drop i list) c.loop-violation.all.items (drop_end list i l) c.loop-violation.invariant.told)
