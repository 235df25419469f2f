use Rattle.std.proofs.Common.{◌+◌, ◌++◌, List, ℕ, get_or, set, drop, ap, sym, ◌∙◌, arith}
use Rattle.mast_join.specs.inside.Joins.{sources}
use Rattle.mast_join.specs.inside.Partial.{kept}
use Rattle.mast_join.proofs.GrownLemmas.{kept_yes, kept_no}
use Rattle.mast_join.proofs.JoinLemmas.{length-sources}
use Rattle.mast_join.proofs.RowLemmas.{partly_set}
use Rattle.mast_join.proofs.join.Join.put.Goals as goal
use Rattle.mast_join.proofs.join.Join.put.Goals.{then-passes+in_ok-push, else-passes}

pub passes-requires-clause-partly : goal.passes-requires-clause-partly
passes-requires-clause-partly c =
    let i = c.loop-row.row-index in
    partly_set (sources c.args.self.now) c.loop-row.choice c.args.entry (get_or c.args.rows.now i 0) c.loop-row.invariant.partly
    (omega (arith, c.loop-row.invariant.partly.long, length-sources c.args.self.now, c.requires.entry)) (c.requires.rows i 0 c.loop-row-test.true)

pub loop-row-preserved : goal.loop-row-preserved
loop-row-preserved c =
    let j = c.args.self.now in
    let i = c.loop-row.row-index in
    let x = set c.loop-row.choice c.args.entry (get_or c.args.rows.now i 0) in
    elim c.if-passes.branch [
      | then-passes+in_ok-push w ↦ rw w.grown-is (record {
        partly = partly_set (sources j) c.loop-row.choice c.args.entry (get_or c.args.rows.now i 0) c.loop-row.invariant.partly
            (omega (arith, c.loop-row.invariant.partly.long, length-sources j, c.requires.entry)) (c.requires.rows i 0 c.loop-row-test.true);
        width = w.in_ok-push.ensures.width ∙ c.loop-row.invariant.width;
        rest = ap (λ (k : List (List ℕ)). k ++ kept (sources j) j.tests.items x c.args.entry (drop (i + 1) c.args.rows.now)) w.in_ok-push.ensures.list
            ∙ kept_yes (sources j) j.tests.items c.loop-row.choice c.args.entry c.args.rows.now i c.loop-row.grown.list c.loop-row-test.true (sym c.passes.ensures ∙ w.if-passes.true)
            ∙ c.loop-row.invariant.rest;
      })
      | else-passes w ↦ rw w.grown-is (record {
        partly = partly_set (sources j) c.loop-row.choice c.args.entry (get_or c.args.rows.now i 0) c.loop-row.invariant.partly
            (omega (arith, c.loop-row.invariant.partly.long, length-sources j, c.requires.entry)) (c.requires.rows i 0 c.loop-row-test.true);
        width = c.loop-row.invariant.width;
        rest = kept_no (sources j) j.tests.items c.loop-row.choice c.args.entry c.args.rows.now i c.loop-row.grown.list c.loop-row-test.true (sym c.passes.ensures ∙ w.if-passes.false)
            ∙ c.loop-row.invariant.rest;
      })
    ]
