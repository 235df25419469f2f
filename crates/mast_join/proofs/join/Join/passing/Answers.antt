use Rattle.std.proofs.Common.{◌+◌, ◌++◌, List, ℕ, get_or, drop, ap, sym, ◌∙◌}
use Rattle.std.specs.List.{filter}
use Rattle.mast_join.specs.inside.Joins.{nothing, sources}
use Rattle.mast_join.specs.inside.Partial.{pass_all}
use Rattle.mast_join.specs.inside.RowLists.{passes_alone}
use Rattle.mast_join.proofs.RowLemmas.{alone_more, alone_partly}
use Rattle.mast_join.proofs.RowListLemmas.{filter_yes, filter_no}
use Rattle.mast_join.proofs.join.Join.passing.Goals as goal
use Rattle.mast_join.proofs.join.Join.passing.Goals.{then-passes+in_ok-push, else-passes}

pub passes-requires-clause-partly : goal.passes-requires-clause-partly
passes-requires-clause-partly c =
    let i = c.loop-row.row-index in
    rw c.deref.ensures.value (alone_partly c.args.self.now c.args.entry (get_or c.args.rows.now i 0) c.loop-row.choice.items c.loop-row.invariant.alone c.requires.entry (c.requires.rows i 0 c.loop-row-test.true))

pub loop-row-preserved : goal.loop-row-preserved
loop-row-preserved c =
    let j = c.args.self.now in
    let i = c.loop-row.row-index in
    let r = get_or c.args.rows.now i 0 in
    let p = passes_alone j c.args.entry in
    let judged = ap (λ (k : List ℕ). pass_all (sources j) k j.tests.items) (sym (c.deref.ensures.value ∙ c.loop-row.invariant.alone.alone r)) ∙ sym c.passes.ensures in
    elim c.if-passes.branch [
      | then-passes+in_ok-push w ↦ rw w.found-is (record {
        alone = alone_more (nothing j) c.args.entry c.loop-row.choice.items r c.loop-row.invariant.alone;
        rest = ap (λ (k : List ℕ). k ++ filter p (drop (i + 1) c.args.rows.now)) w.in_ok-push.ensures.items
            ∙ filter_yes p c.args.rows.now i c.loop-row.found.items c.loop-row-test.true (judged ∙ w.if-passes.true) ∙ c.loop-row.invariant.rest;
      })
      | else-passes w ↦ rw w.found-is (record {
        alone = alone_more (nothing j) c.args.entry c.loop-row.choice.items r c.loop-row.invariant.alone;
        rest = filter_no p c.args.rows.now i c.loop-row.found.items c.loop-row-test.true (judged ∙ w.if-passes.false) ∙ c.loop-row.invariant.rest;
      })
    ]
