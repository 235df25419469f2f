use Rattle.std.proofs.Common.{◌<◌, [], length, ◌∙◌}
use Rattle.mast_relations.proofs.ListLemmas.{each_at_place}
use Rattle.mast_join.specs.declared.fill.Gathered.{Gathered}
use Rattle.mast_join.specs.inside.Filling.{IsFull, rows_at}
use Rattle.mast_join.proofs.FillLemmas.{refilled_twice}
use Rattle.mast_join.proofs.FillStepLemmas.{all_more, right_more, same_read}
use Rattle.mast_join.proofs.fill.fill_all.Goals as goal

pub fill_from-requires-clause-full : goal.fill_from-requires-clause-full
fill_from-requires-clause-full c = each_at_place (IsFull c.args.width) _ c.args.sources.now c.loop-source.source-index c.requires.full c.loop-source-test.true

pub loop-source-preserved : goal.loop-source-preserved
loop-source-preserved c =
    let l = c.loop-source in
    let before = rows_at l.relations c.args.number in
    let after = rows_at c.fill_from.new.relations c.args.number in
    let there = each_at_place (λ (source : Gathered). source.place < length c.args.facts.now) _ c.args.sources.now l.source-index c.requires.places c.loop-source-test.true in
    let of = c.as_slice-given.ensures ∙ same_read c.args.facts.now _ c.index-facts-source.result [] there c.index-facts-source.is in
    record {
      linked = c.in_ok-fill_from.ensures.linked;
      seen = c.fill_from.ensures.seen ∙ l.invariant.seen;
      refilled = refilled_twice c.args.number c.args.relations.now l.relations c.fill_from.new.relations l.invariant.refilled c.fill_from.ensures.refilled;
      wide = c.fill_from.ensures.only.width ∙ l.invariant.wide;
      right = right_more c.args.wanted c.args.width c.args.facts.now c.args.sources.now l.source-index _ c.as_slice-given.result.now c.loop-source-test.true of before after l.invariant.right c.fill_from.ensures.only;
      all = all_more c.args.wanted c.args.width c.args.facts.now c.args.sources.now l.source-index _ c.as_slice-given.result.now c.loop-source-test.true of before after l.invariant.all c.fill_from.ensures.only
          c.in_ok-fill_from.ensures.all;
    }
