use Rattle.std.proofs.lemmas.List.{drop_more}
use Rattle.mast_join.specs.declared.values.SlotPlace.TheVariants.{Cell}
use Rattle.mast_join.proofs.ValueLemmas.{can_read_next, keeps_refl, keeps_twice, numbers_values, read_first, read_more}
use Rattle.mast_join.proofs.values.of_sides.Goals as goal

pub loop-side-init : goal.loop-side-init
loop-side-init c = record {
  noted = c.requires.noted;
  kept = keeps_refl c.args.terms.now;
  reads = λ vs r. rw c.new-numbers.ensures.items (read_first c.args.terms.now.terms c.args.tables.now.list c.args.choice.now c.args.sides.now vs r);
}

pub of_side-requires-clause-reads : goal.of_side-requires-clause-reads
of_side-requires-clause-reads c =
    let l = c.loop-side in
    can_read_next l.terms.terms c.args.tables.now.list c.args.choice.now c.args.sides.now l.side-index _ l.numbers.items c.requires.reads.0
    (drop_more c.args.sides.now l.side-index (Cell 0 0 0) c.loop-side-test.true) (l.invariant.reads c.requires.reads.0 c.requires.reads.1)

pub loop-side-preserved : goal.loop-side-preserved
loop-side-preserved c =
    let l = c.loop-side in
    record {
      noted = c.of_side.ensures.noted;
      kept = keeps_twice c.args.terms.now l.terms c.of_side.new.terms l.invariant.kept c.of_side.ensures.kept;
      reads = λ vs r. rw c.in_ok-push-in-Some.ensures.items
          (read_more l.terms.terms c.args.tables.now.list c.args.choice.now c.of_side.new.terms.terms c.of_side.ensures.kept.terms c.args.sides.now l.side-index _
          (drop_more c.args.sides.now l.side-index (Cell 0 0 0) c.loop-side-test.true) c.in_ok-of_side.field-0 c.in_ok-of_side.ensures.number l.numbers.items c.in-Some.number vs c.in-Some.is
          (l.invariant.reads vs r));
    }

pub returns-clause-values : goal.returns-clause-values
returns-clause-values c =
    let h = c.loop-side.invariant.reads c.requires.reads.0 c.requires.reads.1 in
    numbers_values c.loop-side.terms.terms c.loop-side.numbers.items h.front h.at
