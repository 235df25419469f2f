use Rattle.std.proofs.Common.{ℕ, inr, subst}
use Rattle.std.specs.Prelude.{Option}
use Rattle.mast_join.specs.inside.Values.{TellsTerm}
use Rattle.mast_join.proofs.HeadLemmas.{part_reads_more, second_reads, tells_front, tells_none}
use Rattle.mast_join.proofs.places.of_head.Goals as goal

pub of_part-requires-in-Some-second-clause-reads : goal.of_part-requires-in-Some-second-clause-reads
of_part-requires-in-Some-second-clause-reads c =
    let r = c.requires.reads in (
      r.1,
      part_reads_more c.args.terms.now c.of_part.new.terms c.args.tables.now.list c.args.choice.now c.in-Some-second.part r.1 c.of_part.ensures.kept
          (second_reads c.args.terms.now c.args.tables.now.list c.args.choice.now c.args.places.now.second c.in-Some-second.part r.0 r.1 c.in-Some-second.is r.2.of_second),
    )

pub returns-in-None-2-clause-numbers : goal.returns-in-None-2-clause-numbers
returns-in-None-2-clause-numbers c = λ first second both.
    let told = c.in_ok-of_part-in-Some-second.ensures.number second
    (part_reads_more c.args.terms.now c.of_part.new.terms c.args.tables.now.list c.args.choice.now c.in-Some-second.part second c.of_part.ensures.kept
    (second_reads c.args.terms.now c.args.tables.now.list c.args.choice.now c.args.places.now.second c.in-Some-second.part first second c.in-Some-second.is both.of_second)) in
    inr (tells_none c.of_part-in-Some-second.new.terms.terms second (subst (λ (n : Option ℕ). TellsTerm c.of_part-in-Some-second.new.terms.terms second n) c.in-None-2.is told))

pub returns-in-Some-2-clause-numbers : goal.returns-in-Some-2-clause-numbers
returns-in-Some-2-clause-numbers c = λ first second both.
    let old = c.of_part.new.terms.terms in
    let new = c.of_part-in-Some-second.new.terms.terms in
    let one = c.in_ok-of_part.ensures.number first both.of_first in
    let two = c.in_ok-of_part-in-Some-second.ensures.number second
    (part_reads_more c.args.terms.now c.of_part.new.terms c.args.tables.now.list c.args.choice.now c.in-Some-second.part second c.of_part.ensures.kept
    (second_reads c.args.terms.now c.args.tables.now.list c.args.choice.now c.args.places.now.second c.in-Some-second.part first second c.in-Some-second.is both.of_second)) in (
      tells_front old new first _ c.of_part-in-Some-second.ensures.kept.terms (subst (λ (n : Option ℕ). TellsTerm old first n) c.in-Some.is one),
      subst (λ (n : Option ℕ). TellsTerm new second n) c.in-Some-2.is two,
    )
