use Rattle.std.proofs.Common.{refl, ◌∙◌, arith}
use Rattle.std.proofs.lemmas.List.{take_all}
use Rattle.mast_join.specs.inside.Filling.{IsGiven, rows_at}
use Rattle.mast_join.proofs.FillLemmas.{gained_refl, refilled_refl, refilled_twice}
use Rattle.mast_join.proofs.FillStepLemmas.{gained_more, given_all, given_first, given_more}
use Rattle.mast_join.proofs.fill.fill_from.Goals as goal

pub loop-fact-init : goal.loop-fact-init
loop-fact-init c = record {
  linked = c.requires.linked;
  seen = refl;
  refilled = refilled_refl c.args.number c.args.relations.now;
  only = gained_refl (IsGiven c.args.wanted c.args.width c.args.source c.args.facts.now) (rows_at c.args.relations.now c.args.number);
  all = given_first c.args.wanted c.args.width c.args.source c.args.facts.now (rows_at c.args.relations.now c.args.number).list;
}

pub put_fact-requires-clause-there : goal.put_fact-requires-clause-there
put_fact-requires-clause-there c = let t = c.requires.there in let l = c.loop-fact.invariant.refilled.long in omega (arith, t, l)

pub put_fact-requires-clause-wide : goal.put_fact-requires-clause-wide
put_fact-requires-clause-wide c = c.loop-fact.invariant.only.width ∙ c.requires.wide

pub put_fact-requires-clause-seen : goal.put_fact-requires-clause-seen
put_fact-requires-clause-seen c = c.loop-fact.invariant.seen ∙ c.requires.seen

pub put_fact-requires-clause-linked : goal.put_fact-requires-clause-linked
put_fact-requires-clause-linked c = c.loop-fact.invariant.linked

pub returns-in_err-put_fact-clause-seen : goal.returns-in_err-put_fact-clause-seen
returns-in_err-put_fact-clause-seen c = c.put_fact.ensures.seen ∙ c.loop-fact.invariant.seen

pub returns-in_err-put_fact-clause-refilled : goal.returns-in_err-put_fact-clause-refilled
returns-in_err-put_fact-clause-refilled c =
    refilled_twice c.args.number c.args.relations.now c.loop-fact.relations c.put_fact.new.relations c.loop-fact.invariant.refilled c.put_fact.ensures.refilled

pub returns-in_err-put_fact-clause-only : goal.returns-in_err-put_fact-clause-only
returns-in_err-put_fact-clause-only c =
    gained_more c.args.wanted c.args.width c.args.source c.args.facts.now c.loop-fact.fact-index _ c.loop-fact-test.true (rows_at c.args.relations.now c.args.number) (rows_at c.loop-fact.relations c.args.number)
    (rows_at c.put_fact.new.relations c.args.number) c.loop-fact.invariant.only c.put_fact.ensures.only

pub loop-fact-preserved : goal.loop-fact-preserved
loop-fact-preserved c =
    let before = rows_at c.loop-fact.relations c.args.number in
    let after = rows_at c.put_fact.new.relations c.args.number in
    record {
      linked = c.in_ok-put_fact.ensures.linked;
      seen = c.put_fact.ensures.seen ∙ c.loop-fact.invariant.seen;
      refilled = refilled_twice c.args.number c.args.relations.now c.loop-fact.relations c.put_fact.new.relations c.loop-fact.invariant.refilled c.put_fact.ensures.refilled;
      only = gained_more c.args.wanted c.args.width c.args.source c.args.facts.now c.loop-fact.fact-index _ c.loop-fact-test.true (rows_at c.args.relations.now c.args.number) before after c.loop-fact.invariant.only
          c.put_fact.ensures.only;
      all = given_more c.args.wanted c.args.width c.args.source c.args.facts.now c.loop-fact.fact-index _ c.loop-fact-test.true before after c.loop-fact.invariant.all c.put_fact.ensures.only
          c.in_ok-put_fact.ensures.has;
    }

pub returns-clause-linked : goal.returns-clause-linked
returns-clause-linked c = c.loop-fact.invariant.linked

pub returns-clause-seen : goal.returns-clause-seen
returns-clause-seen c = c.loop-fact.invariant.seen

pub returns-clause-refilled : goal.returns-clause-refilled
returns-clause-refilled c = c.loop-fact.invariant.refilled

pub returns-clause-only : goal.returns-clause-only
returns-clause-only c = c.loop-fact.invariant.only

pub returns-clause-all : goal.returns-clause-all
returns-clause-all c =
    let l = c.loop-fact in
    given_all c.args.wanted c.args.width c.args.source c.args.facts.now _ (rows_at l.relations c.args.number).list (take_all l.fact-index c.args.facts.now c.loop-fact-test.false) l.invariant.all
