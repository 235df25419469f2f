use Rattle.std.proofs.Common.{List, ℕ, sym, subst, arith}
use Rattle.mast_canon.specs.Choices.{IsChoice}
use Rattle.mast_join.specs.inside.MadeFacts.{AddsFact, asked_over, fact_by, rows_by}
use Rattle.mast_join.proofs.FactsLemmas.{facts_end, facts_more, found_meets, pool_twice}
use Rattle.mast_join.proofs.HeadLemmas.{head_more}
use Rattle.mast_join.proofs.facts.facts_by.Goals as goal

pub add_choice-requires-clause-places : goal.add_choice-requires-clause-places
add_choice-requires-clause-places c =
    head_more c.args.pool.now.terms c.loop-number.pool.terms c.args.base.now.spec.now.tables c.args.map.now.query c.args.map.now.head c.args.places.now c.loop-number.invariant.more.terms c.requires.places

pub add_choice-requires-clause-choice : goal.add_choice-requires-clause-choice
add_choice-requires-clause-choice c =
    let list = c.args.found.now.list in
    let test = c.loop-number-test.true in
    let end = c.len-number-end.ensures in
    let met = found_meets c.args.base.now c.args.map.now list c.loop-number.number (omega (arith, test, end)) c.requires.choices in
    subst (λ (choice : List ℕ). IsChoice c.args.base.now.spec.now.tables c.args.base.now.tables.now.list c.args.map.now.query choice) (sym c.choice.ensures) met.meets.is_choice

pub loop-number-preserved : goal.loop-number-preserved
loop-number-preserved c =
    let l = c.loop-number in
    let list = c.args.found.now.list in
    let over = asked_over c.args.base.now in
    let test = c.loop-number-test.true in
    let end = c.len-number-end.ensures in
    let new = c.add_choice.new.pool in
    record {
      pool = c.add_choice.ensures.pool;
      more = pool_twice c.args.pool.now l.pool new l.invariant.more c.add_choice.ensures.more;
      facts = facts_more c.args.base.now c.args.map.now l.pool new list l.number l.facts.items c.add_choice.new.facts.items c.add_choice.ensures.more l.invariant.facts
          (found_meets c.args.base.now c.args.map.now list l.number (omega (arith, test, end)) c.requires.choices)
          (subst (λ (choice : List ℕ). AddsFact c.args.base.now.wanted new (fact_by over c.args.map.now choice) (rows_by over c.args.map.now choice) l.facts.items c.add_choice.new.facts.items) c.choice.ensures
          c.in_ok-add_choice.ensures.added);
    }

pub returns-clause-facts : goal.returns-clause-facts
returns-clause-facts c =
    let l = c.loop-number in
    let test = c.loop-number-test.false in
    let end = c.len-number-end.ensures in
    facts_end c.args.base.now c.args.map.now l.pool c.args.found.now.list l.number l.facts.items (omega (arith, test, end)) c.requires.choices l.invariant.facts
