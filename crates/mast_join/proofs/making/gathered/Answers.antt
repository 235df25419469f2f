use Rattle.std.proofs.Common.{ap, subst, ◌∙◌}
use Rattle.mast_cq.specs.declared.atom.Arg.{Arg}
use Rattle.mast_join.specs.Extensions.{constant_over}
use Rattle.mast_join.specs.inside.Gathers.{Asks}
use Rattle.mast_join.specs.inside.MadeFacts.{asked_over}
use Rattle.mast_join.proofs.FactsLemmas.{pool_twice}
use Rattle.mast_join.proofs.KeepingLemmas.{asks_kept, front_same, grown_twice, map_facts_kept}
use Rattle.mast_join.proofs.ValueLemmas.{front_twice}
use Rattle.mast_join.proofs.making.gathered.Goals as goal

pub returns-in_err-first-clause-more : goal.returns-in_err-first-clause-more
returns-in_err-first-clause-more c = grown_twice c.args.store.now c.facts_of.new.store c.asked.new.store c.facts_of.ensures.more c.asked.ensures.more

pub returns-in_err-first-clause-facts : goal.returns-in_err-first-clause-facts
returns-in_err-first-clause-facts c =
    front_twice c.args.store.now.facts.items c.facts_of.new.store.facts.items c.asked.new.store.facts.items c.facts_of.ensures.facts
    (front_same c.facts_of.new.store.facts.items c.asked.new.store.facts.items (ap (λ facts. facts.items) c.asked.ensures.facts))

pub returns-in_err-second-clause-more : goal.returns-in_err-second-clause-more
returns-in_err-second-clause-more c =
    grown_twice c.args.store.now c.asked.new.store c.asked-2.new.store (grown_twice c.args.store.now c.facts_of.new.store c.asked.new.store c.facts_of.ensures.more c.asked.ensures.more) c.asked-2.ensures.more

pub returns-in_err-second-clause-facts : goal.returns-in_err-second-clause-facts
returns-in_err-second-clause-facts c =
    front_twice c.args.store.now.facts.items c.facts_of.new.store.facts.items c.asked-2.new.store.facts.items c.facts_of.ensures.facts
    (front_same c.facts_of.new.store.facts.items c.asked-2.new.store.facts.items (ap (λ facts. facts.items) (c.asked-2.ensures.facts ∙ c.asked.ensures.facts)))

pub returns-clause-gathered : goal.returns-clause-gathered
returns-clause-gathered c =
    let base = c.args.base.now in
    let one = c.facts_of.new.store in
    let two = c.asked.new.store in
    let three = c.asked-2.new.store in
    let constant = constant_over (asked_over base) in
    let placed = map_facts_kept base one.pool three.pool one.facts.items three.facts.items (pool_twice one.pool two.pool three.pool c.asked.ensures.more.pool c.asked-2.ensures.more.pool)
    (front_same one.facts.items three.facts.items (ap (λ facts. facts.items) (c.asked-2.ensures.facts ∙ c.asked.ensures.facts))) c.args.source.map c.in_ok-place.place c.in_ok-place.ensures.place in
    record {
      first = asks_kept base two.pool three.pool two.facts.items three.facts.items c.asked-2.ensures.more.pool (front_same two.facts.items three.facts.items (ap (λ facts. facts.items) c.asked-2.ensures.facts)) constant _
          c.in_ok-first.first (subst (λ (args : Arg × Arg). Asks two.pool.terms.terms constant args.0 c.in_ok-first.first) c.arguments-first.ensures c.in_ok-first.ensures.asks);
      second = subst (λ (args : Arg × Arg). Asks three.pool.terms.terms constant args.1 c.in_ok-second.second) c.arguments-first.ensures c.in_ok-second.ensures.asks;
      there = placed.there;
      map = placed.split;
      stands = placed.stands;
      facts_of = placed.are;
    }

pub returns-clause-more : goal.returns-clause-more
returns-clause-more c =
    grown_twice c.args.store.now c.asked.new.store c.asked-2.new.store (grown_twice c.args.store.now c.facts_of.new.store c.asked.new.store c.facts_of.ensures.more c.asked.ensures.more) c.asked-2.ensures.more

pub returns-clause-facts : goal.returns-clause-facts
returns-clause-facts c =
    front_twice c.args.store.now.facts.items c.facts_of.new.store.facts.items c.asked-2.new.store.facts.items c.facts_of.ensures.facts
    (front_same c.facts_of.new.store.facts.items c.asked-2.new.store.facts.items (ap (λ facts. facts.items) (c.asked-2.ensures.facts ∙ c.asked.ensures.facts)))
