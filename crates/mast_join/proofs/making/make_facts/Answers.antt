use Rattle.std.proofs.Common.{List, [], arith, refl, sym, subst, ◌∷◌}
use Rattle.std.specs.Prelude.{nat_eq}
use Rattle.std.proofs.lemmas.Bool.{eqb-true}
use Rattle.mast_join.specs.declared.facts.MadeFact.{MadeFact}
use Rattle.mast_join.specs.inside.Keeping.{HasMapFacts}
use Rattle.mast_join.specs.inside.MadeFacts.{AreFactsOf}
use Rattle.mast_join.proofs.FillLemmas.{relations_refl}
use Rattle.mast_join.proofs.KeepingLemmas.{front_push, front_same, kept_on, lent_get, new_facts, pool_kept, put_each, unchanged_get}
use Rattle.mast_join.proofs.making.make_facts.Goals as goal

pub returns-in_err-facts-clause-kept : goal.returns-in_err-facts-clause-kept
returns-in_err-facts-clause-kept c = pool_kept c.args.base.now c.args.store.now c.map_facts.new.pool c.requires.kept c.map_facts.ensures.pool c.map_facts.ensures.more

pub returns-in_err-push-clause-kept : goal.returns-in_err-push-clause-kept
returns-in_err-push-clause-kept c =
    let s = c.args.store.now in
    kept_on c.args.base.now s (record { pool = c.map_facts.new.pool; facts = c.push.new.self; fact_places = s.fact_places; relations = s.relations; made = s.made })
    (record { pool = c.map_facts.ensures.more; relations = relations_refl s.relations }) c.requires.kept c.map_facts.ensures.pool (front_same s.facts.items c.push.new.self.items c.in_err-push.ensures.items) (λ map. refl) (λ g. refl)

pub returns-in_err-push-clause-facts : goal.returns-in_err-push-clause-facts
returns-in_err-push-clause-facts c = front_same c.args.store.now.facts.items c.push.new.self.items c.in_err-push.ensures.items

pub returns-in_err-insert-clause-kept : goal.returns-in_err-insert-clause-kept
returns-in_err-insert-clause-kept c =
    let s = c.args.store.now in
    kept_on c.args.base.now s (record { pool = c.map_facts.new.pool; facts = c.push.new.self; fact_places = c.insert.new.self; relations = s.relations; made = s.made })
    (record { pool = c.map_facts.ensures.more; relations = relations_refl s.relations }) c.requires.kept c.map_facts.ensures.pool (front_push s.facts.items c.push.new.self.items (c.from_vec.result ∷ []) c.in_ok-push.ensures.items)
    (unchanged_get nat_eq s.fact_places c.insert.new.self c.in_err-insert.ensures.err) (λ g. refl)

pub returns-clause-place : goal.returns-clause-place
returns-clause-place c =
    let base = c.args.base.now in
    let split = c.index-as_slice-map.result in
    new_facts base c.map_facts.new.pool c.args.store.now.facts.items c.push.new.self.items c.from_vec.result c.args.map c.len-place.result split (omega (arith, c.len-place.ensures, c.args.store.now.facts.ok)) c.in_ok-push.ensures.items
    (lent_get base.spec.now.maps c.as_slice.result.now c.args.map split c.as_slice.ensures c.requires.map c.index-as_slice-map.is)
    (subst (λ (facts : List MadeFact). AreFactsOf base c.map_facts.new.pool split facts) (sym c.from_vec.ensures) c.in_ok-facts.ensures.facts)

pub returns-clause-kept : goal.returns-clause-kept
returns-clause-kept c =
    let s = c.args.store.now in
    let base = c.args.base.now in
    let split = c.index-as_slice-map.result in
    let placed = new_facts base c.map_facts.new.pool s.facts.items c.push.new.self.items c.from_vec.result c.args.map c.len-place.result split (omega (arith, c.len-place.ensures, c.args.store.now.facts.ok)) c.in_ok-push.ensures.items
    (lent_get base.spec.now.maps c.as_slice.result.now c.args.map split c.as_slice.ensures c.requires.map c.index-as_slice-map.is)
    (subst (λ (facts : List MadeFact). AreFactsOf base c.map_facts.new.pool split facts) (sym c.from_vec.ensures) c.in_ok-facts.ensures.facts) in
    let kept = kept_on base s (record { pool = c.map_facts.new.pool; facts = c.push.new.self; fact_places = s.fact_places; relations = s.relations; made = s.made })
    (record { pool = c.map_facts.ensures.more; relations = relations_refl s.relations }) c.requires.kept c.map_facts.ensures.pool
    (front_push s.facts.items c.push.new.self.items (c.from_vec.result ∷ []) c.in_ok-push.ensures.items) (λ map. refl) (λ g. refl) in
    record {
      based = kept.based;
      noted = kept.noted;
      facts = put_each nat_eq (HasMapFacts base c.map_facts.new.pool c.push.new.self.items) s.fact_places c.insert.new.self kept.facts c.args.map c.len-place.result c.in_ok-insert.ensures.updates
          (λ q e. eqb-true c.args.map q e) placed;
      made = kept.made;
    }
