use Rattle.std.proofs.Common.{sym, ◌∙◌}
use Rattle.std.proofs.lemmas.List.{length-map}
use Rattle.mast_relations.specs.Stores.{Stored}
use Rattle.mast_join.proofs.FactsLemmas.{pool_refl}
use Rattle.mast_join.proofs.FillLemmas.{inserted_refilled}
use Rattle.mast_join.proofs.FillStepLemmas.{next_more}
use Rattle.mast_join.proofs.KeepingLemmas.{relations_kept}
use Rattle.mast_join.proofs.making.one_row.Goals as goal

pub returns-in_err-insert-clause-kept : goal.returns-in_err-insert-clause-kept
returns-in_err-insert-clause-kept c =
    let old = c.args.store.now.relations in
    relations_kept c.args.base.now c.args.store.now c.insert.new.self c.requires.kept
    (next_more old c.begin.new.self c.insert.new.self _ c.in_ok-number.number (c.in_ok-number.ensures.number ∙ sym (length-map old (λ (s : Stored). s.rows))) c.in_ok-number.ensures.ok c.begin.ensures.plans
    (inserted_refilled c.in_ok-number.number c.begin.new.self c.insert.new.self c.args.row.now c.insert.ensures.plans c.insert.result c.insert.ensures.inserted))

pub returns-clause-kept : goal.returns-clause-kept
returns-clause-kept c =
    let old = c.args.store.now.relations in
    relations_kept c.args.base.now c.args.store.now c.insert.new.self c.requires.kept
    (next_more old c.begin.new.self c.insert.new.self _ c.in_ok-number.number (c.in_ok-number.ensures.number ∙ sym (length-map old (λ (s : Stored). s.rows))) c.in_ok-number.ensures.ok c.begin.ensures.plans
    (inserted_refilled c.in_ok-number.number c.begin.new.self c.insert.new.self c.args.row.now c.insert.ensures.plans c.insert.result c.insert.ensures.inserted))

pub returns-clause-more : goal.returns-clause-more
returns-clause-more c =
    let old = c.args.store.now.relations in
    record {
      pool = pool_refl c.args.store.now.pool;
      relations = next_more old c.begin.new.self c.insert.new.self _ c.in_ok-number.number (c.in_ok-number.ensures.number ∙ sym (length-map old (λ (s : Stored). s.rows))) c.in_ok-number.ensures.ok c.begin.ensures.plans
          (inserted_refilled c.in_ok-number.number c.begin.new.self c.insert.new.self c.args.row.now c.insert.ensures.plans c.insert.result c.insert.ensures.inserted);
    }
