use Rattle.std.proofs.Common.{◌<◌, List, length, sym, ap, subst, ◌∙◌}
use Rattle.mast_sql.specs.declared.query.FromEntry.{FromEntry}
use Rattle.mast_tables.specs.declared.declaration.TableDecl.{TableDecl}
use Rattle.mast_canon.proofs.ChoiceLemmas.{zip_length}
use Rattle.mast_canon.specs.Facts.{chosen_rows}
use Rattle.mast_join.specs.inside.MadeFacts.{HasSet, asked_over, fact_by, rows_by}
use Rattle.mast_join.proofs.FactsLemmas.{adds_none, adds_one, can_read, tables_few, tells_fact}
use Rattle.mast_join.proofs.facts.add_choice.Goals as goal

pub of_head-requires-clause-reads : goal.of_head-requires-clause-reads
of_head-requires-clause-reads c = can_read c.args.base.now c.args.map.now c.args.places.now c.args.choice.now c.args.pool.now.terms c.requires.choice c.requires.base.fits c.requires.places

pub set_of-requires-clause-few : goal.set_of-requires-clause-few
set_of-requires-clause-few c = subst (λ (decls : List TableDecl). length decls < 4294967295) (sym c.as_slice-decls.ensures) (tables_few c.args.base.now.spec.now)

pub set_of-requires-clause-long : goal.set_of-requires-clause-long
set_of-requires-clause-long c = sym (zip_length _ c.args.map.now.query.from c.args.choice.now c.requires.choice) ∙ ap length (sym c.as_slice-entries.ensures)

pub returns-in-None-clause-added : goal.returns-in-None-clause-added
returns-in-None-clause-added c =
    let over = asked_over c.args.base.now in
    adds_none c.args.base.now.wanted (record { terms = c.of_head.new.terms; values = c.of_head.new.known; sets = c.args.pool.now.sets }) (fact_by over c.args.map.now c.args.choice.now) (rows_by over c.args.map.now c.args.choice.now)
    c.args.facts.now.items c.in_ok-numbers.numbers c.in-None.is
    (tells_fact c.args.base.now c.args.map.now c.args.places.now c.args.choice.now c.args.pool.now.terms c.requires.choice c.requires.base.fits c.requires.places c.of_head.new.terms.terms c.in_ok-numbers.numbers
    c.in_ok-numbers.ensures.numbers)

pub returns-in_ok-push-in-Some-clause-added : goal.returns-in_ok-push-in-Some-clause-added
returns-in_ok-push-in-Some-clause-added c =
    let over = asked_over c.args.base.now in
    let rows = rows_by over c.args.map.now c.args.choice.now in
    let set : HasSet c.args.base.now.wanted c.set_of.new.sets.items c.in_ok-set-in-Some.set rows =
    subst (λ (decls : List TableDecl). HasSet c.args.base.now.wanted c.set_of.new.sets.items c.in_ok-set-in-Some.set (chosen_rows decls c.args.map.now.query.from c.args.choice.now)) c.as_slice-decls.ensures
    (subst (λ (entries : List FromEntry). HasSet c.args.base.now.wanted c.set_of.new.sets.items c.in_ok-set-in-Some.set (chosen_rows c.as_slice-decls.result.now entries c.args.choice.now)) c.as_slice-entries.ensures
    c.in_ok-set-in-Some.ensures.set) in
    adds_one c.args.base.now.wanted (record { terms = c.of_head.new.terms; values = c.of_head.new.known; sets = c.set_of.new.sets }) (fact_by over c.args.map.now c.args.choice.now) rows c.args.facts.now.items
    c.push.new.self.items c.in_ok-numbers.numbers c.in-Some.first c.in-Some.second c.in_ok-set-in-Some.set c.in-Some.is
    (tells_fact c.args.base.now c.args.map.now c.args.places.now c.args.choice.now c.args.pool.now.terms c.requires.choice c.requires.base.fits c.requires.places c.of_head.new.terms.terms c.in_ok-numbers.numbers
    c.in_ok-numbers.ensures.numbers) set c.in_ok-push-in-Some.ensures.items
