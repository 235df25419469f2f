use Rattle.std.proofs.Common.{rules, ◌≡◌, ◌-◌, ℕ, List, [], ◌∷◌, ◌++◌, length, get_or, OnOk, sym, ap, subst, ◌∙◌, arith}
use Rattle.mast_relations.specs.Lookups.{AgreesAt, IsLastOf, rows_in}
use Rattle.mast_relations.specs.Matches.{Rows}
use Rattle.mast_relations.specs.Stores.{HasAll, HasOnlyGained, contents}
use Rattle.mast_conditions.specs.Choices.{Gives}
use Rattle.mast_conditions.specs.Truth.{width_of}
use Rattle.mast_conditions.specs.declared.condition.Entry.{Entry}
use Rattle.mast_conditions.proofs.CollectLemmas.{collected_end, collected_next, collected_only}
use Rattle.mast_conditions.proofs.collecting.+collect.Goals as goal

pub collects-returns-in-Some-clause-all : goal.collects-returns-in-Some-clause-all
collects-returns-in-Some-clause-all t c =
    let whole : c.in-Some.entry.now ∷ c.in-Some.rest.now ≡ c.args.entries.now = search rules in
    subst (λ (k : List Entry). OnOk c.collects_rows.result (HasAll (Gives (contents c.args.relations.now) c.args.select.now k c.args.numbers.now.items) c.collects_rows.new.found)) whole c.collects_rows.ensures.all

pub collects_rows-returns-in_err-collects_row-clause-gained : goal.collects_rows-returns-in_err-collects_row-clause-gained
collects_rows-returns-in_err-collects_row-clause-gained t c =
    let relations = contents c.args.relations.now in
    let select = c.args.select.now in
    let entry = c.args.entry.now in
    let rest = c.args.rest.now in
    let numbers = c.args.numbers.now.items in
    let l = c.loop-place in
    let row = c.row-row.result.now in
    let is : row ≡ get_or (rows_in relations entry.relation) (l.place - 1) [] = c.row-row.ensures.row ∙ ap (λ (r : Rows). get_or r.list (l.place - 1) []) c.rows.ensures in
    let wide : length (get_or (rows_in relations entry.relation) (l.place - 1) []) ≡ width_of relations entry = ap length (sym is) ∙ c.row-row.ensures.wide ∙ ap (λ (r : Rows). r.width) c.rows.ensures in
    let over : l.numbers.items ++ row ≡ numbers ++ get_or (rows_in relations entry.relation) (l.place - 1) [] = ap (λ (k : List ℕ). k ++ row) l.invariant.numbers ∙ ap (λ (k : List ℕ). numbers ++ k) is in
    collected_only relations select entry rest numbers c.args.found.now l.found c.collects_row.new.found l.place l.invariant.collected c.loop-place-test.true wide
    (subst (λ (k : List ℕ). HasOnlyGained (Gives relations select rest k) l.found c.collects_row.new.found) over c.in_err-collects_row.ensures.gained)

pub collects_rows-loop-place-preserved : goal.collects_rows-loop-place-preserved
collects_rows-loop-place-preserved t c =
    let relations = contents c.args.relations.now in
    let select = c.args.select.now in
    let entry = c.args.entry.now in
    let rest = c.args.rest.now in
    let numbers = c.args.numbers.now.items in
    let l = c.loop-place in
    let row = c.row-row.result.now in
    let is : row ≡ get_or (rows_in relations entry.relation) (l.place - 1) [] = c.row-row.ensures.row ∙ ap (λ (r : Rows). get_or r.list (l.place - 1) []) c.rows.ensures in
    let wide : length (get_or (rows_in relations entry.relation) (l.place - 1) []) ≡ width_of relations entry = ap length (sym is) ∙ c.row-row.ensures.wide ∙ ap (λ (r : Rows). r.width) c.rows.ensures in
    let over : l.numbers.items ++ row ≡ numbers ++ get_or (rows_in relations entry.relation) (l.place - 1) [] = ap (λ (k : List ℕ). k ++ row) l.invariant.numbers ∙ ap (λ (k : List ℕ). numbers ++ k) is in
    let columns = c.as_slice-columns.result.now in
    let places = c.as_slice-places.result.now in
    let held = c.deref-in-loop-place.result.now in
    let same : c.collects_row.new.numbers.items ≡ numbers = c.in_ok-collects_row.ensures.numbers ∙ l.invariant.numbers in
    let rows = rows_in relations entry.relation in
    let next = c.before-place.result in
    record {
      numbers = same;
      can = l.invariant.can;
      collected = collected_next relations select entry rest numbers c.args.found.now l.found c.collects_row.new.found l.place next l.invariant.collected c.loop-place-test.true wide
          (subst (λ (k : List ℕ). HasOnlyGained (Gives relations select rest k) l.found c.collects_row.new.found) over c.in_ok-collects_row.ensures.gained)
          (subst (λ (k : List ℕ). HasAll (Gives relations select rest k) c.collects_row.new.found) over c.in_ok-collects_row.ensures.all)
          (subst (λ (k : List ℕ). IsLastOf (AgreesAt rows k numbers entry.places) (l.place - 1) next) c.as_slice-columns.ensures
          (subst (λ (k : List ℕ). IsLastOf (AgreesAt rows columns k entry.places) (l.place - 1) next) (c.deref-in-loop-place.ensures.value ∙ same)
          (subst (λ (k : List ℕ). IsLastOf (AgreesAt rows columns held k) (l.place - 1) next) c.as_slice-places.ensures c.before-place.ensures)));
    }

pub collects_rows-returns-clause-all : goal.collects_rows-returns-clause-all
collects_rows-returns-clause-all t c =
    let l = c.loop-place in
    collected_end (contents c.args.relations.now) c.args.select.now c.args.entry.now c.args.rest.now c.args.numbers.now.items c.args.found.now l.found l.place l.invariant.collected (omega (arith, c.loop-place-test.false))
