use Rattle.std.proofs.Common.{◌++◌, ◌∷◌, [], List, ℕ, get_or, take, sym, ap, ◌∙◌, arith}
use Rattle.mast_canon.specs.declared.rows.RowId.{RowId}
use Rattle.mast_canon.specs.Facts.{chosen_rows}
use Rattle.mast_join.proofs.FactsLemmas.{number_few, rows_more}
use Rattle.mast_join.proofs.facts.rows_of.Goals as goal

pub overflow_cast-table_number : goal.overflow_cast-table_number
overflow_cast-table_number c =
    let n = number_few (get_or c.args.entries.now c.loop-place.place c.index-entries-place.result).table c.args.decls.now in
    let e = c.table_number.ensures in
    let f = c.requires.few in
    omega (arith, n, e, f)

pub loop-place-preserved : goal.loop-place-preserved
loop-place-preserved c =
    let l = c.loop-place in
    let number = get_or c.args.choice.now l.place 0 in
    c.in_ok-push.ensures.ok
    ∙ ap (λ (rows : List RowId). rows ++ record { table = c.table_number.result; number = number } ∷ []) l.invariant
    ∙ ap (λ (table : ℕ). chosen_rows c.args.decls.now (take l.place c.args.entries.now) (take l.place c.args.choice.now) ++ record { table = table; number = number } ∷ []) c.table_number.ensures
    ∙ sym (rows_more c.args.decls.now c.args.entries.now c.args.choice.now l.place c.index-entries-place.result 0 c.loop-place-test.true c.requires.long)
