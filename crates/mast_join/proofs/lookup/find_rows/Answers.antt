use Rattle.std.proofs.Common.{◌≡◌, ◌++◌, List, ℕ, ap, sym, subst, ◌∙◌}
use Rattle.std.specs.Prelude.{None, Some, option_and_then}
use Rattle.std.proofs.lemmas.Result.{IfOk-weaker}
use Rattle.mast_tables.specs.Rows.{Row, cell_at, number_of}
use Rattle.mast_join.specs.inside.Lookups.{IsFound, numbered}
use Rattle.mast_join.proofs.LookupLemmas.{found_none, found_some}
use Rattle.mast_join.proofs.lookup.find_rows.Goals as goal

pub returns-in-None-clause-found : goal.returns-in-None-clause-found
returns-in-None-clause-found c =
    let i = c.args.index.now in
    let other = cell_at c.args.numbers.now.from.now c.args.row c.args.numbers.now.column in
    let e : option_and_then (number_of i.table.now) other ≡ None = ap (λ (t : List Row). option_and_then (number_of t) other) (sym c.requires.to) ∙ sym c.number.ensures.number ∙ c.in-None.is in
    rw c.clear.ensures.items (found_none i c.requires.index (c.numbers_tell_values.ensures.missing i.table.now) other e)

pub returns-in-Some-clause-found : goal.returns-in-Some-clause-found
returns-in-Some-clause-found c =
    let i = c.args.index.now in
    let other = cell_at c.args.numbers.now.from.now c.args.row c.args.numbers.now.column in
    let e : option_and_then (number_of i.table.now) other ≡ Some c.in-Some.number = ap (λ (t : List Row). option_and_then (number_of t) other) (sym c.requires.to) ∙ sym c.number.ensures.number ∙ c.in-Some.is in
    IfOk-weaker c.find.result _ _ (λ x h.
    subst (λ (k : List ℕ). IsFound i other k) (sym (h ∙ ap (λ (k : List ℕ). k ++ numbered i c.in-Some.number) c.clear.ensures.items)) (found_some i c.requires.index other c.in-Some.number e)) c.find.ensures
