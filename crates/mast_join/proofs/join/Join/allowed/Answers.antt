use Rattle.std.proofs.Common.{◌↔◌, length, List, ℕ, ap, sym, subst, ◌∙◌}
use Rattle.std.specs.Prelude.{None}
use Rattle.std.proofs.lemmas.List.{get_or_read}
use Rattle.std.proofs.lemmas.Result.{IfOk-weaker}
use Rattle.mast_cq.specs.Queries.{In}
use Rattle.mast_join.specs.inside.Joins.{sources}
use Rattle.mast_join.specs.inside.RowLists.{AreAllowed, given}
use Rattle.mast_join.proofs.RowListLemmas.{all_allowed, given_allowed}
use Rattle.mast_join.proofs.join.Join.allowed.Goals as goal

pub returns-in-None : goal.returns-in-None
returns-in-None c =
    let j = c.args.self.now in
    rw c.in-None.is (IfOk-weaker c.all_rows.result _ _ (λ rows e.
    subst (λ (k : List ℕ). AreAllowed (sources j) j.places.items None c.args.entry k) (sym e) (all_allowed (sources j) j.places.items c.args.entry c.rows-count.result (c.rows-count.ensures ∙ ap length c.source.ensures))) c.all_rows.ensures)

pub returns-in_ok-numbers-in-Some : goal.returns-in_ok-numbers-in-Some
returns-in_ok-numbers-in-Some c =
    let j = c.args.self.now in
    let at = get_or_read j.places.items c.args.entry c.index.result.now c.requires.entry c.index.ensures 0 in
    rw c.in-Some.is (given_allowed (sources j) j.places.items c.in-Some.only.now c.args.entry c.rows-count.result c.make_distinct.new.numbers.items (c.rows-count.ensures ∙ ap length c.source.ensures) c.make_distinct.ensures.once
    (λ n. subst (λ (k : List ℕ). In n c.make_distinct.new.numbers.items ↔ In n k) (c.in_ok-numbers-in-Some.ensures ∙ ap (λ (p : ℕ). given p c.rows-count.result c.in-Some.only.now) at) (c.make_distinct.ensures.same n)))
