use Rattle.std.proofs.Common.{List, ℕ, subst}
use Rattle.std.proofs.lemmas.Result.{IfOk-weaker}
use Rattle.mast_join.specs.inside.Grows.{HasGrown}
use Rattle.mast_join.proofs.EntryLemmas.{can_grow, has_grown, its_source}
use Rattle.mast_join.proofs.GrowLemmas.{candidate_rows, link_over, linked, other_over}
use Rattle.mast_join.proofs.join.Join.extend.Goals as goal

pub grow_by_all-requires : goal.grow_by_all-requires
grow_by_all-requires c =
    rw c.deref.ensures.value (can_grow c.args.self.now c.requires.join c.args.bound.now c.args.choices.now c.requires.partial c.args.entry c.requires.entry c.requires.long c.in_ok-rows.rows.items c.in_ok-rows.ensures)

pub returns-in-None : goal.returns-in-None
returns-in-None c =
    IfOk-weaker c.grow_by_all.result _ _ (λ result h.
    has_grown c.args.self.now c.requires.join c.args.bound.now c.args.choices.now c.requires.partial c.args.entry c.requires.entry c.requires.long c.in_ok-rows.rows.items c.in_ok-rows.ensures result
    (subst (λ (k : List ℕ). HasGrown c.args.self.now c.args.entry k c.args.choices.now result) c.deref.ensures.value h)) c.grow_by_all.ensures

pub grow_by_link-requires-clause-can : goal.grow_by_link-requires-clause-can
grow_by_link-requires-clause-can c =
    rw c.deref-then-len-lt-MOST_INDEXED.ensures.value (can_grow c.args.self.now c.requires.join c.args.bound.now c.args.choices.now c.requires.partial c.args.entry c.requires.entry c.requires.long c.in_ok-rows.rows.items c.in_ok-rows.ensures)

pub grow_by_link-requires-clause-linked : goal.grow_by_link-requires-clause-linked
grow_by_link-requires-clause-linked c =
    let there = its_source c.args.self.now c.requires.join c.args.bound.now c.args.choices.now c.requires.partial c.args.entry c.requires.entry c.requires.long c.in_ok-rows.rows.items c.in_ok-rows.ensures in
    rw c.deref-then-len-lt-MOST_INDEXED.ensures.value (linked c.args.self.now c.args.bound.now c.args.choices.now c.requires.partial c.args.entry c.requires.entry there c.in-Some.link c.in-Some.ensures c.requires.join c.in_ok-rows.rows.items (candidate_rows c.args.self.now c.args.entry c.in_ok-rows.rows.items c.in_ok-rows.ensures))

pub grow_by_link-requires-clause-cell : goal.grow_by_link-requires-clause-cell
grow_by_link-requires-clause-cell c =
    let there = its_source c.args.self.now c.requires.join c.args.bound.now c.args.choices.now c.requires.partial c.args.entry c.requires.entry c.requires.long c.in_ok-rows.rows.items c.in_ok-rows.ensures in
    link_over c.args.self.now c.args.bound.now c.args.choices.now c.requires.partial c.args.entry c.requires.entry there c.in-Some.link c.in-Some.ensures c.requires.join c.in_ok-rows.rows.items (candidate_rows c.args.self.now c.args.entry c.in_ok-rows.rows.items c.in_ok-rows.ensures)

pub grow_by_link-requires-clause-other : goal.grow_by_link-requires-clause-other
grow_by_link-requires-clause-other c =
    let there = its_source c.args.self.now c.requires.join c.args.bound.now c.args.choices.now c.requires.partial c.args.entry c.requires.entry c.requires.long c.in_ok-rows.rows.items c.in_ok-rows.ensures in
    other_over c.args.self.now c.args.bound.now c.args.choices.now c.requires.partial c.args.entry c.requires.entry there c.in-Some.link c.in-Some.ensures c.requires.join c.in_ok-rows.rows.items (candidate_rows c.args.self.now c.args.entry c.in_ok-rows.rows.items c.in_ok-rows.ensures)

pub returns-then-len-lt-MOST_INDEXED : goal.returns-then-len-lt-MOST_INDEXED
returns-then-len-lt-MOST_INDEXED c =
    IfOk-weaker c.grow_by_link.result _ _ (λ result h.
    has_grown c.args.self.now c.requires.join c.args.bound.now c.args.choices.now c.requires.partial c.args.entry c.requires.entry c.requires.long c.in_ok-rows.rows.items c.in_ok-rows.ensures result
    (subst (λ (k : List ℕ). HasGrown c.args.self.now c.args.entry k c.args.choices.now result) c.deref-then-len-lt-MOST_INDEXED.ensures.value h)) c.grow_by_link.ensures

pub grow_by_all-requires-else-len-lt-MOST_INDEXED : goal.grow_by_all-requires-else-len-lt-MOST_INDEXED
grow_by_all-requires-else-len-lt-MOST_INDEXED c =
    rw c.deref-else-len-lt-MOST_INDEXED.ensures.value (can_grow c.args.self.now c.requires.join c.args.bound.now c.args.choices.now c.requires.partial c.args.entry c.requires.entry c.requires.long c.in_ok-rows.rows.items c.in_ok-rows.ensures)

pub returns : goal.returns
returns c =
    IfOk-weaker c.grow_by_all-else-len-lt-MOST_INDEXED.result _ _ (λ result h.
    has_grown c.args.self.now c.requires.join c.args.bound.now c.args.choices.now c.requires.partial c.args.entry c.requires.entry c.requires.long c.in_ok-rows.rows.items c.in_ok-rows.ensures result
    (subst (λ (k : List ℕ). HasGrown c.args.self.now c.args.entry k c.args.choices.now result) c.deref-else-len-lt-MOST_INDEXED.ensures.value h)) c.grow_by_all-else-len-lt-MOST_INDEXED.ensures
