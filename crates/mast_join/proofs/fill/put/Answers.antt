use Rattle.std.proofs.Common.{List, ℕ, subst, ◌∙◌}
use Rattle.mast_relations.specs.Stores.{IsInserted}
use Rattle.mast_join.specs.inside.Filling.{rows_at}
use Rattle.mast_join.proofs.FillLemmas.{alone, inserted_only, put_has, put_linked, put_only, with_all, with_some}
use Rattle.mast_join.proofs.fill.put.Goals as goal

pub returns-in_ok-insert-in-Tuples-clause-only : goal.returns-in_ok-insert-in-Tuples-clause-only
returns-in_ok-insert-in-Tuples-clause-only c =
    put_only c.args.number c.args.relations.now c.insert.new.self c.deref.result.now c.insert.result c.args.wanted c.args.row.now.items c.args.set c.requires.there c.insert.ensures.inserted
    (alone c.args.wanted c.args.row.now.items c.deref.result.now c.args.set c.in-Tuples.is c.deref.ensures.value)

pub returns-in_ok-insert-in-Tuples-clause-has : goal.returns-in_ok-insert-in-Tuples-clause-has
returns-in_ok-insert-in-Tuples-clause-has c =
    put_has c.args.number c.args.relations.now c.insert.new.self c.deref.result.now c.in_ok-insert-in-Tuples.field-0 c.insert.result c.args.wanted c.args.row.now.items c.args.set c.in_ok-insert-in-Tuples.was
    c.requires.there c.insert.ensures.inserted (alone c.args.wanted c.args.row.now.items c.deref.result.now c.args.set c.in-Tuples.is c.deref.ensures.value)

pub returns-in_ok-insert-in-SomeHits-2-clause-linked : goal.returns-in_ok-insert-in-SomeHits-2-clause-linked
returns-in_ok-insert-in-SomeHits-2-clause-linked c =
    let number = c.args.number in
    let row = c.args.row.now.items in
    let given = c.deref-then-branch.result.now in
    let is = with_some c.args.wanted row given c.args.set c.in-SomeHits.is (c.deref-then-branch.ensures.value ∙ c.in_ok-push-in-SomeHits.ensures.items) in
    let has = put_has number c.args.relations.now c.insert-then-branch.new.self given c.in_ok-insert-in-SomeHits-2.field-0 c.insert-then-branch.result c.args.wanted row c.args.set c.in_ok-insert-in-SomeHits-2.was
    c.requires.there c.insert-then-branch.ensures.inserted is in
    let kept = (inserted_only number c.args.relations.now c.insert-then-branch.new.self given c.requires.there c.insert-then-branch.result c.insert-then-branch.ensures.inserted).kept in
    put_linked c.args.wanted c.args.seen.now c.insert-in-SomeHits.new.self row c.args.set c.insert-in-SomeHits.result (rows_at c.args.relations.now number).list (rows_at c.insert-then-branch.new.self number).list
    (subst (λ (r : List ℕ). IsInserted c.args.seen.now r c.insert-in-SomeHits.result c.insert-in-SomeHits.new.self) c.deref-in-SomeHits.ensures.value c.insert-in-SomeHits.ensures) kept has c.requires.linked

pub returns-in_ok-insert-in-SomeHits-2-clause-only : goal.returns-in_ok-insert-in-SomeHits-2-clause-only
returns-in_ok-insert-in-SomeHits-2-clause-only c =
    put_only c.args.number c.args.relations.now c.insert-then-branch.new.self c.deref-then-branch.result.now c.insert-then-branch.result c.args.wanted c.args.row.now.items c.args.set c.requires.there
    c.insert-then-branch.ensures.inserted
    (with_some c.args.wanted c.args.row.now.items c.deref-then-branch.result.now c.args.set c.in-SomeHits.is (c.deref-then-branch.ensures.value ∙ c.in_ok-push-in-SomeHits.ensures.items))

pub returns-in_ok-insert-in-SomeHits-2-clause-has : goal.returns-in_ok-insert-in-SomeHits-2-clause-has
returns-in_ok-insert-in-SomeHits-2-clause-has c =
    put_has c.args.number c.args.relations.now c.insert-then-branch.new.self c.deref-then-branch.result.now c.in_ok-insert-in-SomeHits-2.field-0 c.insert-then-branch.result c.args.wanted c.args.row.now.items
    c.args.set c.in_ok-insert-in-SomeHits-2.was c.requires.there c.insert-then-branch.ensures.inserted
    (with_some c.args.wanted c.args.row.now.items c.deref-then-branch.result.now c.args.set c.in-SomeHits.is (c.deref-then-branch.ensures.value ∙ c.in_ok-push-in-SomeHits.ensures.items))

pub returns-in_ok-insert-in-AllHits-clause-only : goal.returns-in_ok-insert-in-AllHits-clause-only
returns-in_ok-insert-in-AllHits-clause-only c =
    put_only c.args.number c.args.relations.now c.insert-in-AllHits.new.self c.deref-in-AllHits.result.now c.insert-in-AllHits.result c.args.wanted c.args.row.now.items c.args.set c.requires.there
    c.insert-in-AllHits.ensures.inserted
    (with_all c.args.wanted c.args.row.now.items c.deref-in-AllHits.result.now c.args.set c.in-AllHits.is (c.deref-in-AllHits.ensures.value ∙ c.in_ok-push-in-AllHits.ensures.items))

pub returns-in_ok-insert-in-AllHits-clause-has : goal.returns-in_ok-insert-in-AllHits-clause-has
returns-in_ok-insert-in-AllHits-clause-has c =
    put_has c.args.number c.args.relations.now c.insert-in-AllHits.new.self c.deref-in-AllHits.result.now c.in_ok-insert-in-AllHits.field-0 c.insert-in-AllHits.result c.args.wanted c.args.row.now.items c.args.set
    c.in_ok-insert-in-AllHits.was c.requires.there c.insert-in-AllHits.ensures.inserted
    (with_all c.args.wanted c.args.row.now.items c.deref-in-AllHits.result.now c.args.set c.in-AllHits.is (c.deref-in-AllHits.ensures.value ∙ c.in_ok-push-in-AllHits.ensures.items))
