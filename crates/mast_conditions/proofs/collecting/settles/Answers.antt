use Rattle.std.proofs.Common.{◌≡◌, true, List, ℕ, [], sym, ap, subst, ◌∙◌}
use Rattle.mast_terms.specs.declared.memory.NoMemory.{NoMemory}
use Rattle.mast_relations.specs.Matches.{In}
use Rattle.mast_relations.specs.Plans.{picked}
use Rattle.mast_relations.specs.Stores.{contents}
use Rattle.mast_relations.proofs.JoinLemmas.{gained_row, put_row}
use Rattle.mast_conditions.specs.Choices.{Gives}
use Rattle.mast_conditions.specs.Truth.{truth}
use Rattle.mast_conditions.proofs.collecting.settles.Goals as goal

pub returns-clause-gained : goal.returns-clause-gained
returns-clause-gained c =
    let relations = contents c.args.relations.now in
    let select = c.args.select.now in
    let numbers = c.args.numbers.now.items in
    let told : c.deref-2.result.now ≡ picked numbers select.items =
    c.deref-2.ensures.value ∙ c.in_ok-row.ensures ∙ ap (λ (k : List ℕ). picked k c.as_slice.result.now) (c.deref.ensures.value ∙ c.in_ok-holds.ensures.numbers) ∙ ap (picked numbers) c.as_slice.ensures in
    let yes : truth relations select.condition numbers ≡ true = sym c.in_ok-holds.ensures.truth ∙ c.if-not-branch.false in
    gained_row (Gives relations select [] numbers) c.args.found.now c.insert.new.self c.deref-2.result.now c.insert.result c.insert.ensures (yes, sym told)

pub returns-clause-all : goal.returns-clause-all
returns-clause-all c =
    let select = c.args.select.now in
    let numbers = c.args.numbers.now.items in
    let told : c.deref-2.result.now ≡ picked numbers select.items =
    c.deref-2.ensures.value ∙ c.in_ok-row.ensures ∙ ap (λ (k : List ℕ). picked k c.as_slice.result.now) (c.deref.ensures.value ∙ c.in_ok-holds.ensures.numbers) ∙ ap (picked numbers) c.as_slice.ensures in
    λ tuple g. subst (λ (k : List ℕ). In k c.insert.new.self.list) (told ∙ g.1) (put_row NoMemory c.args.found.now c.insert.new.self c.deref-2.result.now c.in_ok-insert.field-0 c.in_ok-insert.ensures)
