use Rattle.std.proofs.Common.{rules, ◌≡◌, ◌∷◌, [], ◌++◌, List, ℕ, replicate, ap, sym, ◌∙◌}
use Rattle.mast_join.specs.inside.Joins.{nothing, sources}
use Rattle.mast_join.specs.inside.Partial.{pass_all}
use Rattle.mast_join.proofs.EntryLemmas.{start_no, start_yes}
use Rattle.mast_join.proofs.join.Join.start.Goals as goal
use Rattle.mast_join.proofs.join.Join.start.Goals.{then-passes+in_ok-push, else-passes}

pub returns : goal.returns
returns c =
    let j = c.args.self.now in
    let made : c.in_ok-choice.choice.items ≡ replicate c.width-2.result 0 = search rules in
    let are : c.deref.result.now ≡ nothing j = c.deref.ensures.value ∙ made ∙ ap (λ (k : ℕ). replicate k 0) c.width-2.ensures in
    let judged : pass_all (sources j) (nothing j) j.tests.items ≡ c.passes.result = ap (λ (k : List ℕ). pass_all (sources j) k j.tests.items) (sym are) ∙ sym c.passes.ensures in
    elim c.if-passes.branch [
      | then-passes+in_ok-push w ↦ rw w.choices-is (start_yes j _ w.deref-then-passes.result.now (w.in_ok-push.ensures.width ∙ c.new-choices.ensures.width ∙ c.width.ensures)
          (w.in_ok-push.ensures.list ∙ ap (λ (k : List (List ℕ)). k ++ w.deref-then-passes.result.now ∷ []) c.new-choices.ensures.none)
          (w.deref-then-passes.ensures.value ∙ sym c.deref.ensures.value ∙ are) (judged ∙ w.if-passes.true))
      | else-passes w ↦ rw w.choices-is (start_no j _ (c.new-choices.ensures.width ∙ c.width.ensures) c.new-choices.ensures.none (judged ∙ w.if-passes.false))
    ]
