use Rattle.std.proofs.Common.{◌≡◌, ◌++◌, Bool, ℕ, List, [], length, sym, ap, subst, ◌∙◌}
use Rattle.std.specs.Prelude.{Ok}
use Rattle.mast_terms.specs.declared.memory.NoMemory.{NoMemory}
use Rattle.mast_relations.specs.declared.plan.Step.{Step}
use Rattle.mast_relations.specs.Plans.{picked}
use Rattle.mast_relations.specs.inside.Joins.{AskedMatch, Decides, LeftAnswer}
use Rattle.mast_relations.proofs.JoinLemmas.{gained_none, settled_gained}
use Rattle.mast_relations.proofs.MatchLemmas.{settled_long, settled_out, settled_there}
use Rattle.mast_relations.proofs.join.Join.settles.Goals as goal
use Rattle.mast_relations.proofs.join.Join.settles.Goals.{then-not-passes-via-then-not-passes, then-not-passes-via-else-not-passes+then-has}

pub returns-then-not-passes-clause-gained : goal.returns-then-not-passes-clause-gained
returns-then-not-passes-clause-gained g c =
    let stored = c.args.self.now.relations.now in
    let plan = c.args.self.now.plan.now in
    let passes = g.T.Test.passes c.args.self.now.test.now in
    let values = c.args.state.now.values.items in
    let told : c.put_picked.new.all.items ≡ picked values plan.answer.items =
    c.in_ok-put_picked.ensures ∙ ap (λ (k : List ℕ). k ++ picked c.deref.result.now c.deref-2.result.now) c.clear.ensures.items ∙ ap (λ (k : List ℕ). picked k c.deref-2.result.now) c.deref.ensures.value ∙ ap (picked values) c.deref-2.ensures.value in
    record {
      only = gained_none (LeftAnswer stored plan passes [] values) c.args.found.now;
      ended = elim c.then-not-passes.branch [
        | then-not-passes-via-then-not-passes w ↦ settled_out stored plan passes values c.requires.plan c.requires.long c.deref-3.result.now c.args.found.now (c.deref-3.ensures.value ∙ told) (sym c.passes.ensures ∙ w.if-not-passes.true)
        | then-not-passes-via-else-not-passes+then-has w ↦ settled_there stored plan passes values c.requires.plan c.requires.long w.deref-else-not-passes.result.now c.args.found.now (w.deref-else-not-passes.ensures.value ∙ told) (w.has.ensures.yes w.if-has.true)
      ];
    }

pub insert-requires : goal.insert-requires
insert-requires g c =
    let plan = c.args.self.now.plan.now in
    let values = c.args.state.now.values.items in
    let told : c.put_picked.new.all.items ≡ picked values plan.answer.items =
    c.in_ok-put_picked.ensures ∙ ap (λ (k : List ℕ). k ++ picked c.deref.result.now c.deref-2.result.now) c.clear.ensures.items ∙ ap (λ (k : List ℕ). picked k c.deref-2.result.now) c.deref.ensures.value ∙ ap (picked values) c.deref-2.ensures.value in
    ap length (c.deref-5.ensures.value ∙ told) ∙ settled_long c.args.self.now.relations.now plan (g.T.Test.passes c.args.self.now.test.now) values c.requires.plan c.requires.long ∙ sym c.requires.width

pub returns-clause-gained : goal.returns-clause-gained
returns-clause-gained g c =
    let stored = c.args.self.now.relations.now in
    let plan = c.args.self.now.plan.now in
    let passes = g.T.Test.passes c.args.self.now.test.now in
    let values = c.args.state.now.values.items in
    let told : c.put_picked.new.all.items ≡ picked values plan.answer.items =
    c.in_ok-put_picked.ensures ∙ ap (λ (k : List ℕ). k ++ picked c.deref.result.now c.deref-2.result.now) c.clear.ensures.items ∙ ap (λ (k : List ℕ). picked k c.deref-2.result.now) c.deref.ensures.value ∙ ap (picked values) c.deref-2.ensures.value in
    let asked : AskedMatch stored plan c.deref-4.result.now values =
    subst (λ (b : Bool). Decides {E = NoMemory} (Ok b) (AskedMatch stored plan c.deref-4.result.now values)) c.if-not-branch.false c.in_ok-asks.ensures.decides in
    settled_gained NoMemory stored plan passes values c.requires.plan c.requires.long c.deref-5.result.now (c.deref-5.ensures.value ∙ told)
    (ap passes (c.deref-5.ensures.value ∙ sym c.deref-3.ensures.value) ∙ (sym c.passes.ensures ∙ c.if-not-passes.false))
    (subst (λ (k : List Step). AskedMatch stored plan k values) c.deref-4.ensures.value asked) c.args.self.now.first c.in_ok-insert.field-0 c.args.found.now c.insert.new.self c.in_ok-insert.ensures
