use Rattle.std.proofs.Common.{◌≡◌, ◌++◌, List, ℕ, get_or, refl, sym, ap, subst, ◌∙◌}
use Rattle.std.proofs.lemmas.List.{get_or_read}
use Rattle.mast_relations.specs.declared.query.Pattern.{Pattern}
use Rattle.mast_relations.specs.Plans.{none, picked}
use Rattle.mast_relations.specs.Slices.{nowhere, pattern_at}
use Rattle.mast_relations.specs.Stores.{Stored}
use Rattle.mast_relations.specs.inside.Indices.{IsGrown}
use Rattle.mast_relations.specs.inside.Planning.{IsSplit}
use Rattle.mast_relations.proofs.PlanningLemmas.{joined_grown, joined_step, joined_there}
use Rattle.mast_relations.proofs.planning.make_step.Goals as goal

pub returns-in_err-index-clause-grown : goal.returns-in_err-index-clause-grown
returns-in_err-index-clause-grown c =
    let old = c.args.relations.now in
    let query = c.args.query.now in
    let joined = c.index-as_slice-pattern.result in
    let read = c.index-relations-joined.is in
    let is : joined ≡ pattern_at query c.args.pattern =
    get_or_read query.patterns c.args.pattern joined c.requires.pattern (subst (λ (l : List Pattern). joined ≡ get_or l c.args.pattern joined) c.as_slice.ensures c.index-as_slice-pattern.is) nowhere in
    let there = joined_there old query c.args.pattern joined c.requires.pattern is c.requires.query.patterns in
    let relation : get_or old joined.relation c.index-relations-joined.result ≡ get_or old joined.relation none =
    sym read ∙ get_or_read old joined.relation c.index-relations-joined.result there read none in
    let grown : IsGrown (get_or old joined.relation none) c.index.new.self = subst (λ (s : Stored). IsGrown s c.index.new.self) relation c.index.ensures.grown in
    joined_grown old query c.args.pattern joined c.requires.pattern is c.requires.query.patterns c.index.new.self grown

pub returns-clause-grown : goal.returns-clause-grown
returns-clause-grown c =
    let old = c.args.relations.now in
    let query = c.args.query.now in
    let joined = c.index-as_slice-pattern.result in
    let read = c.index-relations-joined.is in
    let is : joined ≡ pattern_at query c.args.pattern =
    get_or_read query.patterns c.args.pattern joined c.requires.pattern (subst (λ (l : List Pattern). joined ≡ get_or l c.args.pattern joined) c.as_slice.ensures c.index-as_slice-pattern.is) nowhere in
    let there = joined_there old query c.args.pattern joined c.requires.pattern is c.requires.query.patterns in
    let relation : get_or old joined.relation c.index-relations-joined.result ≡ get_or old joined.relation none =
    sym read ∙ get_or_read old joined.relation c.index-relations-joined.result there read none in
    let grown : IsGrown (get_or old joined.relation none) c.index.new.self = subst (λ (s : Stored). IsGrown s c.index.new.self) relation c.index.ensures.grown in
    joined_grown old query c.args.pattern joined c.requires.pattern is c.requires.query.patterns c.index.new.self grown

pub returns-clause-step : goal.returns-clause-step
returns-clause-step c =
    let old = c.args.relations.now in
    let query = c.args.query.now in
    let joined = c.index-as_slice-pattern.result in
    let read = c.index-relations-joined.is in
    let is : joined ≡ pattern_at query c.args.pattern =
    get_or_read query.patterns c.args.pattern joined c.requires.pattern (subst (λ (l : List Pattern). joined ≡ get_or l c.args.pattern joined) c.as_slice.ensures c.index-as_slice-pattern.is) nowhere in
    let there = joined_there old query c.args.pattern joined c.requires.pattern is c.requires.query.patterns in
    let relation : get_or old joined.relation c.index-relations-joined.result ≡ get_or old joined.relation none =
    sym read ∙ get_or_read old joined.relation c.index-relations-joined.result there read none in
    let grown : IsGrown (get_or old joined.relation none) c.index.new.self = subst (λ (s : Stored). IsGrown s c.index.new.self) relation c.index.ensures.grown in
    let parts = c.in_ok-parts.parts in
    let variables = c.as_slice-variables.result.now in
    let bound = c.args.bound.now.items in
    let before : c.extend_from_slice.new.self.items ≡ bound = c.in_ok-extend_from_slice.ensures.items ∙ ap (λ (k : List ℕ). k ++ c.deref.result.now) c.new-before.ensures.items ∙ c.deref.ensures.value in
    let after : c.put_picked.new.all.items ≡ bound ++ picked variables parts.fresh.items = c.in_ok-put_picked.ensures ∙ ap (λ (k : List ℕ). bound ++ picked variables k) c.deref-3.ensures.value in
    joined_step old query c.args.pattern joined c.requires.pattern is c.requires.query.patterns c.index.new.self grown
    (record { pattern = c.args.pattern; relation = joined.relation; index = c.in_ok-index.index; bound = c.extend_from_slice.new.self; places = parts.places; fresh = parts.fresh })
    parts variables bound c.put_picked.new.all.items c.as_slice-variables.ensures refl refl before (subst (λ (k : List ℕ). IsSplit variables k parts) c.deref-2.ensures.value c.in_ok-parts.ensures) c.in_ok-index.ensures.index refl refl after
