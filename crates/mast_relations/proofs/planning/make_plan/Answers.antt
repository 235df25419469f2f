use Rattle.std.proofs.Common.{◌≡◌, ◌<◌, ◌⊎◌, ◌++◌, inl, inr, List, [], ℕ, length, get_or, ap, sym, subst, ◌∙◌}
use Rattle.std.proofs.lemmas.List.{get_or_read}
use Rattle.mast_relations.specs.declared.query.Pattern.{Pattern}
use Rattle.mast_relations.specs.Matches.{In, IsConjunction, IsPattern, Rows, relation_of}
use Rattle.mast_relations.specs.Plans.{AreBelow, AreSteps, Once, none, picked}
use Rattle.mast_relations.specs.Slices.{nowhere, pattern_at}
use Rattle.mast_relations.specs.Stores.{Stored, contents}
use Rattle.mast_relations.specs.inside.Planning.{AreNumbersTo, AreWithin}
use Rattle.mast_relations.proofs.ListLemmas.{each_at_place, once_each}
use Rattle.mast_relations.proofs.MatchLemmas.{rows_at}
use Rattle.mast_relations.proofs.PlanningLemmas.{all_taken, done_within, joined_there, removed}
use Rattle.mast_relations.proofs.StoreLemmas.{grown_contents, grown_steps}
use Rattle.mast_relations.proofs.planning.make_plan.Goals as goal

pub steps-requires-2-clause-query : goal.steps-requires-2-clause-query
steps-requires-2-clause-query c =
    subst (λ (k : List Rows). IsConjunction k c.args.query) (sym (grown_contents c.args.relations.now c.steps.new.relations c.steps.ensures.grown)) c.requires

pub places_of-requires : goal.places_of-requires
places_of-requires c =
    let query = c.args.query in
    let numbers = c.in_ok-left.left.items in
    let at = c.choose.result in
    let start = c.remove-start.result in
    let left = c.remove-start.new.self.items in
    let rest = c.steps.new.left.items in
    let bound = c.steps.new.bound.items in
    let are : AreNumbersTo (length query.patterns) numbers = subst (λ (l : List Pattern). AreNumbersTo (length l) numbers) c.as_slice-patterns.ensures c.in_ok-left.ensures in
    let lt : at < length numbers = subst (λ (l : List ℕ). at < length l) c.deref.ensures.value c.choose.ensures in
    let number : start ≡ get_or numbers at 0 = get_or_read numbers at start lt c.remove-start.ensures.value 0 in
    let within : start < length query.patterns = subst (λ (k : ℕ). k < length query.patterns) (sym number) (each_at_place (λ (k : ℕ). k < length query.patterns) 0 numbers at are.below lt) in
    let pattern = c.index-patterns-start.result in
    let is : pattern ≡ pattern_at query start =
    get_or_read query.patterns start pattern within (subst (λ (l : List Pattern). pattern ≡ get_or l start pattern) c.as_slice-patterns.ensures c.index-patterns-start.is) nowhere in
    let first : c.extend_from_slice.new.self.items ≡ (pattern_at query start).variables =
    c.in_ok-extend_from_slice.ensures.items ∙ ap (λ (k : List ℕ). k ++ c.as_slice.result.now) c.new-bound.ensures.items ∙ c.as_slice.ensures ∙ ap (λ (k : Pattern). k.variables) is in
    let all : (n : ℕ) → n < length query.patterns → (n ≡ start) ⊎ In n left = λ n below. elim (removed numbers at n lt (are.all n below)) [
      | inl e ↦ inl (e ∙ sym number)
      | inr j ↦ inr (subst (λ (k : List ℕ). In n k) (sym c.remove-start.ensures.items) j)
    ] in
    let done : (rest ≡ []) ⊎ AreWithin query.answer bound = subst (λ (k : List ℕ). (rest ≡ []) ⊎ AreWithin k bound) c.as_slice-2.ensures c.in_ok-joined.ensures.done in
    let answered = done_within c.steps.new.relations query start c.extend_from_slice.new.self.items left rest bound query.answer c.in_ok-joined.joined.items first all c.in_ok-joined.ensures.taken c.in_ok-joined.ensures.steps c.requires.answered done in
    subst (λ (k : List ℕ). AreWithin k c.deref-3.result.now) (sym c.as_slice-3.ensures) (subst (λ (k : List ℕ). AreWithin query.answer k) (sym c.deref-3.ensures.value) answered)

pub returns-clause-plan : goal.returns-clause-plan
returns-clause-plan c =
    let old = c.args.relations.now in
    let mid = c.steps.new.relations in
    let new = c.steps-2.new.relations in
    let query = c.args.query in
    let numbers = c.in_ok-left.left.items in
    let at = c.choose.result in
    let start = c.remove-start.result in
    let left = c.remove-start.new.self.items in
    let rest = c.steps.new.left.items in
    let bound = c.steps.new.bound.items in
    let are : AreNumbersTo (length query.patterns) numbers = subst (λ (l : List Pattern). AreNumbersTo (length l) numbers) c.as_slice-patterns.ensures c.in_ok-left.ensures in
    let lt : at < length numbers = subst (λ (l : List ℕ). at < length l) c.deref.ensures.value c.choose.ensures in
    let number : start ≡ get_or numbers at 0 = get_or_read numbers at start lt c.remove-start.ensures.value 0 in
    let within : start < length query.patterns = subst (λ (k : ℕ). k < length query.patterns) (sym number) (each_at_place (λ (k : ℕ). k < length query.patterns) 0 numbers at are.below lt) in
    let pattern = c.index-patterns-start.result in
    let is : pattern ≡ pattern_at query start =
    get_or_read query.patterns start pattern within (subst (λ (l : List Pattern). pattern ≡ get_or l start pattern) c.as_slice-patterns.ensures c.index-patterns-start.is) nowhere in
    let first : c.extend_from_slice.new.self.items ≡ (pattern_at query start).variables =
    c.in_ok-extend_from_slice.ensures.items ∙ ap (λ (k : List ℕ). k ++ c.as_slice.result.now) c.new-bound.ensures.items ∙ c.as_slice.ensures ∙ ap (λ (k : Pattern). k.variables) is in
    let all : (n : ℕ) → n < length query.patterns → (n ≡ start) ⊎ In n left = λ n below. elim (removed numbers at n lt (are.all n below)) [
      | inl e ↦ inl (e ∙ sym number)
      | inr j ↦ inr (subst (λ (k : List ℕ). In n k) (sym c.remove-start.ensures.items) j)
    ] in
    let joined = c.in_ok-joined.joined.items in
    let asked = c.in_ok-asked.asked.items in
    let end = c.steps-2.new.bound.items in
    let same : contents new ≡ contents old = grown_contents mid new c.steps-2.ensures.grown ∙ grown_contents old mid c.steps.ensures.grown in
    let here : IsPattern (contents old) (pattern_at query start) = each_at_place (IsPattern (contents old)) nowhere query.patterns start c.requires.patterns within in
    let there = joined_there old query start pattern within is c.requires.patterns in
    let read = c.index-relations-relation.is in
    let relation : get_or old pattern.relation c.index-relations-relation.result ≡ get_or old pattern.relation none =
    sym read ∙ get_or_read old pattern.relation c.index-relations-relation.result there read none in
    let rows : c.rows.result.now ≡ relation_of (contents new) (pattern_at query start) =
    c.rows.ensures ∙ ap (λ (k : Stored). k.rows) relation ∙ ap (λ (k : Pattern). (get_or old k.relation none).rows) is ∙ sym (rows_at old (pattern_at query start)) ∙ ap (λ (k : List Rows). relation_of k (pattern_at query start)) (sym same) in
    let second : c.extend_from_slice-2.new.self.items ≡ bound =
    c.in_ok-extend_from_slice-2.ensures.items ∙ ap (λ (k : List ℕ). k ++ c.deref-2.result.now) c.new-end.ensures.items ∙ c.deref-2.ensures.value in
    record {
      begins = within;
      first = subst (λ (k : List Rows). IsPattern k (pattern_at query start)) (sym same) here;
      relation = ap (λ (k : Pattern). k.relation) is;
      size = c.len-size.ensures.len ∙ ap (λ (k : Rows). length k.list) rows;
      joined = subst (λ (k : List ℕ). AreSteps new query k joined bound) first (grown_steps mid new query c.extend_from_slice.new.self.items joined bound c.steps-2.ensures.grown c.in_ok-joined.ensures.steps);
      asked = subst (λ (k : List ℕ). AreSteps new query k asked end) second c.in_ok-asked.ensures.steps;
      once = c.in_ok-asked.ensures.once (subst (λ (k : List ℕ). Once k) (sym second) (c.in_ok-joined.ensures.once (subst (λ (k : List ℕ). Once k) (sym first) (once_each (pattern_at query start).variables here.different))));
      all = all_taken start (length query.patterns) left rest c.steps-2.new.left.items joined asked all c.in_ok-joined.ensures.taken c.in_ok-asked.ensures.taken c.in_ok-asked.ensures.done;
      answer = subst (λ (k : List ℕ). AreBelow (length k) c.in_ok-answer.answer.items) c.deref-3.ensures.value c.in_ok-answer.ensures.0;
      answers = ap (λ (k : List ℕ). picked k c.in_ok-answer.answer.items) (sym c.deref-3.ensures.value) ∙ c.in_ok-answer.ensures.1 ∙ c.as_slice-3.ensures;
    }
