use Rattle.std.specs.Prelude.{◌≡◌, ℕ, slice_get, Some}
use Rattle.std.proofs.lemmas.Result.{IfOk-weaker}
use Rattle.mast_terms.specs.declared.term.Term.TheVariants as term
use Rattle.mast_numbers.specs.declared.key.Key.TheVariants as key
use Rattle.mast_numbers.specs.inside.Keys.{terms_of}
use Rattle.mast_numbers.proofs.JoinLemmas.{at_ok}
use Rattle.mast_numbers.proofs.TermLemmas.{joined_keys, one_each, view_joined, view_place, view_value}
use Rattle.mast_numbers.proofs.terms.Terms.value.Goals as goal

pub invariant_of-self : goal.invariant_of-self
invariant_of-self c =
    joined_keys c.self.inside.symbols.keys c.self.inside.keys.keys c.join.new.set.keys (key.Value c.in_ok-copy.field-0) c.self.invariant tt c.join.ensures.joined c.join.ensures.once c.join.ensures.few

pub returns-clause-place : goal.returns-clause-place
returns-clause-place c =
    let t = c.self.inside in
    IfOk-weaker c.join.result (λ (n : ℕ). slice_get c.join.new.set.keys n ≡ Some (key.Value c.in_ok-copy.field-0)) (λ (n : ℕ). slice_get (terms_of t.symbols.keys c.join.new.set.keys) n ≡ Some (term.Value c.args.value.now))
    (view_place t.symbols.keys t.keys.keys c.args.self.now c.self.view_is c.self.invariant (key.Value c.in_ok-copy.field-0) tt (term.Value c.args.value.now) (view_value t.symbols.keys t.keys.keys c.args.self.now c.self.view_is c.self.invariant c.in_ok-copy.field-0 c.args.value.now c.in_ok-copy.ensures.equal) c.join.new.set.keys c.join.ensures.joined)
    c.join.ensures.place

pub returns-clause-joined : goal.returns-clause-joined
returns-clause-joined c =
    let t = c.self.inside in
    at_ok c.join.result (view_joined t.symbols.keys t.keys.keys c.args.self.now c.self.view_is c.self.invariant (key.Value c.in_ok-copy.field-0) tt (term.Value c.args.value.now) (view_value t.symbols.keys t.keys.keys c.args.self.now c.self.view_is c.self.invariant c.in_ok-copy.field-0 c.args.value.now c.in_ok-copy.ensures.equal) c.join.new.set.keys c.join.ensures.joined)

pub returns-clause-once : goal.returns-clause-once
returns-clause-once c =
    at_ok c.join.result (one_each c.self.inside.symbols.keys c.join.new.set.keys (joined_keys c.self.inside.symbols.keys c.self.inside.keys.keys c.join.new.set.keys (key.Value c.in_ok-copy.field-0) c.self.invariant tt c.join.ensures.joined c.join.ensures.once c.join.ensures.few))
