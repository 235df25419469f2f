use Rattle.std.specs.Prelude.{◌≡◌, ℕ, slice_get, Some}
use Rattle.std.proofs.lemmas.Result.{IfOk-weaker}
use Rattle.mast_terms.specs.declared.term.Term.TheVariants as term
use Rattle.mast_numbers.specs.Numbered.{object_of}
use Rattle.mast_numbers.specs.declared.key.Key.TheVariants as key
use Rattle.mast_numbers.specs.inside.Keys.{terms_of}
use Rattle.mast_numbers.proofs.JoinLemmas.{at_ok}
use Rattle.mast_numbers.proofs.TermLemmas.{joined_keys, one_each, view_joined, view_place, view_object, view_refers}
use Rattle.mast_numbers.proofs.terms.Terms.object.Goals as goal

pub invariant_of-self : goal.invariant_of-self
invariant_of-self c =
    let t = c.self.inside in
    joined_keys t.symbols.keys t.keys.keys c.join.new.set.keys (key.Object c.args.symbol c.in_ok-args.args) c.self.invariant
    (view_refers t.symbols.keys t.keys.keys c.args.self.now c.self.view_is c.self.invariant c.args.symbol c.in_ok-args.args c.args.args.now c.in_ok-args.ensures c.requires.symbol c.requires.args)
    c.join.ensures.joined c.join.ensures.once c.join.ensures.few

pub returns-clause-place : goal.returns-clause-place
returns-clause-place c =
    let t = c.self.inside in
    IfOk-weaker c.join.result (λ (n : ℕ). slice_get c.join.new.set.keys n ≡ Some (key.Object c.args.symbol c.in_ok-args.args)) (λ (n : ℕ). slice_get (terms_of t.symbols.keys c.join.new.set.keys) n ≡ Some (term.Object (object_of c.args.self.now c.args.symbol c.args.args.now)))
    (view_place t.symbols.keys t.keys.keys c.args.self.now c.self.view_is c.self.invariant (key.Object c.args.symbol c.in_ok-args.args)
    (view_refers t.symbols.keys t.keys.keys c.args.self.now c.self.view_is c.self.invariant c.args.symbol c.in_ok-args.args c.args.args.now c.in_ok-args.ensures c.requires.symbol c.requires.args)
    (term.Object (object_of c.args.self.now c.args.symbol c.args.args.now))
    (view_object t.symbols.keys t.keys.keys c.args.self.now c.self.view_is c.self.invariant c.args.symbol c.in_ok-args.args c.args.args.now c.in_ok-args.ensures)
    c.join.new.set.keys c.join.ensures.joined)
    c.join.ensures.place

pub returns-clause-joined : goal.returns-clause-joined
returns-clause-joined c =
    let t = c.self.inside in
    at_ok c.join.result (view_joined t.symbols.keys t.keys.keys c.args.self.now c.self.view_is c.self.invariant (key.Object c.args.symbol c.in_ok-args.args)
    (view_refers t.symbols.keys t.keys.keys c.args.self.now c.self.view_is c.self.invariant c.args.symbol c.in_ok-args.args c.args.args.now c.in_ok-args.ensures c.requires.symbol c.requires.args)
    (term.Object (object_of c.args.self.now c.args.symbol c.args.args.now))
    (view_object t.symbols.keys t.keys.keys c.args.self.now c.self.view_is c.self.invariant c.args.symbol c.in_ok-args.args c.args.args.now c.in_ok-args.ensures)
    c.join.new.set.keys c.join.ensures.joined)

pub returns-clause-once : goal.returns-clause-once
returns-clause-once c =
    let t = c.self.inside in
    at_ok c.join.result (one_each t.symbols.keys c.join.new.set.keys (joined_keys t.symbols.keys t.keys.keys c.join.new.set.keys (key.Object c.args.symbol c.in_ok-args.args) c.self.invariant
    (view_refers t.symbols.keys t.keys.keys c.args.self.now c.self.view_is c.self.invariant c.args.symbol c.in_ok-args.args c.args.args.now c.in_ok-args.ensures c.requires.symbol c.requires.args)
    c.join.ensures.joined c.join.ensures.once c.join.ensures.few))
